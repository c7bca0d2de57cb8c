-- A block in the cache of a link, with one more event.
use Rattle.std.proofs.Common.{◌≡◌, ◌∙◌, ◌+◌, ◌<◌, ℕ, Bool, true, false, List, [], ◌∷◌, length, refl, ap, sym, cond}
use Rattle.std.proofs.Common.{◌++◌, ◌≤◌, append_assoc, ap₂, arith, codes, subst}
use Rattle.std.proofs.lemmas.Bool.{eq-eqb, ne_eqb}
use Rattle.std.specs.Prelude.{◌==◌, ◌&&◌, Option, None, Result, Ok, Err, OnOk, ⊤}
use Rattle.std.specs.Global.{Vec}
use Rattle.tl_beat.specs.declared.beat.Beat.{Beat}
use Rattle.tl_beat.specs.declared.beat.Beat.TheVariants as beat
use Rattle.tl_beat.specs.declared.beat.BeatC.{BeatC}
use Rattle.tl_beat.specs.declared.beat.BeatD.{BeatD}
use Rattle.tl_beat.specs.declared.beat.Link.{Link}
use Rattle.tl_beat.specs.declared.channel.Channel.{Channel}
use Rattle.tl_beat.specs.declared.channel.Channel.TheVariants as channel
use Rattle.tl_burst.specs.statement.Messages.{burst_length, grown, on, unfinished}
use Rattle.tl_commits.specs.statement.Events.{Events, beats_of}
use Rattle.tl_events.specs.declared.commit.Commit.{Commit}
use Rattle.tl_events.specs.declared.commit.Commit.TheVariants as commit
use Rattle.tl_events.specs.declared.commit.Piece.{Piece}
use Rattle.tl_events.specs.declared.commit.Event.{Event}
use Rattle.tl_events.specs.declared.commit.Event.TheVariants as event
use Rattle.tl_explain.specs.statement.Sentences.{beat_line}
use Rattle.tl_monitor.specs.declared.monitor.Monitor.{Monitor}
use Rattle.tl_monitor.specs.statement.Knows.{KnowsUnder, held_on_under}
use Rattle.tl_params.specs.declared.level.Level.{Level}
use Rattle.tl_params.specs.declared.liberties.Liberties.{Liberties}
use Rattle.tl_params.specs.declared.perm.Perm.{Perm}
use Rattle.tl_params.specs.declared.perm.Perm.TheVariants as perm
use Rattle.tl_rules.specs.statement.Conformance.{Trace, on_link, same_perm}
use Rattle.tl_rules.specs.statement.History.{block_at}
use Rattle.tl_commit_story.proofs.Told.{stores-same}
use Rattle.tl_commit_story.specs.code.Following.{FollowsBeat, IsSameBut, IsUnderWay, KnowsGrounds, TakesEvent}
use Rattle.tl_commit_story.specs.code.Stored.{last_in}
use Rattle.tl_commit_story.specs.declared.cached.Cached.{Cached}
use Rattle.tl_commit_story.specs.declared.grounds.Grounds.{Grounds}
use Rattle.tl_commit_story.specs.declared.stores.Stores.{Stores}
use Rattle.tl_commit_story.specs.declared.under_way.UnderWay.{UnderWay}
use Rattle.tl_commit_story.specs.statement.Cached.{begun_by, begun_with, cited, held_since, holding, last_store, moves, Stored}
use Rattle.tl_commit_story.specs.statement.Cached.{store_after}
use Rattle.tl_commit_story.specs.statement.Grounds.{begun_words, grounds_at, holds_words, since_words, stored_words, stores_from}

-- ---- the permission held

pub itself : (p : Perm) → same_perm p p ≡ true
itself perm.None = refl
itself perm.Branch = refl
itself perm.Trunk = refl

-- ---- data under way

module _ {w : ℕ} (ch : Channel) (n : ℕ) (link : Link) (x : Beat w) (t : Trace w) where
  -- the unfinished message of a link, with one more beat of any
  pub unfinished-next : unfinished ch (on_link n ((link, x) ∷ t))
      ≡ cond ((link.0 == n) && on ch x) (grown x (unfinished ch (on_link n t))) (unfinished ch (on_link n t))
  unfolding on_link unfinished
  unfinished-next = go (link.0 == n) refl
    where
      go : (b : Bool) → (link.0 == n) ≡ b
          → unfinished ch (cond b (x ∷ on_link n t) (on_link n t))
          ≡ cond (b && on ch x) (grown x (unfinished ch (on_link n t))) (unfinished ch (on_link n t))
      go true is = refl
      go false is = refl

-- the number of beats of a message with one more
pub grown-length : {w : ℕ} (x : Beat w) (burst : List (Beat w))
    → length (grown x burst) ≡ cond (length burst + 1 == burst_length x) 0 (length burst + 1)
grown-length x burst = go (length burst + 1 == burst_length x)
  where
    go : (b : Bool) → length (cond b [] (x ∷ burst)) ≡ cond b 0 (length burst + 1)
    go true = refl
    go false = omega arith

module _ {w : ℕ} (u : UnderWay) (ch : Channel) (levels : List Level) (c : Cached) (link : Link) (e : Events w)
    (k : IsUnderWay u ch levels c e) where
  -- a commit
  pub under_way-commit : (x : Commit) → IsUnderWay u ch levels c ((link, event.Commit x) ∷ e)
  unfolding beats_of begun_by
  under_way-commit x = record { came_is = k.came_is; begun_is = k.begun_is }

  -- a beat of another link or another channel
  pub under_way-left : (x : Beat w) → ((link.0 == c.link.0) && on ch x) ≡ false
      → IsUnderWay u ch levels c ((link, event.Beat x) ∷ e)
  unfolding beats_of begun_by
  under_way-left x other = record {
    came_is = rw (unfinished-next ch c.link.0 link x (beats_of e), other) k.came_is;
    begun_is = rw other k.begun_is;
  }

  -- a beat of the channel of the link
  pub under_way-taken : (new : UnderWay) (x : Beat w) → ((link.0 == c.link.0) && on ch x) ≡ true
      → new.came ≡ cond (u.came + 1 == burst_length x) 0 (u.came + 1)
      → new.begun.items
      ≡ begun_with (moves levels c x e) (cited link (event.Beat x) e) (burst_length x) u.came u.begun.items
      → IsUnderWay new ch levels c ((link, event.Beat x) ∷ e)
  unfolding beats_of begun_by
  under_way-taken new x ours counts notes = record {
    came_is = rw (
      unfinished-next ch c.link.0 link x (beats_of e),
      ours,
      grown-length x (unfinished ch (on_link c.link.0 (beats_of e))),
      ← k.came_is,
    ) counts;
    begun_is = rw (ours, ← k.came_is, ← k.begun_is) notes;
  }

-- ---- all that is kept

-- with a commit the permission held stays
commit-since : {w : ℕ} (may : Liberties) (levels : List Level) (c : Cached) (link : Link) (x : Commit) (e : Events w)
    → held_since may levels c ((link, event.Commit x) ∷ e) ≡ held_since may levels c e
unfolding held_since beats_of
commit-since may levels c link x e = rw (itself (holding may levels c e)) refl

-- the last store to a byte with one more event
store-next : {w : ℕ} (block place number : ℕ) (link : Link) (x : Event w) (e : Events w) (kept : Option Stored)
    → number ≡ length e + 2 → kept ≡ last_store block place e
    → store_after block place number link x kept ≡ last_store block place ((link, x) ∷ e)
unfolding last_store
store-next {w} block place number link x e kept at is =
    ap₂ (λ (n : ℕ) (o : Option Stored). store_after {w = w} block place n link x o) at is

-- the grounds behind a commit, after which these stores are kept
pub commit-taken : {w : ℕ} (old : Grounds w) (stores : Stores) (number : ℕ) (link : Link) (x : Commit)
    → ((place : ℕ) → place < 64 → last_in stores.last place
    ≡ store_after {w = w} old.cached.block place number link (event.Commit x) (last_in old.stores.last place))
    → TakesEvent old (record old { stores = stores }) number link (event.Commit x)
unfolding beats_of last_store
commit-taken old stores number link x takes = λ may levels e is k. record {
  monitor_is = k.monitor_is;
  since_is = k.since_is ∙ sym (commit-since may levels old.cached link x e);
  granting_is = under_way-commit old.granting channel.D levels old.cached link e k.granting_is x;
  giving_is = under_way-commit old.giving channel.C levels old.cached link e k.giving_is x;
  stores_are = λ place lt. takes place lt
      ∙ store-next old.cached.block place number link (event.Commit x) e _ is (k.stores_are place lt);
}

-- the words of the last change with one more beat
since-next : {w : ℕ} (may : Liberties) (levels : List Level) (c : Cached) (number : ℕ) (link : Link) (x : Beat w)
    (e : Events w) (before after : Perm) (kept : List ℕ) → number ≡ length e + 2 → before ≡ holding may levels c e
    → after ≡ holding may levels c ((link, event.Beat x) ∷ e) → kept ≡ held_since may levels c e
    → cond (same_perm after before) kept (beat_line number link x)
    ≡ held_since may levels c ((link, event.Beat x) ∷ e)
unfolding held_since
since-next may levels c number link x e before after kept at was is same = rw (at, was, is, same) refl

-- the grounds behind a beat, with which the monitor and the words of the last change go so on
pub beat-taken : {w : ℕ} (old mid : Grounds w) (monitor : Monitor w) (since : Vec ℕ) (number : ℕ) (link : Link)
    (x : Beat w) (before after : Perm) → IsSameBut old mid → FollowsBeat old mid number link x
    → ((levels : List Level) (may : Liberties) (t : Trace w) → KnowsUnder mid.monitor levels may t false
    → KnowsUnder monitor levels may ((link, x) ∷ t) false)
    → ((levels : List Level) (may : Liberties) (t : Trace w) → KnowsUnder mid.monitor levels may t false
    → before ≡ held_on_under may levels mid.cached.link mid.cached.block t)
    → ((levels : List Level) (may : Liberties) (t : Trace w) → KnowsUnder monitor levels may t false
    → after ≡ held_on_under may levels mid.cached.link mid.cached.block t)
    → since.items ≡ cond (same_perm after before) mid.since.items (beat_line number link x)
    → TakesEvent old (record mid { monitor = monitor; since = since }) number link (event.Beat x)
unfolding beats_of last_store held_since
beat-taken old mid monitor since number link x before after same follows pushes was is notes = λ may levels e at k.
    let known : KnowsUnder mid.monitor levels may (beats_of e) false = rw same.monitor_is k.monitor_is in
    let next = pushes levels may (beats_of e) known in
    let (granting, giving) = follows may levels e at k.monitor_is in
    let kept : mid.since.items ≡ held_since may levels mid.cached e =
    ap (λ (v : Vec ℕ). v.items) same.since_is
    ∙ subst (λ (c : Cached). old.since.items ≡ held_since may levels c e) (sym same.cached_is) k.since_is in
    record {
      monitor_is = next;
      since_is = notes ∙ since-next may levels mid.cached number link x e before after mid.since.items at
          (was levels may (beats_of e) known) (is levels may ((link, x) ∷ beats_of e) next) kept;
      granting_is = subst (λ (c : Cached). IsUnderWay mid.granting channel.D levels c ((link, event.Beat x) ∷ e))
          (sym same.cached_is) (granting k.granting_is);
      giving_is = subst (λ (c : Cached). IsUnderWay mid.giving channel.C levels c ((link, event.Beat x) ∷ e))
          (sym same.cached_is) (giving k.giving_is);
      stores_are = λ place lt.
          subst (λ (c : Cached). last_in mid.stores.last place ≡ last_store c.block place e) (sym same.cached_is)
          (subst (λ (s : Stores). last_in s.last place ≡ last_store old.cached.block place e) (sym same.stores_are)
          (k.stores_are place lt));
    }

-- nothing is known yet
pub fresh : {w : ℕ} (g : Grounds w) (levels : List Level) (may : Liberties) → KnowsUnder g.monitor levels may [] false
    → g.since.items ≡ [] → g.granting.came ≡ 0 → g.granting.begun.items ≡ [] → g.giving.came ≡ 0
    → g.giving.begun.items ≡ [] → ((place : ℕ) → place < 64 → last_in g.stores.last place ≡ None)
    → KnowsGrounds g may levels []
unfolding beats_of last_store held_since begun_by on_link unfinished
fresh g levels may known since granted granting given giving stores = record {
  monitor_is = known;
  since_is = since;
  granting_is = record { came_is = granted; begun_is = granting };
  giving_is = record { came_is = given; begun_is = giving };
  stores_are = stores;
}

-- ---- the messages of the link

not-on : (b : Bool) → (b && false) ≡ false
not-on true = refl
not-on false = refl

module _ {w : ℕ} (old : Grounds w) (number : ℕ) (link : Link) where
  -- a beat of a channel that isn't followed, or of another link
  left-both : (x : Beat w) → ((link.0 == old.cached.link.0) && on channel.D x) ≡ false
      → ((link.0 == old.cached.link.0) && on channel.C x) ≡ false → FollowsBeat old old number link x
  left-both x granting giving = λ may levels e at known. (
    λ k. under_way-left old.granting channel.D levels old.cached link e k x granting,
    λ k. under_way-left old.giving channel.C levels old.cached link e k x giving,
  )

  pub follow-other : (x : Beat w) → (link.0 ≡ old.cached.link.0 → ⊥) → FollowsBeat old old number link x
  follow-other x other =
      let no : (link.0 == old.cached.link.0) ≡ false = ne_eqb link.0 old.cached.link.0 other in
      left-both x (rw no refl) (rw no refl)

  pub follow-silent : (x : Beat w) → ((y : BeatC w) → x ≡ beat.C y → ⊥) → ((y : BeatD w) → x ≡ beat.D y → ⊥)
      → FollowsBeat old old number link x
  follow-silent (beat.A y) report grant = left-both (beat.A y) (not-on _) (not-on _)
  follow-silent (beat.B y) report grant = left-both (beat.B y) (not-on _) (not-on _)
  follow-silent (beat.C y) report grant = absurd (report y refl)
  follow-silent (beat.D y) report grant = absurd (grant y refl)
  follow-silent (beat.E y) report grant = left-both (beat.E y) (not-on _) (not-on _)

  -- what a message under way says of its next beat
  abbrev Takes : UnderWay → UnderWay → Bool → Beat w → Type 0
  Takes was is mv x =
      (is.came ≡ cond (was.came + 1 == burst_length x) 0 (was.came + 1))
      × (is.begun.items ≡ begun_with mv (beat_line number link x) (burst_length x) was.came was.begun.items)

  module _ (own : link.0 ≡ old.cached.link.0) where
    same-link : (b : Bool) → b ≡ true → ((link.0 == old.cached.link.0) && b) ≡ true
    same-link b is = rw (eq-eqb link.0 old.cached.link.0 own, is) refl

    report-followed : (giving : UnderWay) (mv : Bool) (y : BeatC w) → mv ≡ (block_at y.address == old.cached.block)
        → Takes old.giving giving mv (beat.C y)
        → FollowsBeat old (record old { giving = giving }) number link (beat.C y)
    report-followed giving mv y is takes = λ may levels e at known. (
      λ k. under_way-left old.granting channel.D levels old.cached link e k (beat.C y) (not-on _),
      λ k. under_way-taken old.giving channel.C levels old.cached link e k giving (beat.C y) (same-link true refl)
          takes.0 (rw (← at, ← is) takes.1),
    )

    grant-followed : (granting : UnderWay) (mv : Bool) (y : BeatD w)
        → ((levels : List Level) (may : Liberties) (e : Events w) → KnowsUnder old.monitor levels may (beats_of e) false
        → mv ≡ moves levels old.cached (beat.D y) e)
        → Takes old.granting granting mv (beat.D y)
        → FollowsBeat old (record old { granting = granting }) number link (beat.D y)
    grant-followed granting mv y is takes = λ may levels e at known. (
      λ k. under_way-taken old.granting channel.D levels old.cached link e k granting (beat.D y) (same-link true refl)
          takes.0 (rw (← at, ← is levels may e known) takes.1),
      λ k. under_way-left old.giving channel.C levels old.cached link e k (beat.D y) (not-on _),
    )

    pub follow-report : (giving : UnderWay) (mv : Bool) (x : Beat w) (y : BeatC w) → x ≡ beat.C y
        → mv ≡ (block_at y.address == old.cached.block) → Takes old.giving giving mv x
        → FollowsBeat old (record old { giving = giving }) number link x
    follow-report giving mv x y at is = subst (λ (z : Beat w). Takes old.giving giving mv z
        → FollowsBeat old (record old { giving = giving }) number link z) (sym at) (report-followed giving mv y is)

    pub follow-grant : (granting : UnderWay) (mv : Bool) (x : Beat w) (y : BeatD w) → x ≡ beat.D y
        → ((levels : List Level) (may : Liberties) (e : Events w) → KnowsUnder old.monitor levels may (beats_of e) false
        → mv ≡ moves levels old.cached (beat.D y) e)
        → Takes old.granting granting mv x
        → FollowsBeat old (record old { granting = granting }) number link x
    follow-grant granting mv x y at is = subst (λ (z : Beat w). Takes old.granting granting mv z
        → FollowsBeat old (record old { granting = granting }) number link z) (sym at) (grant-followed granting mv y is)

-- of an answer with both facts
pub on-both : {E : Type 0} (r : Result ⊤ E) (P Q : Type 0) → OnOk r P → OnOk r Q → OnOk r (P × Q)
on-both (Ok u) P Q p q = (p, q)
on-both (Err e) P Q p q = tt

-- a commit that is no store
pub commit-passed : {w : ℕ} (old : Grounds w) (number : ℕ) (link : Link) (x : Commit)
    → ((piece : Piece) (value : ℕ) → x ≡ commit.Store piece value → ⊥)
    → TakesEvent old old number link (event.Commit x)
unfolding last_store
commit-passed old number link (commit.Store piece value) other = absurd (other piece value refl)
commit-passed old number link (commit.Load piece value) other =
    commit-taken old old.stores number link (commit.Load piece value) (λ place lt. refl)
commit-passed old number link (commit.Begin piece) other =
    commit-taken old old.stores number link (commit.Begin piece) (λ place lt. refl)

-- ---- the text

-- the grounds, one after the other
pub grounds-told : {w : ℕ} (g : Grounds w) (may : Liberties) (levels : List Level) (e : Events w) (first count : ℕ)
    (perm : Perm) (was holds since granting giving total : List ℕ) → KnowsGrounds g may levels e → first + count ≤ 64
    → perm ≡ holding may levels g.cached e → holds ≡ was ++ holds_words g.cached perm
    → since ≡ holds ++ since_words g.since.items
    → granting ≡ since ++ begun_words (codes "  a GrantData of the block is under way since:\n") g.granting.begun.items
    → giving ≡ granting
    ++ begun_words (codes "  a ProbeAckData or ReleaseData of the block is under way since:\n") g.giving.begun.items
    → total ≡ giving ++ stored_words (stores_from (last_in g.stores.last) first count 0)
    → total ≡ was ++ grounds_at may levels g.cached (first, count) e
unfolding grounds_at
grounds-told g may levels e first count perm was holds since granting giving total k within is one two three four five =
    let stores = stores-same (last_in g.stores.last) (λ place. last_store g.cached.block place e) first count 0
    (λ p lt. k.stores_are p (omega (arith, lt, within))) in
    rw (
      five,
      four,
      three,
      two,
      one,
      is,
      k.since_is,
      k.granting_is.begun_is,
      k.giving_is.begun_is,
      stores,
      append_assoc,
      append_assoc,
      append_assoc,
      append_assoc,
    ) refl
