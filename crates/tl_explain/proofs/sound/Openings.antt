-- What is told for a rule is so, and makes it broken.
use Rattle.std.proofs.Common.{◌≡◌, ℕ, ◌+◌, ◌<◌, ◌==◌, ◌&&◌, ◌++◌, List, [], ◌∷◌, length, true, false, Bool}
use Rattle.std.proofs.Common.{refl, sym, ap, ap₂, ◌∙◌, arith}
use Rattle.std.specs.Prelude.{Option, Some, None, if◌then◌else◌, nat_le}
use Rattle.std.proofs.lemmas.Bool.{eqb-true}
use Rattle.tl_beat.specs.declared.beat.Beat.{Beat}
use Rattle.tl_beat.specs.declared.beat.Beat.TheVariants as beat
use Rattle.tl_beat.specs.declared.beat.Link.{Link}
use Rattle.tl_beat.specs.declared.channel.Channel.{Channel}
use Rattle.tl_burst.specs.statement.Messages.{History, burst_length, carried_on, grown, on, unfinished}
use Rattle.tl_burst.specs.statement.Part.{is_empty}
use Rattle.tl_monitor.proofs.Continued.{own-channel}
use Rattle.tl_params.specs.declared.key.Key.{Key}
use Rattle.tl_params.specs.declared.key.Key.TheVariants.{RequestSource, ReleaseSource, AcquireOf, ReleaseOf, GrantSink}
use Rattle.tl_params.specs.declared.key.Key.TheVariants.{GrantAckOf, ProbeOf}
use Rattle.tl_rules.specs.statement.Conformance.{Trace, on_link}
use Rattle.tl_rules.specs.statement.History.{begins, block_at, opens, is_probe}
use Rattle.tl_rules.specs.statement.History.{is_release}
use Rattle.tl_beat.specs.statement.Control.{control_of}
use Rattle.tl_beat.specs.declared.control.Control.{Control}
use Rattle.tl_beat.specs.declared.control.Control.TheVariants as control
use Rattle.tl_explain.specs.declared.told.Mention.{Mention}
use Rattle.tl_explain.specs.declared.told.Told.{Told}
use Rattle.tl_explain.specs.declared.turn.Turn.{Turn}
use Rattle.tl_explain.specs.code.Recorded.{IsTurn, comes_by, open_message}
use Rattle.tl_explain.specs.statement.Evidence.{burst_opening, is_open}
use Rattle.tl_explain.specs.statement.Reasons.{comes_in}
use Rattle.tl_explain.specs.statement.Evidence.{mention_of, told}
use Rattle.tl_explain.specs.statement.Since.{IsBurstSince, IsPendingSince}
use Rattle.tl_explain.proofs.Places.{pending_since}
use Rattle.tl_explain.proofs.Rests.{pending_open}
use Rattle.tl_explain.proofs.Plain.{is_one, both_true}

pub later_line : (a b : ℕ) → nat_le a b ≡ false → b < a
later_line a b e = grind arith

-- ---- keys

-- the newest beat of a burst tells of which key it is
pub comes-is : {w : ℕ} (k : Key) (y : Beat w) (ys : List (Beat w)) → comes_by k (control_of y) ≡ comes_in k (y ∷ ys)
comes-is (RequestSource s) (beat.A x) ys = refl
comes-is (RequestSource s) (beat.B x) ys = refl
comes-is (RequestSource s) (beat.C x) ys = refl
comes-is (RequestSource s) (beat.D x) ys = refl
comes-is (RequestSource s) (beat.E x) ys = refl
comes-is (ReleaseSource s) (beat.A x) ys = refl
comes-is (ReleaseSource s) (beat.B x) ys = refl
comes-is (ReleaseSource s) (beat.C x) ys = refl
comes-is (ReleaseSource s) (beat.D x) ys = refl
comes-is (ReleaseSource s) (beat.E x) ys = refl
comes-is (GrantSink s) (beat.A x) ys = refl
comes-is (GrantSink s) (beat.B x) ys = refl
comes-is (GrantSink s) (beat.C x) ys = refl
comes-is (GrantSink s) (beat.D x) ys = refl
comes-is (GrantSink s) (beat.E x) ys = refl
comes-is (AcquireOf k) y ys = refl
comes-is (ReleaseOf k) y ys = refl
comes-is (GrantAckOf k) y ys = refl
comes-is (ProbeOf k) y ys = refl

pub opened_some : (opening closing : Option Told) (m : Told)
    → (if is_open (mention_of opening) (mention_of closing) then opening else None) ≡ Some m
    → (is_open (mention_of opening) (mention_of closing) ≡ true) × (opening ≡ Some m)
opened_some opening closing m e = go (is_open (mention_of opening) (mention_of closing)) refl e
  where
    go : (b : Bool) → is_open (mention_of opening) (mention_of closing) ≡ b → (if b then opening else None) ≡ Some m
        → (is_open (mention_of opening) (mention_of closing) ≡ true) × (opening ≡ Some m)
    go true h f = (h, f)
    go false h f = absurd cc

pub open_since : {w : ℕ} (turn : Turn) (n : ℕ) (k : Key) (t : Trace w) → IsTurn turn n k t → (m : Told)
    → open_message turn ≡ Some m → IsPendingSince n k m.mention t
open_since turn n k t is m e =
    let p = opened_some turn.opening turn.closing m e in
    pending_since n k t m.mention (pending_open n k t ∙ ap₂ is_open (sym is.opening_is) (sym is.closing_is) ∙ p.0)
    (sym is.opening_is ∙ ap mention_of p.1)

-- ---- bursts

pub grown_is : {w : ℕ} (y : Beat w) (u v : List (Beat w)) → v ≡ grown y u → is_empty v ≡ false → v ≡ y ∷ u
grown_is y u v e f = go (length u + 1 == burst_length y) e
  where
    go : (b : Bool) → v ≡ (if b then [] else y ∷ u) → v ≡ y ∷ u
    go true h = absurd cc
    go false h = h

same_number : (a n : ℕ) → (a == n) ≡ true → a ≡ n
same_number a n e = eqb-true a n e

-- the burst goes on, or isn't of this beat
module _ {w : ℕ} (n : ℕ) (ch : Channel) (x : Link × Beat w) (t : Trace w) (m : Mention) where
  abbrev Now : Type 0
  Now = IsBurstSince n ch (unfinished ch (on_link n (x ∷ t))) m (x ∷ t)

  abbrev Before : Type 0
  Before = IsBurstSince n ch (unfinished ch (on_link n t)) m t

  other_link : (x.0.0 == n) ≡ false → Before → Now
  unfolding unfinished on_link carried_on
  other_link own since = (
    x ∷ since.0,
    since.1,
    since.2,
    ap (λ (s : Trace w). x ∷ s) since.3,
    since.4,
    since.5,
    since.6,
    since.7,
    refl,
    rw
        own since.9,
  )

  other_channel : (x.0.0 == n) ≡ true → on ch x.1 ≡ false → Before → Now
  unfolding unfinished on_link carried_on
  other_channel own mine since = (
    x ∷ since.0,
    since.1,
    since.2,
    ap (λ (s : Trace w). x ∷ s) since.3,
    since.4,
    since.5,
    since.6,
    since.7,
    refl,
    rw
        (own, mine) since.9,
  )

  next_is : (x.0.0 == n) ≡ true → on ch x.1 ≡ true
      → unfinished ch (on_link n (x ∷ t)) ≡ grown x.1 (unfinished ch (on_link n t))
  unfolding unfinished on_link
  next_is own mine = rw (own, mine) refl

  first_of_burst : (x.0.0 == n) ≡ true → on ch x.1 ≡ true → unfinished ch (on_link n t) ≡ []
      → is_empty (unfinished ch (on_link n (x ∷ t))) ≡ false
      → told x t ≡ m → Now
  unfolding on_link carried_on
  first_of_burst own mine none some is =
      let one = grown_is x.1 (unfinished ch (on_link n t)) (unfinished ch (on_link n (x ∷ t))) (next_is own mine) some
      in (
        [],
        x,
        t,
        refl,
        sym is,
        same_number x.0.0 n own,
        mine,
        ap (λ (c : Channel). is_empty (unfinished c (on_link n t))) (sym (own-channel ch x.1 mine)) ∙ ap is_empty none,
        refl,
        one ∙ ap (λ (u : List (Beat w)). x.1 ∷ u) none,
      )

  next_of_burst : (x.0.0 == n) ≡ true → on ch x.1 ≡ true → is_empty (unfinished ch (on_link n (x ∷ t))) ≡ false → Before
      → Now
  unfolding carried_on on_link
  next_of_burst own mine some since =
      let one = grown_is x.1 (unfinished ch (on_link n t)) (unfinished ch (on_link n (x ∷ t))) (next_is own mine) some
      in (
        x ∷ since.0,
        since.1,
        since.2,
        ap (λ (s : Trace w). x ∷ s) since.3,
        since.4,
        since.5,
        since.6,
        since.7,
        refl,
        one ∙ ap (λ (u : List (Beat w)). x.1 ∷ u) since.9 ∙ carried since.0 since.1,
      )
    where
      carried : (later : Trace w) (y : Link × Beat w) → x.1 ∷ (carried_on ch (on_link n later) ++ y.1 ∷ []) ≡ carried_on
          ch (on_link n (x ∷ later)) ++ y.1 ∷ []
      carried later y = rw (own, mine) refl

is_no_beat : {w : ℕ} (u : List (Beat w)) → is_empty u ≡ true → u ≡ []
is_no_beat [] e = refl
is_no_beat (x ∷ u) e = absurd cc

pub burst_since : {w : ℕ} (n : ℕ) (ch : Channel) (t : Trace w) (m : Mention) → burst_opening n ch t ≡ Some m
    → IsBurstSince n ch (unfinished ch (on_link n t)) m t
unfolding burst_opening
burst_since n ch [] m e = absurd cc
burst_since {w} n ch (x ∷ t) m e =
    go (burst_since n ch t m) (x.0.0 == n) refl (on ch x.1) refl (is_empty (unfinished ch (on_link n (x ∷ t)))) refl
    (is_empty (unfinished ch (on_link n t))) refl e
  where
    go : (burst_opening n ch t ≡ Some m → IsBurstSince n ch (unfinished ch (on_link n t)) m t) → (here : Bool)
        → (x.0.0 == n) ≡ here
        → (mine : Bool) → on ch x.1 ≡ mine → (done : Bool) → is_empty (unfinished ch (on_link n (x ∷ t))) ≡ done
        → (fresh : Bool) → is_empty (unfinished ch (on_link n t)) ≡ fresh
        → (if here && mine then (if done then None else if fresh then Some (told x t) else burst_opening n ch t) else
        burst_opening n ch t) ≡ Some m
        → IsBurstSince n ch (unfinished ch (on_link n (x ∷ t))) m (x ∷ t)
    go before true own true mine true done fresh was f = absurd cc
    go before true own true mine false done true was f =
        first_of_burst n ch x t m own mine (is_no_beat (unfinished ch (on_link n t)) was) done (is_one f)
    go before true own true mine false done false was f = next_of_burst n ch x t m own mine done (before f)
    go before true own false mine done g fresh was f = other_channel n ch x t m own mine (before f)
    go before false own mine it done g fresh was f = other_link n ch x t m own (before f)

-- ---- what a message that opened a key is

pub opening_of : {w : ℕ} (n : ℕ) (k : Key) (m : Mention) (t : Trace w) → IsPendingSince n k m t
    → (y : Beat w) × (h : History w) × (m.control ≡ control_of y) × (opens k y h ≡ true)
opening_of n k m t since = (
  since.1.1,
  on_link n since.2,
  ap (λ (z : Mention). z.control) since.4,
  last_of (since.1.0.0 == n) (begins since.1.1 (on_link n since.2)) (opens k since.1.1 (on_link n since.2)) since.5,
)
  where
    last_of : (a b c : Bool) → (a && (b && c)) ≡ true → c ≡ true
    last_of true true c e = e
    last_of true false c e = absurd cc
    last_of false b c e = absurd cc

unfoldable pub source_in : Control → ℕ
source_in (control.A x) = x.source
source_in (control.B x) = x.source
source_in (control.C x) = x.source
source_in (control.D x) = x.source
source_in (control.E s) = s

unfoldable pub address_in : Control → ℕ
address_in (control.A x) = x.address
address_in (control.B x) = x.address
address_in (control.C x) = x.address
address_in (control.D x) = 0
address_in (control.E s) = 0

pub request_source : {w : ℕ} (s : ℕ) (y : Beat w) (h : History w) → opens (RequestSource s) y h ≡ true
    → source_in (control_of y) ≡ s
unfolding source_in
request_source s (beat.A x) h e = eqb-true x.source s e
request_source s (beat.B x) h e = absurd cc
request_source s (beat.C x) h e = absurd cc
request_source s (beat.D x) h e = absurd cc
request_source s (beat.E x) h e = absurd cc

pub release_source : {w : ℕ} (s : ℕ) (y : Beat w) (h : History w) → opens (ReleaseSource s) y h ≡ true
    → source_in (control_of y) ≡ s
unfolding source_in
release_source s (beat.A x) h e = absurd cc
release_source s (beat.B x) h e = absurd cc
release_source s (beat.C x) h e = eqb-true x.source s (both_true (is_release x.opcode) (x.source == s) e).1
release_source s (beat.D x) h e = absurd cc
release_source s (beat.E x) h e = absurd cc

pub probe_block : {w : ℕ} (k : ℕ) (y : Beat w) (h : History w) → opens (ProbeOf k) y h ≡ true
    → block_at (address_in (control_of y)) ≡ k
unfolding address_in
probe_block k (beat.A x) h e = absurd cc
probe_block k (beat.B x) h e =
    eqb-true (block_at x.address) k (both_true (is_probe x.opcode) (block_at x.address == k) e).1
probe_block k (beat.C x) h e = absurd cc
probe_block k (beat.D x) h e = absurd cc
probe_block k (beat.E x) h e = absurd cc
