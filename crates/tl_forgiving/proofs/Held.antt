-- After a history that breaks no rule under some liberties the same is held under more.
use Rattle.tl_forgiving.proofs.Imports.{Beat, A, B, C, D, E, Channel, History, unfinished, is_empty, IsWithin, Level}
use Rattle.tl_forgiving.proofs.Imports.{Liberties, asks_for, begins, block_at, ends, is_grant, is_release}
use Rattle.tl_forgiving.proofs.Imports.{is_release_ack, pending, release_of, request_of}
use Rattle.tl_forgiving.proofs.Bursts.{IsSameC, IsSameD, Before, before-c, before-d}
use Rattle.tl_forgiving.proofs.Bursts.Before.{Nothing, Earlier}
use Rattle.tl_forgiving.proofs.Grants.{granting, late-ack}
use Rattle.tl_forgiving.proofs.Implied.{Implies, not-false, not-true, second, third-fails}
use Rattle.tl_forgiving.proofs.Lawful.{AreLawful, IsLawful, begun-lawfully}
use Rattle.tl_forgiving.proofs.Legal.{denied-alike}
use Rattle.tl_forgiving.proofs.Releases.{acknowledged, unanswered-release}
use Rattle.std.proofs.Common.{◌≡◌, ℕ, Bool, true, false, not, ◌&&◌, ◌||◌, List, [], ◌∷◌, refl, sym, ap, ◌∙◌}
use Rattle.std.specs.Prelude.{if◌then◌else◌, None, Option, Some, ◌==◌, unwrap_or}
use Rattle.std.proofs.lemmas.Bool.{eqb-true}
use Rattle.tl_beat.{specs.declared.beat.BeatA.BeatA, specs.declared.beat.BeatC.BeatC, specs.declared.beat.BeatD.BeatD}
use Rattle.tl_beat.{specs.declared.beat.BeatE.BeatE, specs.declared.opcode.OpD.OpD}
use Rattle.tl_params.specs.declared.key.Key.TheVariants.{AcquireOf, GrantAckOf, ReleaseOf, ReleaseSource, RequestSource}
use Rattle.tl_params.specs.declared.liberties.Liberty.TheVariants.{Drops, Early}
use Rattle.tl_params.specs.declared.param.Grow.TheVariants as grow
use Rattle.tl_params.specs.declared.perm.Perm.{Perm}
use Rattle.tl_params.specs.declared.perm.Perm.TheVariants as perm
use Rattle.tl_params.specs.declared.rule.Rule.TheVariants.{H1, H4, H5}
use Rattle.tl_params.specs.statement.Param.{grow_code}
use Rattle.tl_rules.specs.statement.Conformance.{comes_in_grant, comes_in_release, grows_from, same_perm}
use Rattle.tl_rules.specs.statement.History.{capped, is_acquire, is_probe_ack, releases, says_held}
use Rattle.tl_rules.specs.statement.Liberties.{acknowledges, broken_order_under, given_by_grant, grows_from_none}
use Rattle.tl_rules.specs.statement.Liberties.{grows_from_under, held_under, is_answered, left_by_release}
use Rattle.tl_rules.specs.statement.Liberties.{says_held_under}
use Rattle.tl_rules.proofs.Open.{never}

-- ---- over plain variables

-- what is held after an Acquire
dropped : (few more now acquire grows here : Bool) (h : Perm) → Implies few more
    → (few ≡ false → now ≡ true → acquire ≡ true → grows ≡ true → here ≡ true → h ≡ perm.None)
    → unwrap_or (if more && (now && (acquire && grows)) then (if here then Some perm.None else None) else None) h
    ≡ unwrap_or (if few && (now && (acquire && grows)) then (if here then Some perm.None else None) else None) h
dropped true true now acquire grows here h within none = refl
dropped true false now acquire grows here h within none = absurd (let wrong : false ≡ true = within refl in cc)
dropped false false now acquire grows here h within none = refl
dropped false true true true true true h within none = sym (none refl refl refl refl refl)
dropped false true true true true false h within none = refl
dropped false true true true false here h within none = refl
dropped false true true false grows here h within none = refl
dropped false true false acquire grows here h within none = refl

-- what a Release or a ProbeAck says
unanswered : (few more release now waits : Bool) (said : Option Perm) → Implies few more
    → (few ≡ false → release ≡ true → now ≡ false → waits ≡ false → said ≡ None)
    → (if more && (release && (not now && not waits)) then None else said)
    ≡ (if few && (release && (not now && not waits)) then None else said)
unanswered true true release now waits said within none = refl
unanswered true false release now waits said within none = absurd (let wrong : false ≡ true = within refl in cc)
unanswered false false release now waits said within none = refl
unanswered false true true false false said within none = sym (none refl refl refl refl)
unanswered false true true false true said within none = refl
unanswered false true true true waits said within none = refl
unanswered false true false now waits said within none = refl

-- what a response says
abbrev said_by : (denied early grant answered ack : Bool) (left given : Option Perm) → Option Perm
said_by denied early grant answered ack left given =
    if denied then None else
    if early && (grant && answered) then None else
    if early && ack then left else given

-- the same, where it may be answered early
responded : (denied few more grant answered ack : Bool) (left given : Option Perm) → Implies few more
    → (few ≡ false → grant ≡ true → answered ≡ true → given ≡ None)
    → (few ≡ false → ack ≡ true → left ≡ given)
    → said_by denied more grant answered ack left given ≡ said_by denied few grant answered ack left given
responded true few more grant answered ack left given within whole after = refl
responded false true true grant answered ack left given within whole after = refl
responded false true false grant answered ack left given within whole after =
    absurd (let wrong : false ≡ true = within refl in cc)
responded false false false grant answered ack left given within whole after = refl
responded false false true true true ack left given within whole after = sym (whole refl refl refl)
responded false false true true false true left given within whole after = after refl refl
responded false false true true false false left given within whole after = refl
responded false false true false answered true left given within whole after = after refl refl
responded false false true false answered false left given within whole after = refl

-- one that is neither a Grant nor a ReleaseAck says nothing
unsaid : (denied early answered : Bool) (left : Option Perm)
    → said_by denied early false answered false left None ≡ None
unsaid true early answered left = refl
unsaid false early answered left = rw (never early) refl

-- a GrantAck
granted : (few more acks : Bool) (given : Option Perm) → Implies few more → (few ≡ false → given ≡ None)
    → (if more && acks then given else None) ≡ (if few && acks then given else None)
granted true true acks given within none = refl
granted true false acks given within none = absurd (let wrong : false ≡ true = within refl in cc)
granted false false acks given within none = refl
granted false true true given within none = none refl
granted false true false given within none = refl

undropped : (drops grows starts : Bool) → drops ≡ false → ((drops && grows) || starts) ≡ true → starts ≡ true
undropped false grows starts told e = e
undropped true grows starts told e = absurd cc

either : {X : Type 0} (b : Bool) (x : X) → (if b then x else x) ≡ x
either true x = refl
either false x = refl

nothing-held : (p : Perm) → same_perm p perm.None ≡ true → p ≡ perm.None
nothing-held perm.None e = refl
nothing-held v e = absurd cc

-- ---- a burst that says nothing

left-none : {w : ℕ} (s : ℕ) (burst : List (Beat w)) → comes_in_release s burst ≡ false → left_by_release s burst ≡ None
left-none s [] e = refl
left-none s (A x ∷ burst) e = refl
left-none s (B x ∷ burst) e = refl
left-none s (C x ∷ burst) e = rw e refl
left-none s (D x ∷ burst) e = refl
left-none s (E x ∷ burst) e = refl

given-none : {w : ℕ} (s : ℕ) (burst : List (Beat w)) → comes_in_grant s burst ≡ false → given_by_grant s burst ≡ None
given-none s [] e = refl
given-none s (A x ∷ burst) e = refl
given-none s (B x ∷ burst) e = refl
given-none s (C x ∷ burst) e = refl
given-none s (D x ∷ burst) e = go (is_grant x.opcode) (x.sink == s) (not x.denied) e
  where
    go : (a b c : Bool) → (a && b) ≡ false → (if a && (b && c) then Some (capped x.param) else None) ≡ None
    go true true c f = absurd cc
    go true false c f = refl
    go false b c f = refl
given-none s (E x ∷ burst) e = refl

module _ {w : ℕ} (l m : Liberties) (level : Level) (within : IsWithin l m) (k : ℕ) (t : History w)
    (before : AreLawful l level t) where
  -- ---- channel A

  -- without `drops` nothing is held of the block of an Acquire from nothing held
  grown-from-none : (x : BeatA w) → l.drops ≡ false → IsLawful l level (A x) t → begins (A x) t ≡ true
      → is_acquire x.opcode ≡ true → grows_from_none x.param ≡ true
      → held_under l (block_at x.address) t ≡ perm.None
  unfolding broken_order_under
  grown-from-none x told lawful now acquire grows =
      nothing-held (held_under l (block_at x.address) t)
      (rw (not-true (x.param == grow_code grow.BtoT) grows) at starts)
    where
      order : grows_from_under l x.param (held_under l (block_at x.address) t) ≡ true
      order = not-false (grows_from_under l x.param (held_under l (block_at x.address) t)) (rw acquire at (third-fails
          (pending (RequestSource x.source) t)
          (is_acquire x.opcode && (pending (AcquireOf (block_at x.address)) t || pending
          (ReleaseOf (block_at x.address)) t))
          (is_acquire x.opcode && not (grows_from_under l x.param (held_under l (block_at x.address) t))) H1 H4 H5 None
          (begun-lawfully l (A x) t lawful.ordered now)))

      starts : grows_from x.param (held_under l (block_at x.address) t) ≡ true
      starts = undropped l.drops (grows_from_none x.param) (grows_from x.param (held_under l (block_at x.address) t))
          told order

  says-a : (x : BeatA w) → IsLawful l level (A x) t
      → unwrap_or (says_held_under m k (A x) t) (held_under l k t)
      ≡ unwrap_or (says_held_under l k (A x) t) (held_under l k t)
  says-a x lawful =
      dropped l.drops m.drops (begins (A x) t) (is_acquire x.opcode) (grows_from_none x.param)
      (block_at x.address == k) (held_under l k t) (within Drops) (λ told now acquire grows here.
      ap (λ i. held_under l i t) (sym (eqb-true (block_at x.address) k here))
      ∙ grown-from-none x told lawful now acquire grows)

  -- ---- channel C

  -- without `early` a later beat of a Release of the block comes while the block waits for its ReleaseAck
  release-waits : (x : BeatC w) → l.early ≡ false → IsLawful l level (C x) t → is_release x.opcode ≡ true
      → begins (C x) t ≡ false → pending (ReleaseOf (block_at x.address)) t ≡ true
  release-waits x late lawful release later = go (before-c l t x lawful.ordered)
    where
      go : Before C (λ z. IsSameC x z) (unfinished Channel.C t)
          → pending (ReleaseOf (block_at x.address)) t ≡ true
      go (Nothing none) = absurd (let wrong : true ≡ false = sym (ap is_empty none) ∙ later in cc)
      go (Earlier z rest burst alike) =
          ap (λ a. pending (ReleaseOf (block_at a)) t) alike.address
          ∙ unanswered-release l late level t before z rest burst (ap is_release (sym alike.opcode) ∙ release)

  says-c : (x : BeatC w) → IsLawful l level (C x) t → says_held_under m k (C x) t ≡ says_held_under l k (C x) t
  says-c x lawful =
      unanswered l.early m.early (is_release x.opcode) (begins (C x) t) (pending (ReleaseOf k) t) (says_held k (C x) t)
      (within Early) (λ late release later closed. none late release later closed (block_at x.address == k) refl)
    where
      none : l.early ≡ false → is_release x.opcode ≡ true → begins (C x) t ≡ false → pending (ReleaseOf k) t ≡ false
          → (here : Bool) → (block_at x.address == k) ≡ here → says_held k (C x) t ≡ None
      none late release later closed false away = rw (away, never (is_probe_ack x.opcode || is_release x.opcode)) refl
      none late release later closed true here = absurd (
          let wrong : true ≡ false = sym (release-waits x late lawful release later)
          ∙ ap (λ i. pending (ReleaseOf i) t) (eqb-true (block_at x.address) k here) ∙ closed in
          cc)

  -- ---- channel D

  -- without `early` a later beat of a Grant of the block comes while the block waits for its GrantAck
  grant-waits : (x : BeatD w) → l.early ≡ false → IsLawful l level (D x) t → is_grant x.opcode ≡ true
      → begins (D x) t ≡ false → asks_for k (request_of x.source t) ≡ true → pending (GrantAckOf k) t ≡ true
  grant-waits x late lawful grant later own = go (before-d l t x lawful.ordered)
    where
      go : Before D (λ z. IsSameD x z) (unfinished Channel.D t) → pending (GrantAckOf k) t ≡ true
      go (Nothing none) = absurd (let wrong : true ≡ false = sym (ap is_empty none) ∙ later in cc)
      go (Earlier z rest burst alike) =
          ((granting l level late t before z rest burst (ap is_grant (sym alike.opcode) ∙ grant)).given k
          (ap (λ s. asks_for k (request_of s t)) (sym alike.source) ∙ own)).waits

  abbrev given : BeatD w → Option Perm
  given x = if is_grant x.opcode && asks_for k (request_of x.source t) then Some (capped x.param) else None

  ungiven : (x : BeatD w) → l.early ≡ false → IsLawful l level (D x) t → is_grant x.opcode ≡ true
      → is_answered (GrantAckOf k) (D x) t ≡ true → given x ≡ None
  ungiven x late lawful grant answered =
      go (begins (D x) t) refl (asks_for k (request_of x.source t)) refl answered
    where
      go : (now : Bool) → begins (D x) t ≡ now → (own : Bool) → asks_for k (request_of x.source t) ≡ own
          → (not now && not (pending (GrantAckOf k) t)) ≡ true → given x ≡ None
      go true n own o f = absurd cc
      go false n false o f = rw (o, never (is_grant x.opcode)) refl
      go false n true o f = absurd (
          let wrong : true ≡ false = sym (grant-waits x late lawful grant n o)
          ∙ not-true (pending (GrantAckOf k) t) f in
          cc)

  abbrev left : BeatD w → Option Perm
  left x = if releases k (release_of x.source t) then left_by_release x.source (unfinished Channel.C t) else None

  unleft : (x : BeatD w) → l.early ≡ false → IsLawful l level (D x) t → ends (D x) t ≡ true
      → is_release_ack x.opcode ≡ true → left x ≡ None
  unleft x late lawful last ack =
      rw (left-none x.source (unfinished Channel.C t) none) (either (releases k (release_of x.source t)) None)
    where
      none : comes_in_release x.source (unfinished Channel.C t) ≡ false
      none = not-true (comes_in_release x.source (unfinished Channel.C t)) (rw late at (second
          (pending (ReleaseSource x.source) t)
          (not (not l.early && comes_in_release x.source (unfinished Channel.C t)))
          (acknowledged l x t lawful.ordered ack last)))

  ungranted : (x : BeatD w) → is_release_ack x.opcode ≡ true → given x ≡ None
  ungranted x ack = go x.opcode ack
    where
      go : (o : OpD) → is_release_ack o ≡ true
          → (if is_grant o && asks_for k (request_of x.source t) then Some (capped x.param) else None) ≡ None
      go OpD.ReleaseAck f = refl
      go v f = absurd cc

  says-d : (x : BeatD w) → IsLawful l level (D x) t → ends (D x) t ≡ true
      → says_held_under m k (D x) t ≡ says_held_under l k (D x) t
  says-d x lawful last = go (is_grant x.opcode) refl (is_release_ack x.opcode) refl
    where
      spoken : (is_grant x.opcode || is_release_ack x.opcode) ≡ true
          → says_held_under m k (D x) t ≡ says_held_under l k (D x) t
      spoken kind =
          rw (denied-alike l m level Channel.D x within kind lawful.alone)
          (responded (l.denied && x.denied) l.early m.early (is_grant x.opcode)
          (is_answered (GrantAckOf k) (D x) t) (is_release_ack x.opcode) (left x) (given x) (within Early)
          (λ late grant answered. ungiven x late lawful grant answered)
          (λ late ack. unleft x late lawful last ack ∙ sym (ungranted x ack)))

      go : (grant : Bool) → is_grant x.opcode ≡ grant → (ack : Bool) → is_release_ack x.opcode ≡ ack
          → says_held_under m k (D x) t ≡ says_held_under l k (D x) t
      go true g ack a = spoken (rw g refl)
      go false g true a = spoken (rw (g, a) refl)
      go false g false a =
          rw (g, a) (unsaid (m.denied && x.denied) m.early (is_answered (GrantAckOf k) (D x) t) (left x)
          ∙ sym (unsaid (l.denied && x.denied) l.early (is_answered (GrantAckOf k) (D x) t) (left x)))

  -- ---- channel E

  says-e : (x : BeatE) → IsLawful l level (E x) t → says_held_under m k (E x) t ≡ says_held_under l k (E x) t
  says-e x lawful =
      granted l.early m.early (acknowledges k x.sink t) (given_by_grant x.sink (unfinished Channel.D t)) (within Early)
      (λ late. given-none x.sink (unfinished Channel.D t) (late-ack l x t late lawful.ordered))

  -- ---- all

  says-alike : (x : Beat w) → IsLawful l level x t → ends x t ≡ true
      → unwrap_or (says_held_under m k x t) (held_under l k t) ≡ unwrap_or (says_held_under l k x t) (held_under l k t)
  says-alike (A x) lawful last = says-a x lawful
  says-alike (B x) lawful last = refl
  says-alike (C x) lawful last = ap (λ o. unwrap_or o (held_under l k t)) (says-c x lawful)
  says-alike (D x) lawful last = ap (λ o. unwrap_or o (held_under l k t)) (says-d x lawful last)
  says-alike (E x) lawful last = ap (λ o. unwrap_or o (held_under l k t)) (says-e x lawful)

-- ---- by induction

pub held-alike : {w : ℕ} (l m : Liberties) (level : Level) (k : ℕ) (t : History w) → IsWithin l m → AreLawful l level t
    → held_under m k t ≡ held_under l k t
unfolding AreLawful held_under
held-alike l m level k [] within lawful = refl
held-alike {w} l m level k (x ∷ t) within lawful =
    rw (held-alike l m level k t within lawful.1) (go (ends x t) refl)
  where
    go : (last : Bool) → ends x t ≡ last
        → (if ends x t then unwrap_or (says_held_under m k x t) (held_under l k t) else held_under l k t)
        ≡ (if ends x t then unwrap_or (says_held_under l k x t) (held_under l k t) else held_under l k t)
    go true e = rw e (says-alike l m level within k t lawful.1 x lawful.0 e)
    go false e = rw e refl
