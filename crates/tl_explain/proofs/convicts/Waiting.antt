-- The message that waits for its answer is the one that the definitions name.
use Rattle.std.proofs.Common.{◌≡◌, ℕ, ◌==◌, ◌&&◌, ◌++◌, [], ◌∷◌, true, false, Bool}
use Rattle.std.proofs.Common.{refl, sym, ap, ◌∙◌, subst}
use Rattle.std.specs.Prelude.{Option, Some, None, if◌then◌else◌}
use Rattle.tl_beat.specs.declared.beat.Beat.{Beat}
use Rattle.tl_beat.specs.declared.beat.Beat.TheVariants as beat
use Rattle.tl_beat.specs.declared.beat.BeatA.{BeatA}
use Rattle.tl_beat.specs.declared.beat.BeatB.{BeatB}
use Rattle.tl_beat.specs.declared.beat.BeatC.{BeatC}
use Rattle.tl_beat.specs.declared.beat.Link.{Link}
use Rattle.tl_burst.specs.statement.Messages.{History}
use Rattle.tl_params.specs.declared.key.Key.{Key}
use Rattle.tl_params.specs.declared.key.Key.TheVariants.{RequestSource, ReleaseSource}
use Rattle.tl_params.specs.declared.key.Key.TheVariants.{ProbeOf}
use Rattle.tl_params.specs.declared.liberties.Liberties.{Liberties}
use Rattle.tl_params.specs.declared.perm.Perm.{Perm}
use Rattle.tl_rules.specs.statement.Conformance.{Trace, on_link}
use Rattle.tl_rules.specs.statement.History.{begins, block_at, opens, pending, probe_of, release_of, request_of}
use Rattle.tl_rules.specs.statement.Liberties.{held_under}
use Rattle.tl_beat.specs.statement.Control.{control_of}
use Rattle.tl_beat.specs.declared.control.Control.{Control}
use Rattle.tl_beat.specs.declared.control.ControlA.{ControlA}
use Rattle.tl_beat.specs.declared.control.ControlB.{ControlB}
use Rattle.tl_beat.specs.declared.control.ControlC.{ControlC}
use Rattle.tl_beat.specs.declared.control.Control.TheVariants as control
use Rattle.tl_explain.specs.declared.held.Held.{Held}
use Rattle.tl_explain.specs.declared.told.Mention.{Mention}
use Rattle.tl_explain.specs.statement.Evidence.{is_opening}
use Rattle.tl_explain.specs.statement.Evidence.{mention_of}
use Rattle.tl_explain.specs.statement.Reasons.{IsHeldOf, IsUnanswered}
use Rattle.tl_explain.specs.statement.Reasons.{answer_key, block_named}
use Rattle.tl_explain.specs.statement.Since.{HasNone, IsHeldSinceUnder, IsPendingSince}
use Rattle.tl_explain.proofs.Places.{pending_told}
use Rattle.tl_explain.proofs.Plain.{is_one}

never_if : {A : Type 0} (b : Bool) (u v : A) → (if b && false then u else v) ≡ v
never_if true u v = refl
never_if false u v = refl

module _ {w : ℕ} {R : Type 0} (k : Key) (f : History w → Option R) (g : Beat w → Option R)
    (step : (y : Beat w) (h : History w) (here : Bool)
    → f (if here then y ∷ h else h) ≡ (if here && (begins y h && opens k y h) then g y else f h)) where
  named_behind : (n : ℕ) (y : Link × Beat w) (earlier later : Trace w) → is_opening n k y earlier ≡ true
      → HasNone (is_opening n k) later (y ∷ earlier)
      → f (on_link n (later ++ y ∷ earlier)) ≡ g y.1
  unfolding on_link HasNone
  named_behind n y earlier [] such nothing = step y.1 (on_link n earlier) (y.0.0 == n) ∙ rw such refl
  named_behind n y earlier (x ∷ later) such nothing =
      step x.1 (on_link n (later ++ y ∷ earlier)) (x.0.0 == n) ∙ rw nothing.0
      (named_behind n y earlier later such nothing.1)

  pub named : (n : ℕ) (m : Mention) (t : Trace w) (since : IsPendingSince n k m t) → f (on_link n t) ≡ g since.1.1
  named n m t since = ap (λ (s : Trace w). f (on_link n s)) since.3 ∙ named_behind n since.1 since.2 since.0 since.5
      since.6

pub asked_by_beat : {w : ℕ} → Beat w → Option (BeatA w)
asked_by_beat (beat.A z) = Some z
asked_by_beat (beat.B z) = None
asked_by_beat (beat.C z) = None
asked_by_beat (beat.D z) = None
asked_by_beat (beat.E z) = None

pub released_by_beat : {w : ℕ} → Beat w → Option (BeatC w)
released_by_beat (beat.A z) = None
released_by_beat (beat.B z) = None
released_by_beat (beat.C z) = Some z
released_by_beat (beat.D z) = None
released_by_beat (beat.E z) = None

pub probed_by_beat : {w : ℕ} → Beat w → Option (BeatB w)
probed_by_beat (beat.A z) = None
probed_by_beat (beat.B z) = Some z
probed_by_beat (beat.C z) = None
probed_by_beat (beat.D z) = None
probed_by_beat (beat.E z) = None

pub request_step : {w : ℕ} (s : ℕ) (y : Beat w) (h : History w) (here : Bool)
    → request_of s (if here then y ∷ h else h) ≡ (if here && (begins y h && opens (RequestSource s) y h) then
    asked_by_beat y else request_of s h)
unfolding request_of asked_by_beat
request_step s y h false = refl
request_step s (beat.A z) h true = refl
request_step s (beat.B z) h true = sym (never_if _ None (request_of s h))
request_step s (beat.C z) h true = sym (never_if _ None (request_of s h))
request_step s (beat.D z) h true = sym (never_if _ None (request_of s h))
request_step s (beat.E z) h true = sym (never_if _ None (request_of s h))

pub release_step : {w : ℕ} (s : ℕ) (y : Beat w) (h : History w) (here : Bool)
    → release_of s (if here then y ∷ h else h) ≡ (if here && (begins y h && opens (ReleaseSource s) y h) then
    released_by_beat y else release_of s h)
unfolding release_of released_by_beat
release_step s y h false = refl
release_step s (beat.A z) h true = sym (never_if _ None (release_of s h))
release_step s (beat.B z) h true = sym (never_if _ None (release_of s h))
release_step s (beat.C z) h true = refl
release_step s (beat.D z) h true = sym (never_if _ None (release_of s h))
release_step s (beat.E z) h true = sym (never_if _ None (release_of s h))

pub probe_step : {w : ℕ} (k : ℕ) (y : Beat w) (h : History w) (here : Bool)
    → probe_of k (if here then y ∷ h else h) ≡ (if here && (begins y h && opens (ProbeOf k) y h) then probed_by_beat y
    else probe_of k h)
unfolding probe_of probed_by_beat
probe_step k y h false = refl
probe_step k (beat.A z) h true = sym (never_if _ None (probe_of k h))
probe_step k (beat.B z) h true = refl
probe_step k (beat.C z) h true = sym (never_if _ None (probe_of k h))
probe_step k (beat.D z) h true = sym (never_if _ None (probe_of k h))
probe_step k (beat.E z) h true = sym (never_if _ None (probe_of k h))

-- a request, a Release and a Probe by their control fields
abbrev pub AskedSo : {w : ℕ} → ControlA → Option (BeatA w) → Type 0
AskedSo {w} r o = (z : BeatA w) × (o ≡ Some z) × (r.opcode ≡ z.opcode) × (r.param ≡ z.param) × (r.size ≡ z.size)
    × (r.address ≡ z.address)

abbrev pub ReleasedSo : {w : ℕ} → ControlC → Option (BeatC w) → Type 0
ReleasedSo {w} r o = (z : BeatC w) × (o ≡ Some z) × (r.size ≡ z.size)

abbrev pub ProbedSo : {w : ℕ} → ControlB → Option (BeatB w) → Type 0
ProbedSo {w} r o =
    (z : BeatB w) × (o ≡ Some z) × (r.opcode ≡ z.opcode) × (r.param ≡ z.param) × (r.source ≡ z.source)

same_a : {a b : ControlA} → control.A a ≡ control.A b → a ≡ b
same_a e = cc

same_b : {a b : ControlB} → control.B a ≡ control.B b → a ≡ b
same_b e = cc

same_c : {a b : ControlC} → control.C a ≡ control.C b → a ≡ b
same_c e = cc

pub asked_so : {w : ℕ} (r : ControlA) (y : Beat w) (o : Option (BeatA w)) → control.A r ≡ control_of y
    → o ≡ asked_by_beat y → AskedSo r o
unfolding asked_by_beat
asked_so r (beat.A z) o e f =
    let same = same_a e in (
      z,
      f,
      ap (λ (c : ControlA). c.opcode) same,
      ap (λ (c : ControlA). c.param) same,
      ap (λ (c : ControlA). c.size)
          same,
      ap (λ (c : ControlA). c.address) same,
    )
asked_so r (beat.B z) o e f = absurd cc
asked_so r (beat.C z) o e f = absurd cc
asked_so r (beat.D z) o e f = absurd cc
asked_so r (beat.E z) o e f = absurd cc

pub released_so : {w : ℕ} (r : ControlC) (y : Beat w) (o : Option (BeatC w)) → control.C r ≡ control_of y
    → o ≡ released_by_beat y → ReleasedSo r o
unfolding released_by_beat
released_so r (beat.A z) o e f = absurd cc
released_so r (beat.B z) o e f = absurd cc
released_so r (beat.C z) o e f = (z, f, ap (λ (c : ControlC). c.size) (same_c e))
released_so r (beat.D z) o e f = absurd cc
released_so r (beat.E z) o e f = absurd cc

pub probed_so : {w : ℕ} (r : ControlB) (y : Beat w) (o : Option (BeatB w)) → control.B r ≡ control_of y
    → o ≡ probed_by_beat y → ProbedSo r o
unfolding probed_by_beat
probed_so r (beat.A z) o e f = absurd cc
probed_so r (beat.B z) o e f =
    let same = same_b e in (
      z,
      f,
      ap (λ (c : ControlB). c.opcode) same,
      ap (λ (c : ControlB). c.param) same,
      ap (λ (c : ControlB). c.source) same,
    )
probed_so r (beat.C z) o e f = absurd cc
probed_so r (beat.D z) o e f = absurd cc
probed_so r (beat.E z) o e f = absurd cc

-- what waits for its answer is pending, and what is named
since_of : {w : ℕ} (n : ℕ) (m : Mention) (t : Trace w) (c : Control) (k : Key) → m.control ≡ c → answer_key c ≡ Some k
    → IsUnanswered n m t → IsPendingSince n k m t
since_of n m t c k e key waits =
    subst (λ (j : Key). IsPendingSince n j m t) (is_one (sym waits.1 ∙ ap answer_key e ∙ key)) waits.2

pub request_waits : {w : ℕ} (n : ℕ) (m : Mention) (t : Trace w) (r : ControlA) (s : ℕ) → m.control ≡ control.A r
    → s ≡ r.source → IsUnanswered n m t
    → (pending (RequestSource s) (on_link n t) ≡ true) × AskedSo r (request_of s (on_link n t))
request_waits n m t r s e from waits =
    let since = since_of n m t (control.A r) (RequestSource s) e (ap (λ (i : ℕ). Some (RequestSource i)) (sym from))
    waits in (
      pending_told n (RequestSource s) t m since,
      asked_so r since.1.1 (request_of s (on_link n t)) (sym e ∙ ap (λ (z : Mention). z.control) since.4)
          (named (RequestSource s) (request_of s) asked_by_beat (request_step s) n m t since),
    )

pub release_waits : {w : ℕ} (n : ℕ) (m : Mention) (t : Trace w) (r : ControlC) (s : ℕ) → m.control ≡ control.C r
    → s ≡ r.source → IsUnanswered n m t
    → (pending (ReleaseSource s) (on_link n t) ≡ true) × ReleasedSo r (release_of s (on_link n t))
release_waits n m t r s e from waits =
    let since = since_of n m t (control.C r) (ReleaseSource s) e (ap (λ (i : ℕ). Some (ReleaseSource i)) (sym from))
    waits in (
      pending_told n (ReleaseSource s) t m since,
      released_so r since.1.1 (release_of s (on_link n t)) (sym e ∙ ap (λ (z : Mention). z.control) since.4)
          (named (ReleaseSource s) (release_of s) released_by_beat (release_step s) n m t since),
    )

pub probe_waits : {w : ℕ} (n : ℕ) (m : Mention) (t : Trace w) (r : ControlB) (k : ℕ) → m.control ≡ control.B r
    → k ≡ block_at r.address → IsUnanswered n m t
    → (pending (ProbeOf k) (on_link n t) ≡ true) × ProbedSo r (probe_of k (on_link n t))
probe_waits n m t r k e from waits =
    let since = since_of n m t (control.B r) (ProbeOf k) e (ap (λ (i : ℕ). Some (ProbeOf i)) (sym from)) waits in (
      pending_told n (ProbeOf k) t m since,
      probed_so r since.1.1 (probe_of k (on_link n t)) (sym e ∙ ap (λ (z : Mention). z.control) since.4)
          (named (ProbeOf k) (probe_of k) probed_by_beat (probe_step k) n m t since),
    )

held_is : {w : ℕ} (l : Liberties) (n k : ℕ) (q : Perm) (o : Option Mention) (t : Trace w)
    → IsHeldSinceUnder l n k q o t → q ≡ held_under l k (on_link n t)
held_is l n k q None t is = is.0
held_is l n k q (Some m) t is = is.0

pub held_named : {w : ℕ} (l : Liberties) (n : ℕ) (c : Control) (h : Held) (t : Trace w) (k : ℕ)
    → block_named c ≡ Some k → IsHeldOf l n c h t → h.perm ≡ held_under l k (on_link n t)
held_named l n c h t k e is =
    held_is l n is.0 h.perm (mention_of h.since) t is.2
    ∙ ap (λ (i : ℕ). held_under l i (on_link n t)) (is_one (sym is.1 ∙ e))
