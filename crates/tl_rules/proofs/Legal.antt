-- A message that breaks no rule, beat by beat and from level to level.
use Rattle.std.proofs.Common.{◌≡◌, ℕ, zero, suc, ◌+◌, ◌<◌, Bool, true, false, not, Option, None, refl, sym, ◌∙◌, arith}
use Rattle.std.proofs.Common.{add-zero, inl, inr}
use Rattle.std.proofs.lemmas.Bool.{le-leb, not-false, cases_lt}
use Rattle.tl_beat.specs.declared.channel.Channel.{Channel}
use Rattle.tl_beat.specs.declared.channel.Channel.TheVariants as channel
use Rattle.tl_beat.specs.declared.opcode.OpA.{OpA}
use Rattle.tl_beat.specs.declared.opcode.OpA.TheVariants as a
use Rattle.tl_beat.specs.declared.beat.BeatA.{BeatA}
use Rattle.tl_beat.specs.declared.beat.Beat.TheVariants as beat
use Rattle.tl_beat.specs.statement.Opcode.{a_code}
use Rattle.tl_beat.specs.statement.Width.{IsWidth}
use Rattle.tl_beat.specs.statement.First.{first_if}
use Rattle.tl_burst.specs.declared.message.Message.{Message}
use Rattle.tl_burst.specs.declared.message.Message.TheVariants.{A}
use Rattle.tl_burst.specs.declared.message.MessageA.{MessageA}
use Rattle.tl_burst.specs.statement.Burst.{beats_of, beat_of, a_beat_of}
use Rattle.tl_params.specs.declared.level.Level.{Level}
use Rattle.tl_params.specs.declared.level.Level.TheVariants as level
use Rattle.tl_params.specs.declared.rule.Rule.{Rule}
use Rattle.tl_params.specs.declared.rule.Rule.TheVariants.{L1, L2, L3}
use Rattle.tl_rules.specs.statement.Legality.{illegal, illegal_message, first_illegal, beats_from, a_of_level}
use Rattle.tl_rules.specs.statement.Legality.{a_has_param, a_has_size, access_has_size}
use Rattle.tl_rules.specs.code.Control.{a_control, a_own}
use Rattle.tl_rules.proofs.Bursts.{next_rule, both_none}
use Rattle.tl_rules.proofs.Verdicts.{illegal_a}
use Rattle.tl_rules.proofs.Widths.{size_above_width}
use Rattle.tl_rules.proofs.Checks.{both}

from_beats : {w : ℕ} (l : Level) (ch : Channel) (m : Message w) (j n : ℕ)
    → ((i : ℕ) → i < n → illegal l ch (beat_of m (j + i)) ≡ None) → first_illegal l ch (beats_from m j n) ≡ None
unfolding first_illegal beats_from
from_beats l ch m j zero each = refl
from_beats l ch m j (suc n) each =
    let first : illegal l ch (beat_of m j) ≡ None = rw add-zero at (each 0 (omega arith)) in
    rw first (from_beats l ch m (j + 1) n (λ i lt. let place : j + 1 + i ≡ j + (i + 1) = omega arith in
    rw place (each (i + 1) (omega arith))))

-- a message breaks no rule where none of its beats does
pub legal_from_beats : {w : ℕ} (l : Level) (ch : Channel) (m : Message w)
    → ((i : ℕ) → i < beats_of m → illegal l ch (beat_of m i) ≡ None) → illegal_message l ch m ≡ None
legal_from_beats l ch m each = from_beats l ch m 0 (beats_of m) (λ i lt. let place : 0 + i ≡ i = omega arith in
    rw place (each i lt))

to_beats : {w : ℕ} (l : Level) (ch : Channel) (m : Message w) (j n i : ℕ) → first_illegal l ch (beats_from m j n) ≡ None
    → i < n → illegal l ch (beat_of m (j + i)) ≡ None
unfolding first_illegal beats_from
to_beats l ch m j zero i e lt = absurd (omega arith)
to_beats l ch m j (suc n) zero e lt = rw add-zero (both_none (illegal l ch (beat_of m j)) _ e).0
to_beats l ch m j (suc n) (suc i) e lt =
    let place : j + suc i ≡ j + 1 + i = omega arith in
    rw place (to_beats l ch m (j + 1) n i (both_none (illegal l ch (beat_of m j)) _ e).1 (omega arith))

-- and only there
pub legal_beat : {w : ℕ} (l : Level) (ch : Channel) (m : Message w) (i : ℕ) → illegal_message l ch m ≡ None
    → i < beats_of m → illegal l ch (beat_of m i) ≡ None
legal_beat l ch m i e lt = let place : 0 + i ≡ i = omega arith in rw place at (to_beats l ch m 0 (beats_of m) i e lt)

-- ---- accesses at TL-UH

no_rule : (t : Bool) (r : Rule) (rest : Option Rule) → t ≡ true → rest ≡ None → first_if (not t) r rest ≡ None
no_rule t r rest e f = rw e f

access_of_uh : (opcode : OpA) → a_code opcode < 6 → a_of_level level.UH opcode ≡ true
access_of_uh a.PutFullData lt = refl
access_of_uh a.PutPartialData lt = refl
access_of_uh a.ArithmeticData lt = refl
access_of_uh a.LogicalData lt = refl
access_of_uh a.Get lt = refl
access_of_uh a.Intent lt = refl
access_of_uh a.AcquireBlock lt = absurd (omega arith)
access_of_uh a.AcquirePerm lt = absurd (omega arith)

access_size : (w : ℕ) (l : Level) (size : ℕ) → IsWidth w → access_has_size w l size ≡ true
    → access_has_size w level.UH size ≡ true
access_size w level.UL size is e = elim (cases_lt 4 size) [
  | inl above ↦ absurd (let no : false ≡ true = rw (size_above_width w size is above) at e in cc)
  | inr few ↦ le-leb size 6 (omega arith)
]
access_size w level.UH size is e = e
access_size w level.C size is e = e

size_at_uh : (w : ℕ) (l : Level) (opcode : OpA) (size : ℕ) → IsWidth w → a_has_size w l opcode size ≡ true
    → a_has_size w level.UH opcode size ≡ true
size_at_uh w l a.PutFullData size is e = access_size w l size is e
size_at_uh w l a.PutPartialData size is e = access_size w l size is e
size_at_uh w l a.ArithmeticData size is e = e
size_at_uh w l a.LogicalData size is e = e
size_at_uh w l a.Get size is e = access_size w l size is e
size_at_uh w l a.Intent size is e = access_size w l size is e
size_at_uh w l a.AcquireBlock size is e = e
size_at_uh w l a.AcquirePerm size is e = e

control_at_uh : (w : ℕ) (l : Level) (opcode : OpA) (param size address : ℕ) → IsWidth w → a_code opcode < 6
    → a_control w l opcode param size address ≡ None
    → a_control w level.UH opcode param size address ≡ None
control_at_uh w l opcode param size address is access e =
    let one = next_rule (not (a_of_level l opcode)) L1 _ e in
    let two = next_rule (not (a_has_param opcode param)) L2 _ one.1 in
    let three = next_rule (not (a_has_size w l opcode size)) L3 _ two.1 in
    no_rule (a_of_level level.UH opcode) L1 _ (access_of_uh opcode access)
    (no_rule (a_has_param opcode param) L2 _ (not-false (a_has_param opcode param) two.0)
    (no_rule (a_has_size w level.UH opcode size) L3 _
    (size_at_uh w l opcode size is (not-false (a_has_size w l opcode size) three.0)) three.1))

beat_at_uh : {w : ℕ} (l : Level) (x : BeatA w) → IsWidth w → a_code x.opcode < 6 → illegal l channel.A (beat.A x) ≡ None
    → illegal level.UH channel.A (beat.A x) ≡ None
beat_at_uh {w} l x is access e =
    let p = both_none (a_control w l x.opcode x.param x.size x.address)
    (a_own w x.opcode x.size x.address x.mask x.corrupt) (sym (illegal_a l x) ∙ e) in
    illegal_a level.UH x ∙ both (a_control w level.UH x.opcode x.param x.size x.address)
    (a_own w x.opcode x.size x.address x.mask x.corrupt)
    (control_at_uh w l x.opcode x.param x.size x.address is access p.0) p.1

-- an access that breaks no rule at the level of its link breaks none at TL-UH, as `perform` asks
pub access_at_uh : {w : ℕ} (l : Level) (m : MessageA w) → IsWidth w → a_code m.opcode < 6
    → illegal_message l channel.A (A m) ≡ None → illegal_message level.UH channel.A (A m) ≡ None
access_at_uh l m is access e =
    legal_from_beats level.UH channel.A (A m)
    (λ i lt. beat_at_uh l (a_beat_of m i) is access (legal_beat l channel.A (A m) i e lt))
