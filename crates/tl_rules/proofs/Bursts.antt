-- What the first rule of a message's beats says of its fields.
use Rattle.std.proofs.Common.{◌≡◌, ℕ, zero, suc, ◌+◌, ◌<◌, Bool, true, false, not, Option, Some, None, refl, sym, ◌∙◌}
use Rattle.std.proofs.Common.{arith}
use Rattle.std.proofs.lemmas.Bool.{not-false, both_ways}
use Rattle.std.specs.Option.{option_or}
use Rattle.tl_beat.specs.declared.channel.Channel.{Channel}
use Rattle.tl_beat.specs.declared.channel.Channel.TheVariants as channel
use Rattle.tl_beat.specs.declared.opcode.OpA.{OpA}
use Rattle.tl_beat.specs.declared.beat.Beat.{Beat}
use Rattle.tl_beat.specs.statement.Width.{IsWidth}
use Rattle.tl_beat.specs.statement.First.{first_if}
use Rattle.tl_burst.specs.declared.message.Message.{Message}
use Rattle.tl_burst.specs.declared.message.Message.TheVariants.{A, B, C, D, E}
use Rattle.tl_burst.specs.declared.message.MessageA.{MessageA}
use Rattle.tl_burst.specs.statement.Burst.{beats_of, beat_of, a_beat_of}
use Rattle.tl_burst.proofs.Splitting.{beats-positive}
use Rattle.tl_params.specs.declared.level.Level.{Level}
use Rattle.tl_params.specs.declared.level.Level.TheVariants as level
use Rattle.tl_params.specs.declared.rule.Rule.{Rule}
use Rattle.tl_params.specs.declared.rule.Rule.TheVariants.{L1, L2, L3, L4}
use Rattle.tl_rules.specs.statement.Legality.{illegal, illegal_message, first_illegal, beats_from, breaks_l1}
use Rattle.tl_rules.specs.statement.Legality.{a_of_level, a_has_param, a_has_size, is_aligned}
use Rattle.tl_rules.specs.code.Control.{a_control, a_own}
use Rattle.tl_rules.proofs.Verdicts.{illegal_a}

first_of : {w : ℕ} (l : Level) (ch : Channel) (m : Message w) (n : ℕ) → 0 < n
    → first_illegal l ch (beats_from m 0 n) ≡ None → illegal l ch (beat_of m 0) ≡ None
unfolding first_illegal beats_from
first_of l ch m zero pos e = absurd (omega arith)
first_of l ch m (suc n) pos e = go (illegal l ch (beat_of m 0)) e
  where
    go : (o : Option Rule) → option_or o (first_illegal l ch (beats_from m (0 + 1) n)) ≡ None → o ≡ None
    go None e = refl
    go (Some r) e = absurd cc

-- of a message that breaks no rule, the first beat breaks none
pub first_is_legal : {w : ℕ} (l : Level) (ch : Channel) (m : Message w) → IsWidth w → illegal_message l ch m ≡ None
    → illegal l ch (beat_of m 0) ≡ None
first_is_legal l ch m is e = first_of l ch m (beats_of m) (beats-positive m is) e

pub both_none : {T : Type 0} (o rest : Option T) → option_or o rest ≡ None → (o ≡ None) × (rest ≡ None)
both_none None rest e = (refl, e)
both_none (Some x) rest e = absurd cc

pub control_of_legal : {w : ℕ} (l : Level) (m : MessageA w) → IsWidth w → illegal_message l channel.A (A m) ≡ None
    → a_control w l m.opcode m.param m.size m.address ≡ None
control_of_legal {w} l m is e =
    let x = a_beat_of m 0 in
    (both_none (a_control w l m.opcode m.param m.size m.address) (a_own w x.opcode x.size x.address x.mask x.corrupt)
    (sym (illegal_a l x) ∙ first_is_legal l channel.A (A m) is e)).0

pub next_rule : {T : Type 0} (t : Bool) (r : T) (rest : Option T) → first_if t r rest ≡ None
    → (t ≡ false) × (rest ≡ None)
next_rule true r rest e = absurd cc
next_rule false r rest e = (refl, e)

broken : {w : ℕ} (l : Level) (ch : Channel) (x : Beat w) → breaks_l1 l ch x ≡ true → illegal l ch x ≡ None → ⊥
unfolding illegal
broken l ch x t e = both_ways (breaks_l1 l ch x) (next_rule (breaks_l1 l ch x) L1 _ e).0 t

-- what breaks no rule on channel A is a request
pub legal_is_request : {w : ℕ} (m : Message w) → IsWidth w → illegal_message level.UH channel.A m ≡ None
    → (r : MessageA w) × (m ≡ A r)
legal_is_request (A m) is e = (m, refl)
legal_is_request (B m) is e =
    absurd (broken level.UH channel.A (beat_of (B m) 0) refl (first_is_legal level.UH channel.A (B m) is e))
legal_is_request (C m) is e =
    absurd (broken level.UH channel.A (beat_of (C m) 0) refl (first_is_legal level.UH channel.A (C m) is e))
legal_is_request (D m) is e =
    absurd (broken level.UH channel.A (beat_of (D m) 0) refl (first_is_legal level.UH channel.A (D m) is e))
legal_is_request (E m) is e =
    absurd (broken level.UH channel.A (beat_of (E m) 0) refl (first_is_legal level.UH channel.A (E m) is e))

-- ---- what a request that breaks no rule is

pub control_aligned : (w : ℕ) (l : Level) (opcode : OpA) (param size address : ℕ)
    → a_control w l opcode param size address ≡ None → is_aligned address size ≡ true
control_aligned w l opcode param size address e =
    let one = next_rule (not (a_of_level l opcode)) L1 _ e in
    let two = next_rule (not (a_has_param opcode param)) L2 _ one.1 in
    let three = next_rule (not (a_has_size w l opcode size)) L3 _ two.1 in
    let four = next_rule (not (is_aligned address size)) L4 None three.1 in
    not-false (is_aligned address size) four.0
