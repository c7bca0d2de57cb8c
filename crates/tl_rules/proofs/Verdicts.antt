-- A verdict of two groups of rules, one after the other.
use Rattle.std.proofs.Common.{◌≡◌, ℕ, Bool, true, false, Option, Some, None, Ok, Err, refl, sym}
use Rattle.std.specs.Prelude.{⊤}
use Rattle.std.specs.Option.{option_or}
use Rattle.tl_beat.specs.declared.channel.Channel.TheVariants as channel
use Rattle.tl_beat.specs.declared.beat.BeatA.{BeatA}
use Rattle.tl_beat.specs.declared.beat.BeatB.{BeatB}
use Rattle.tl_beat.specs.declared.beat.BeatC.{BeatC}
use Rattle.tl_beat.specs.declared.beat.BeatD.{BeatD}
use Rattle.tl_beat.specs.declared.beat.Beat.TheVariants.{A, B, C, D}
use Rattle.tl_beat.specs.statement.First.{first_if}
use Rattle.tl_params.specs.declared.level.Level.{Level}
use Rattle.tl_params.specs.declared.rule.Rule.{Rule}
use Rattle.tl_params.specs.statement.Refusal.{ok_unless}
use Rattle.tl_rules.specs.statement.Legality.{illegal}
use Rattle.tl_rules.specs.code.Control.{a_control, a_own, b_control, b_own, c_control, c_own, d_control, d_own}

pub or-first_if : (t : Bool) (r : Rule) (x y : Option Rule) → option_or (first_if t r x) y ≡ first_if t r (option_or x y)
or-first_if true r x y = refl
or-first_if false r x y = refl

pub illegal_a : {w : ℕ} (l : Level) (x : BeatA w)
    → illegal l channel.A (A x) ≡ option_or (a_control w l x.opcode x.param x.size x.address)
    (a_own w x.opcode x.size x.address x.mask x.corrupt)
unfolding illegal
illegal_a {w} l x = sym (simp or-first_if)

pub illegal_b : {w : ℕ} (l : Level) (x : BeatB w)
    → illegal l channel.B (B x) ≡ option_or (b_control l x.opcode x.param x.size x.source x.address)
    (b_own w x.opcode x.size x.address x.mask x.corrupt)
unfolding illegal
illegal_b {w} l x = sym (simp or-first_if)

pub illegal_c : {w : ℕ} (l : Level) (x : BeatC w)
    → illegal l channel.C (C x) ≡ option_or (c_control l x.opcode x.param x.size x.source x.address)
    (c_own x.opcode x.corrupt)
unfolding illegal
illegal_c {w} l x = sym (simp or-first_if)

pub illegal_d : {w : ℕ} (l : Level) (x : BeatD w)
    → illegal l channel.D (D x) ≡ option_or (d_control w l x.opcode x.param x.size x.sink)
    (d_own x.opcode x.denied x.corrupt)
unfolding illegal
illegal_d {w} l x = sym (simp or-first_if)

-- the first group decides where it breaks a rule
pub broken_first : (o first rest : Option Rule) (r : Rule) → o ≡ option_or first rest → Err r ≡ ok_unless first
    → ok_unless o ≡ Err r
broken_first o None rest r is e = absurd cc
broken_first o (Some s) rest r is e = rw is (sym e)

-- the second group decides where the first breaks none
pub passed_first : (o first rest : Option Rule) (u : ⊤) → o ≡ option_or first rest → Ok u ≡ ok_unless first → o ≡ rest
passed_first o None rest u is e = is
passed_first o (Some r) rest u is e = absurd cc
