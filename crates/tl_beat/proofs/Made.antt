-- Beats made of the numbers of their fields.
use Rattle.std.proofs.Common.{◌≡◌, ℕ, Bool, true, false, not, List, refl, ap}
use mathlib.Core.Bool.{Bool-set, beq}
use Rattle.std.specs.Prelude.{Option, Some, is_some, Result, Ok, Err}
use Rattle.tl_beat.specs.declared.beat.BeatA.{BeatA}
use Rattle.tl_beat.specs.declared.beat.BeatB.{BeatB}
use Rattle.tl_beat.specs.declared.beat.BeatC.{BeatC}
use Rattle.tl_beat.specs.declared.beat.BeatD.{BeatD}
use Rattle.tl_beat.specs.declared.opcode.OpA.{OpA}
use Rattle.tl_beat.specs.declared.opcode.OpB.{OpB}
use Rattle.tl_beat.specs.declared.opcode.OpC.{OpC}
use Rattle.tl_beat.specs.declared.opcode.OpD.{OpD}
use Rattle.tl_beat.specs.declared.fault.LineFault.{LineFault}
use Rattle.tl_beat.specs.declared.fault.LineFault.TheVariants.{F6}
use Rattle.tl_beat.specs.statement.Opcode.{a_carries_data, b_carries_data, c_carries_data, d_carries_data, a_with}
use Rattle.tl_beat.specs.statement.Opcode.{b_with, c_with, d_with}
use Rattle.tl_beat.specs.code.Reading.{agreement, at_most, made_a, made_b, made_c, made_d}

abbrev ok_of : {a b : Bool} → a ≡ b → Result (a ≡ b) LineFault
ok_of h = Ok h

agreed : {a b : Bool} {h k : a ≡ b} → h ≡ k → ok_of h ≡ ok_of k
agreed e = ap ok_of e

-- there is one proof at most that two answers agree
pub agreement-ok : (a b : Bool) (h : a ≡ b) → agreement a b ≡ Ok h
agreement-ok true true h = agreed (Bool-set true true refl h)
agreement-ok true false h = absurd cc
agreement-ok false true h = absurd cc
agreement-ok false false h = agreed (Bool-set false false refl h)

pub agreement-apart : (a b : Bool) → not (beq a b) ≡ true → agreement a b ≡ Err F6
agreement-apart true true e = absurd cc
agreement-apart true false e = refl
agreement-apart false true e = refl
agreement-apart false false e = absurd cc

-- the beat x of channel A, from its fields
pub made_a-ok : {w : ℕ} (x : BeatA w) (code param : ℕ) → a_with code ≡ Some x.opcode → at_most 7 param ≡ Ok x.param
    → Ok x ≡ made_a code param x.size x.source x.address x.mask x.lanes x.corrupt
made_a-ok x code param p q = rw (p, q, agreement-ok (is_some x.lanes) (a_carries_data x.opcode) x.carries) refl

pub made_a-err : (w : ℕ) (opcode : OpA) (code given param size source address mask : ℕ) (lanes : Option (List ℕ))
    (corrupt b c : Bool) → a_with code ≡ Some opcode → at_most 7 given ≡ Ok param
    → b ≡ is_some lanes → c ≡ a_carries_data opcode → not (beq b c) ≡ true
    → Err F6 ≡ made_a {w = w} code given size source address mask lanes corrupt
made_a-err w opcode code given param size source address mask lanes corrupt b c p q r s apart =
    rw (p, q, agreement-apart (is_some lanes) (a_carries_data opcode) (rw (r, s) at apart)) refl

-- the beat x of channel B, from its fields
pub made_b-ok : {w : ℕ} (x : BeatB w) (code param : ℕ) → b_with code ≡ Some x.opcode → at_most 7 param ≡ Ok x.param
    → Ok x ≡ made_b code param x.size x.source x.address x.mask x.lanes x.corrupt
made_b-ok x code param p q = rw (p, q, agreement-ok (is_some x.lanes) (b_carries_data x.opcode) x.carries) refl

pub made_b-err : (w : ℕ) (opcode : OpB) (code given param size source address mask : ℕ) (lanes : Option (List ℕ))
    (corrupt b c : Bool) → b_with code ≡ Some opcode → at_most 7 given ≡ Ok param
    → b ≡ is_some lanes → c ≡ b_carries_data opcode → not (beq b c) ≡ true
    → Err F6 ≡ made_b {w = w} code given size source address mask lanes corrupt
made_b-err w opcode code given param size source address mask lanes corrupt b c p q r s apart =
    rw (p, q, agreement-apart (is_some lanes) (b_carries_data opcode) (rw (r, s) at apart)) refl

-- the beat x of channel C, from its fields
pub made_c-ok : {w : ℕ} (x : BeatC w) (code param : ℕ) → c_with code ≡ Some x.opcode → at_most 7 param ≡ Ok x.param
    → Ok x ≡ made_c code param x.size x.source x.address x.lanes x.corrupt
made_c-ok x code param p q = rw (p, q, agreement-ok (is_some x.lanes) (c_carries_data x.opcode) x.carries) refl

pub made_c-err : (w : ℕ) (opcode : OpC) (code given param size source address : ℕ) (lanes : Option (List ℕ))
    (corrupt b c : Bool) → c_with code ≡ Some opcode → at_most 7 given ≡ Ok param
    → b ≡ is_some lanes → c ≡ c_carries_data opcode → not (beq b c) ≡ true
    → Err F6 ≡ made_c {w = w} code given size source address lanes corrupt
made_c-err w opcode code given param size source address lanes corrupt b c p q r s apart =
    rw (p, q, agreement-apart (is_some lanes) (c_carries_data opcode) (rw (r, s) at apart)) refl

-- the beat x of channel D, from its fields
pub made_d-ok : {w : ℕ} (x : BeatD w) (code param : ℕ) → d_with code ≡ Some x.opcode → at_most 3 param ≡ Ok x.param
    → Ok x ≡ made_d code param x.size x.source x.sink x.denied x.lanes x.corrupt
made_d-ok x code param p q = rw (p, q, agreement-ok (is_some x.lanes) (d_carries_data x.opcode) x.carries) refl

pub made_d-err : (w : ℕ) (opcode : OpD) (code given param size source sink : ℕ) (denied : Bool)
    (lanes : Option (List ℕ)) (corrupt b c : Bool) → d_with code ≡ Some opcode → at_most 3 given ≡ Ok param
    → b ≡ is_some lanes → c ≡ d_carries_data opcode → not (beq b c) ≡ true
    → Err F6 ≡ made_d {w = w} code given size source sink denied lanes corrupt
made_d-err w opcode code given param size source sink denied lanes corrupt b c p q r s apart =
    rw (p, q, agreement-apart (is_some lanes) (d_carries_data opcode) (rw (r, s) at apart)) refl
