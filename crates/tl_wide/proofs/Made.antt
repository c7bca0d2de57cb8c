-- Wide beats made of the numbers of their fields.
use Rattle.std.proofs.Common.{◌≡◌, ℕ, Bool, true, not, List, refl}
use Rattle.std.specs.Prelude.{Ok, Err, Option, Some, is_some}
use Rattle.tl_beat.proofs.Made.{agreement-ok, agreement-apart}
use Rattle.tl_beat.specs.code.Reading.{at_most}
use Rattle.tl_beat.specs.statement.Opcode.{a_with, b_with, c_with, d_with, a_carries_data, b_carries_data}
use Rattle.tl_beat.specs.statement.Opcode.{c_carries_data, d_carries_data}
use Rattle.tl_wide.specs.code.Reading.{made_a, made_b, made_c, made_d}
use Rattle.tl_wide.specs.declared.beat.WideBeatA.{WideBeatA}
use Rattle.tl_wide.specs.declared.beat.WideBeatB.{WideBeatB}
use Rattle.tl_wide.specs.declared.beat.WideBeatC.{WideBeatC}
use Rattle.tl_wide.specs.declared.beat.WideBeatD.{WideBeatD}
use Rattle.tl_beat.specs.declared.opcode.OpA.{OpA}
use Rattle.tl_beat.specs.declared.opcode.OpB.{OpB}
use Rattle.tl_beat.specs.declared.opcode.OpC.{OpC}
use Rattle.tl_beat.specs.declared.opcode.OpD.{OpD}
use Rattle.tl_beat.specs.declared.fault.LineFault.TheVariants.{F6}
use mathlib.Core.Bool.{beq}

-- the beat x of channel A, from its fields
pub made_a-ok : {w : ℕ} (x : WideBeatA w) (code param : ℕ) → a_with code ≡ Some x.opcode → at_most 7 param ≡ Ok x.param
    → Ok x ≡ made_a code param x.size x.source x.address x.mask x.lanes x.corrupt
made_a-ok x code param p q = rw (p, q, agreement-ok (is_some x.lanes) (a_carries_data x.opcode) x.carries) refl

pub made_a-err : (w : ℕ) (opcode : OpA) (code given param size source address mask : ℕ) (lanes : Option (List ℕ))
    (corrupt b c : Bool) → a_with code ≡ Some opcode → at_most 7 given ≡ Ok param
    → b ≡ is_some lanes → c ≡ a_carries_data opcode → not (beq b c) ≡ true
    → Err F6 ≡ made_a {w = w} code given size source address mask lanes corrupt
made_a-err w opcode code given param size source address mask lanes corrupt b c p q r s apart =
    rw (p, q, agreement-apart (is_some lanes) (a_carries_data opcode) (rw (r, s) at apart)) refl

-- the beat x of channel B, from its fields
pub made_b-ok : {w : ℕ} (x : WideBeatB w) (code param : ℕ) → b_with code ≡ Some x.opcode → at_most 7 param ≡ Ok x.param
    → Ok x ≡ made_b code param x.size x.source x.address x.mask x.lanes x.corrupt
made_b-ok x code param p q = rw (p, q, agreement-ok (is_some x.lanes) (b_carries_data x.opcode) x.carries) refl

pub made_b-err : (w : ℕ) (opcode : OpB) (code given param size source address mask : ℕ) (lanes : Option (List ℕ))
    (corrupt b c : Bool) → b_with code ≡ Some opcode → at_most 7 given ≡ Ok param
    → b ≡ is_some lanes → c ≡ b_carries_data opcode → not (beq b c) ≡ true
    → Err F6 ≡ made_b {w = w} code given size source address mask lanes corrupt
made_b-err w opcode code given param size source address mask lanes corrupt b c p q r s apart =
    rw (p, q, agreement-apart (is_some lanes) (b_carries_data opcode) (rw (r, s) at apart)) refl

-- the beat x of channel C, from its fields
pub made_c-ok : {w : ℕ} (x : WideBeatC w) (code param : ℕ) → c_with code ≡ Some x.opcode → at_most 7 param ≡ Ok x.param
    → Ok x ≡ made_c code param x.size x.source x.address x.lanes x.corrupt
made_c-ok x code param p q = rw (p, q, agreement-ok (is_some x.lanes) (c_carries_data x.opcode) x.carries) refl

pub made_c-err : (w : ℕ) (opcode : OpC) (code given param size source address : ℕ) (lanes : Option (List ℕ))
    (corrupt b c : Bool) → c_with code ≡ Some opcode → at_most 7 given ≡ Ok param
    → b ≡ is_some lanes → c ≡ c_carries_data opcode → not (beq b c) ≡ true
    → Err F6 ≡ made_c {w = w} code given size source address lanes corrupt
made_c-err w opcode code given param size source address lanes corrupt b c p q r s apart =
    rw (p, q, agreement-apart (is_some lanes) (c_carries_data opcode) (rw (r, s) at apart)) refl

-- the beat x of channel D, from its fields
pub made_d-ok : {w : ℕ} (x : WideBeatD w) (code param : ℕ) → d_with code ≡ Some x.opcode → at_most 3 param ≡ Ok x.param
    → Ok x ≡ made_d code param x.size x.source x.sink x.denied x.lanes x.corrupt
made_d-ok x code param p q = rw (p, q, agreement-ok (is_some x.lanes) (d_carries_data x.opcode) x.carries) refl

pub made_d-err : (w : ℕ) (opcode : OpD) (code given param size source sink : ℕ) (denied : Bool)
    (lanes : Option (List ℕ)) (corrupt b c : Bool) → d_with code ≡ Some opcode → at_most 3 given ≡ Ok param
    → b ≡ is_some lanes → c ≡ d_carries_data opcode → not (beq b c) ≡ true
    → Err F6 ≡ made_d {w = w} code given size source sink denied lanes corrupt
made_d-err w opcode code given param size source sink denied lanes corrupt b c p q r s apart =
    rw (p, q, agreement-apart (is_some lanes) (d_carries_data opcode) (rw (r, s) at apart)) refl
