-- The control fields of a beat and of the message that it belongs to.
use Rattle.std.proofs.Common.{◌≡◌, ℕ, Bool, true, false, ◌&&◌, ◌==◌, refl, sym, ap, ◌∙◌, IsTrue, List}
use Rattle.std.specs.Prelude.{Option, is_some, if◌then◌else◌}
use Rattle.std.proofs.lemmas.Bool.{and_parts, eqb-true}
use Rattle.std.specs.Bool.{beq}
use Rattle.tl_beat.specs.declared.beat.Beat.TheVariants.{A, B, C, D}
use Rattle.tl_beat.specs.declared.beat.BeatA.{BeatA}
use Rattle.tl_beat.specs.declared.opcode.OpA.{OpA}
use Rattle.tl_beat.specs.declared.opcode.OpA.TheVariants as a
use Rattle.tl_burst.specs.declared.message.MessageA.{MessageA}
use Rattle.tl_beat.specs.declared.beat.BeatB.{BeatB}
use Rattle.tl_beat.specs.declared.opcode.OpB.{OpB}
use Rattle.tl_beat.specs.declared.opcode.OpB.TheVariants as b
use Rattle.tl_burst.specs.declared.message.MessageB.{MessageB}
use Rattle.tl_beat.specs.declared.beat.BeatC.{BeatC}
use Rattle.tl_beat.specs.declared.opcode.OpC.{OpC}
use Rattle.tl_beat.specs.declared.opcode.OpC.TheVariants as c
use Rattle.tl_burst.specs.declared.message.MessageC.{MessageC}
use Rattle.tl_beat.specs.declared.beat.BeatD.{BeatD}
use Rattle.tl_beat.specs.declared.opcode.OpD.{OpD}
use Rattle.tl_beat.specs.declared.opcode.OpD.TheVariants as d
use Rattle.tl_burst.specs.declared.message.MessageD.{MessageD}
use Rattle.tl_beat.specs.statement.Opcode.{a_code, b_code, c_code, d_code, a_carries_data, b_carries_data}
use Rattle.tl_beat.specs.statement.Opcode.{c_carries_data, d_carries_data}
use Rattle.tl_burst.specs.statement.Burst.{lanes_at, mask_at, bit, a_beat_of, b_beat_of, c_beat_of, d_beat_of}
use Rattle.tl_burst.specs.statement.Messages.{same_control}
use Rattle.tl_burst.proofs.Same.{same_a, same_b, same_c, same_d}

same_bools : (a b : Bool) → beq a b ≡ true → a ≡ b
same_bools true true e = refl
same_bools false false e = refl
same_bools true false e = sym e
same_bools false true e = e

lanes_of_opcode : (w i : ℕ) (payload : List ℕ) (carries has : Bool) (lanes : Option (List ℕ)) → is_some lanes ≡ has
    → carries ≡ has → lanes_at (is_some lanes) w payload i ≡ lanes
    → lanes_at carries w payload i ≡ lanes
lanes_of_opcode w i payload carries has lanes e f h = rw (f, ← e) h

-- the opcode of a code
abbrev a_op : ℕ → OpA
a_op n = if n == 0 then a.PutFullData else (if n == 1 then a.PutPartialData
    else (if n == 2 then a.ArithmeticData else (if n == 3 then a.LogicalData
    else (if n == 4 then a.Get else
    (if n == 5 then a.Intent else (if n == 6 then a.AcquireBlock else a.AcquirePerm))))))

a_op_back : (x : OpA) → a_op (a_code x) ≡ x
a_op_back a.PutFullData = refl
a_op_back a.PutPartialData = refl
a_op_back a.ArithmeticData = refl
a_op_back a.LogicalData = refl
a_op_back a.Get = refl
a_op_back a.Intent = refl
a_op_back a.AcquireBlock = refl
a_op_back a.AcquirePerm = refl

same_op_a : (x y : OpA) → (a_code x == a_code y) ≡ true → x ≡ y
same_op_a x y e = sym (a_op_back x) ∙ ap a_op (eqb-true (a_code x) (a_code y) e) ∙ a_op_back y

pub control_a : {w : ℕ} (x y : BeatA w) → IsTrue (same_control (A x) (A y)) → (x.opcode ≡ y.opcode)
    × (x.param ≡ y.param) × (x.size ≡ y.size) × (x.source ≡ y.source) × (x.address ≡ y.address)
control_a x y e =
    let h0 = and_parts (a_code x.opcode == a_code y.opcode)
    ((x.param == y.param) && ((x.size == y.size) && ((x.source == y.source) && (x.address == y.address)))) e in
    let h1 = and_parts (x.param == y.param) ((x.size == y.size) && ((x.source == y.source) && (x.address == y.address)))
    h0.1 in
    let h2 = and_parts (x.size == y.size) ((x.source == y.source) && (x.address == y.address)) h1.1 in
    let h3 = and_parts (x.source == y.source) (x.address == y.address) h2.1 in (
      same_op_a x.opcode y.opcode h0.0,
      eqb-true x.param y.param h1.0,
      eqb-true x.size y.size h2.0,
      eqb-true x.source
          y.source h3.0,
      eqb-true x.address y.address h3.1,
    )

-- a message of these control fields, with these lanes and bits at its beat i, has this beat there
pub a_beat_here : {w : ℕ} (m : MessageA w) (i : ℕ) (x : BeatA w) → IsTrue (same_control (A x) (A (a_beat_of m 0)))
    → lanes_at (is_some x.lanes) w m.payload i ≡ x.lanes
    → mask_at w m.mask i ≡ x.mask → bit m.corrupt i ≡ x.corrupt → a_beat_of m i ≡ x
a_beat_here {w} m i x same lanes mask corrupt =
    let c = control_a x (a_beat_of m 0) same in
    same_a (a_beat_of m i) x (sym c.0) (sym c.1) (sym c.2) (sym c.3) (sym c.4) mask
    (lanes_of_opcode w i m.payload (a_carries_data m.opcode) (a_carries_data x.opcode) x.lanes x.carries
    (ap a_carries_data (sym c.0)) lanes) corrupt

-- the opcode of a code
abbrev b_op : ℕ → OpB
b_op n = if n == 0 then b.PutFullData else (if n == 1 then b.PutPartialData
    else (if n == 2 then b.ArithmeticData else (if n == 3 then b.LogicalData
    else (if n == 4 then b.Get else (if n == 5 then b.Intent else (if n == 6 then b.ProbeBlock else b.ProbePerm))))))

b_op_back : (x : OpB) → b_op (b_code x) ≡ x
b_op_back b.PutFullData = refl
b_op_back b.PutPartialData = refl
b_op_back b.ArithmeticData = refl
b_op_back b.LogicalData = refl
b_op_back b.Get = refl
b_op_back b.Intent = refl
b_op_back b.ProbeBlock = refl
b_op_back b.ProbePerm = refl

same_op_b : (x y : OpB) → (b_code x == b_code y) ≡ true → x ≡ y
same_op_b x y e = sym (b_op_back x) ∙ ap b_op (eqb-true (b_code x) (b_code y) e) ∙ b_op_back y

pub control_b : {w : ℕ} (x y : BeatB w) → IsTrue (same_control (B x) (B y)) → (x.opcode ≡ y.opcode)
    × (x.param ≡ y.param) × (x.size ≡ y.size) × (x.source ≡ y.source) × (x.address ≡ y.address)
control_b x y e =
    let h0 = and_parts (b_code x.opcode == b_code y.opcode)
    ((x.param == y.param) && ((x.size == y.size) && ((x.source == y.source) && (x.address == y.address)))) e in
    let h1 = and_parts (x.param == y.param) ((x.size == y.size) && ((x.source == y.source) && (x.address == y.address)))
    h0.1 in
    let h2 = and_parts (x.size == y.size) ((x.source == y.source) && (x.address == y.address)) h1.1 in
    let h3 = and_parts (x.source == y.source) (x.address == y.address) h2.1 in (
      same_op_b x.opcode y.opcode h0.0,
      eqb-true x.param y.param h1.0,
      eqb-true x.size y.size h2.0,
      eqb-true x.source
          y.source h3.0,
      eqb-true x.address y.address h3.1,
    )

-- a message of these control fields, with these lanes and bits at its beat i, has this beat there
pub b_beat_here : {w : ℕ} (m : MessageB w) (i : ℕ) (x : BeatB w) → IsTrue (same_control (B x) (B (b_beat_of m 0)))
    → lanes_at (is_some x.lanes) w m.payload i ≡ x.lanes
    → mask_at w m.mask i ≡ x.mask → bit m.corrupt i ≡ x.corrupt → b_beat_of m i ≡ x
b_beat_here {w} m i x same lanes mask corrupt =
    let c = control_b x (b_beat_of m 0) same in
    same_b (b_beat_of m i) x (sym c.0) (sym c.1) (sym c.2) (sym c.3) (sym c.4) mask
    (lanes_of_opcode w i m.payload (b_carries_data m.opcode) (b_carries_data x.opcode) x.lanes x.carries
    (ap b_carries_data (sym c.0)) lanes) corrupt

-- the opcode of a code
abbrev c_op : ℕ → OpC
c_op n = if n == 0 then c.AccessAck else (if n == 1 then c.AccessAckData
    else (if n == 2 then c.HintAck else
    (if n == 4 then c.ProbeAck else
    (if n == 5 then c.ProbeAckData else (if n == 6 then c.Release else c.ReleaseData)))))

c_op_back : (x : OpC) → c_op (c_code x) ≡ x
c_op_back c.AccessAck = refl
c_op_back c.AccessAckData = refl
c_op_back c.HintAck = refl
c_op_back c.ProbeAck = refl
c_op_back c.ProbeAckData = refl
c_op_back c.Release = refl
c_op_back c.ReleaseData = refl

same_op_c : (x y : OpC) → (c_code x == c_code y) ≡ true → x ≡ y
same_op_c x y e = sym (c_op_back x) ∙ ap c_op (eqb-true (c_code x) (c_code y) e) ∙ c_op_back y

pub control_c : {w : ℕ} (x y : BeatC w) → IsTrue (same_control (C x) (C y)) → (x.opcode ≡ y.opcode)
    × (x.param ≡ y.param) × (x.size ≡ y.size) × (x.source ≡ y.source) × (x.address ≡ y.address)
control_c x y e =
    let h0 = and_parts (c_code x.opcode == c_code y.opcode)
    ((x.param == y.param) && ((x.size == y.size) && ((x.source == y.source) && (x.address == y.address)))) e in
    let h1 = and_parts (x.param == y.param) ((x.size == y.size) && ((x.source == y.source) && (x.address == y.address)))
    h0.1 in
    let h2 = and_parts (x.size == y.size) ((x.source == y.source) && (x.address == y.address)) h1.1 in
    let h3 = and_parts (x.source == y.source) (x.address == y.address) h2.1 in (
      same_op_c x.opcode y.opcode h0.0,
      eqb-true x.param y.param h1.0,
      eqb-true x.size y.size h2.0,
      eqb-true x.source
          y.source h3.0,
      eqb-true x.address y.address h3.1,
    )

-- a message of these control fields, with these lanes and bits at its beat i, has this beat there
pub c_beat_here : {w : ℕ} (m : MessageC w) (i : ℕ) (x : BeatC w) → IsTrue (same_control (C x) (C (c_beat_of m 0)))
    → lanes_at (is_some x.lanes) w m.payload i ≡ x.lanes
    → bit m.corrupt i ≡ x.corrupt → c_beat_of m i ≡ x
c_beat_here {w} m i x same lanes corrupt =
    let c = control_c x (c_beat_of m 0) same in
    same_c (c_beat_of m i) x (sym c.0) (sym c.1) (sym c.2) (sym c.3) (sym c.4)
    (lanes_of_opcode w i m.payload (c_carries_data m.opcode) (c_carries_data x.opcode) x.lanes x.carries
    (ap c_carries_data (sym c.0)) lanes) corrupt

-- the opcode of a code
abbrev d_op : ℕ → OpD
d_op n = if n == 0 then d.AccessAck else
    (if n == 1 then d.AccessAckData else
    (if n == 2 then d.HintAck else (if n == 4 then d.Grant else (if n == 5 then d.GrantData else d.ReleaseAck))))

d_op_back : (x : OpD) → d_op (d_code x) ≡ x
d_op_back d.AccessAck = refl
d_op_back d.AccessAckData = refl
d_op_back d.HintAck = refl
d_op_back d.Grant = refl
d_op_back d.GrantData = refl
d_op_back d.ReleaseAck = refl

same_op_d : (x y : OpD) → (d_code x == d_code y) ≡ true → x ≡ y
same_op_d x y e = sym (d_op_back x) ∙ ap d_op (eqb-true (d_code x) (d_code y) e) ∙ d_op_back y

pub control_d : {w : ℕ} (x y : BeatD w) → IsTrue (same_control (D x) (D y))
    → (x.opcode ≡ y.opcode) × (x.param ≡ y.param) × (x.size ≡ y.size) × (x.source ≡ y.source) × (x.sink ≡ y.sink)
    × (x.denied ≡ y.denied)
control_d x y e =
    let h0 = and_parts (d_code x.opcode == d_code y.opcode)
    ((x.param == y.param) && ((x.size == y.size)
    && ((x.source == y.source) && ((x.sink == y.sink) && beq x.denied y.denied)))) e in
    let h1 = and_parts (x.param == y.param)
    ((x.size == y.size) && ((x.source == y.source) && ((x.sink == y.sink) && beq x.denied y.denied))) h0.1 in
    let h2 = and_parts (x.size == y.size) ((x.source == y.source) && ((x.sink == y.sink) && beq x.denied y.denied)) h1.1
    in
    let h3 = and_parts (x.source == y.source) ((x.sink == y.sink) && beq x.denied y.denied) h2.1 in
    let h4 = and_parts (x.sink == y.sink) (beq x.denied y.denied) h3.1 in (
      same_op_d x.opcode y.opcode h0.0,
      eqb-true x.param y.param h1.0,
      eqb-true x.size y.size h2.0,
      eqb-true x.source
          y.source h3.0,
      eqb-true x.sink y.sink h4.0,
      same_bools x.denied y.denied h4.1,
    )

-- a message of these control fields, with these lanes and bits at its beat i, has this beat there
pub d_beat_here : {w : ℕ} (m : MessageD w) (i : ℕ) (x : BeatD w) → IsTrue (same_control (D x) (D (d_beat_of m 0)))
    → lanes_at (is_some x.lanes) w m.payload i ≡ x.lanes
    → bit m.corrupt i ≡ x.corrupt → d_beat_of m i ≡ x
d_beat_here {w} m i x same lanes corrupt =
    let c = control_d x (d_beat_of m 0) same in
    same_d (d_beat_of m i) x (sym c.0) (sym c.1) (sym c.2) (sym c.3) (sym c.4) (sym c.5)
    (lanes_of_opcode w i m.payload (d_carries_data m.opcode) (d_carries_data x.opcode) x.lanes x.carries
    (ap d_carries_data (sym c.0)) lanes) corrupt
