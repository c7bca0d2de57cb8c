-- Beats with the same fields are one.
use Rattle.std.proofs.Common.{◌≡◌, ℕ, Bool, List, refl, ap, subst}
use Rattle.std.specs.Prelude.{Option, is_some}
use mathlib.Core.Bool.{Bool-set}
use Rattle.tl_beat.specs.declared.beat.BeatA.{BeatA}
use Rattle.tl_beat.specs.declared.opcode.OpA.{OpA}
use Rattle.tl_beat.specs.declared.beat.BeatB.{BeatB}
use Rattle.tl_beat.specs.declared.opcode.OpB.{OpB}
use Rattle.tl_beat.specs.declared.beat.BeatC.{BeatC}
use Rattle.tl_beat.specs.declared.opcode.OpC.{OpC}
use Rattle.tl_beat.specs.declared.beat.BeatD.{BeatD}
use Rattle.tl_beat.specs.declared.opcode.OpD.{OpD}
use Rattle.tl_beat.specs.statement.Opcode.{a_carries_data, b_carries_data, c_carries_data, d_carries_data}

abbrev FieldsA : Type 0
FieldsA = OpA × ℕ × ℕ × ℕ × ℕ × ℕ × (Option (List ℕ)) × Bool

abbrev CarriedA : FieldsA → Type 0
CarriedA x = is_some x.6 ≡ a_carries_data x.0

abbrev made_a : (w : ℕ) (x : FieldsA) → CarriedA x → BeatA w
made_a w x h = record {
  opcode = x.0;
  param = x.1;
  size = x.2;
  source = x.3;
  address = x.4;
  mask = x.5;
  lanes =
      x.6;
  corrupt = x.7;
  carries = h;
}

same_made_a : (w : ℕ) (x y : FieldsA) (h : CarriedA x) (k : CarriedA y) → x ≡ y → made_a w x h ≡ made_a w y k
same_made_a w x y h k e =
    subst (λ (z : FieldsA). (l : CarriedA z) → made_a w x h ≡ made_a w z l) e
    (λ l. ap (made_a w x) (Bool-set (is_some x.6) (a_carries_data x.0) h l)) k

pub same_a : {w : ℕ} (x y : BeatA w) → x.opcode ≡ y.opcode → x.param ≡ y.param → x.size ≡ y.size → x.source ≡ y.source
    → x.address ≡ y.address → x.mask ≡ y.mask → x.lanes ≡ y.lanes
    → x.corrupt ≡ y.corrupt → x ≡ y
same_a {w} x y e0 e1 e2 e3 e4 e5 e6 e7 =
    let e : (x.opcode, x.param, x.size, x.source, x.address, x.mask, x.lanes, x.corrupt)
    ≡ (y.opcode, y.param, y.size, y.source, y.address, y.mask, y.lanes, y.corrupt) =
    rw (e0, e1, e2, e3, e4, e5, e6, e7) refl in
    same_made_a w (x.opcode, x.param, x.size, x.source, x.address, x.mask, x.lanes, x.corrupt)
    (y.opcode, y.param, y.size, y.source, y.address, y.mask, y.lanes, y.corrupt) x.carries y.carries e

abbrev FieldsB : Type 0
FieldsB = OpB × ℕ × ℕ × ℕ × ℕ × ℕ × (Option (List ℕ)) × Bool

abbrev CarriedB : FieldsB → Type 0
CarriedB x = is_some x.6 ≡ b_carries_data x.0

abbrev made_b : (w : ℕ) (x : FieldsB) → CarriedB x → BeatB w
made_b w x h = record {
  opcode = x.0;
  param = x.1;
  size = x.2;
  source = x.3;
  address = x.4;
  mask = x.5;
  lanes =
      x.6;
  corrupt = x.7;
  carries = h;
}

same_made_b : (w : ℕ) (x y : FieldsB) (h : CarriedB x) (k : CarriedB y) → x ≡ y → made_b w x h ≡ made_b w y k
same_made_b w x y h k e =
    subst (λ (z : FieldsB). (l : CarriedB z) → made_b w x h ≡ made_b w z l) e
    (λ l. ap (made_b w x) (Bool-set (is_some x.6) (b_carries_data x.0) h l)) k

pub same_b : {w : ℕ} (x y : BeatB w) → x.opcode ≡ y.opcode → x.param ≡ y.param → x.size ≡ y.size → x.source ≡ y.source
    → x.address ≡ y.address → x.mask ≡ y.mask → x.lanes ≡ y.lanes
    → x.corrupt ≡ y.corrupt → x ≡ y
same_b {w} x y e0 e1 e2 e3 e4 e5 e6 e7 =
    let e : (x.opcode, x.param, x.size, x.source, x.address, x.mask, x.lanes, x.corrupt)
    ≡ (y.opcode, y.param, y.size, y.source, y.address, y.mask, y.lanes, y.corrupt) =
    rw (e0, e1, e2, e3, e4, e5, e6, e7) refl in
    same_made_b w (x.opcode, x.param, x.size, x.source, x.address, x.mask, x.lanes, x.corrupt)
    (y.opcode, y.param, y.size, y.source, y.address, y.mask, y.lanes, y.corrupt) x.carries y.carries e

abbrev FieldsC : Type 0
FieldsC = OpC × ℕ × ℕ × ℕ × ℕ × (Option (List ℕ)) × Bool

abbrev CarriedC : FieldsC → Type 0
CarriedC x = is_some x.5 ≡ c_carries_data x.0

abbrev made_c : (w : ℕ) (x : FieldsC) → CarriedC x → BeatC w
made_c w x h = record {
  opcode = x.0;
  param = x.1;
  size = x.2;
  source = x.3;
  address = x.4;
  lanes = x.5;
  corrupt =
      x.6;
  carries = h;
}

same_made_c : (w : ℕ) (x y : FieldsC) (h : CarriedC x) (k : CarriedC y) → x ≡ y → made_c w x h ≡ made_c w y k
same_made_c w x y h k e =
    subst (λ (z : FieldsC). (l : CarriedC z) → made_c w x h ≡ made_c w z l) e
    (λ l. ap (made_c w x) (Bool-set (is_some x.5) (c_carries_data x.0) h l)) k

pub same_c : {w : ℕ} (x y : BeatC w) → x.opcode ≡ y.opcode → x.param ≡ y.param → x.size ≡ y.size → x.source ≡ y.source
    → x.address ≡ y.address → x.lanes ≡ y.lanes → x.corrupt ≡ y.corrupt → x ≡ y
same_c {w} x y e0 e1 e2 e3 e4 e5 e6 =
    let e : (x.opcode, x.param, x.size, x.source, x.address, x.lanes, x.corrupt)
    ≡ (y.opcode, y.param, y.size, y.source, y.address, y.lanes, y.corrupt) = rw (e0, e1, e2, e3, e4, e5, e6) refl in
    same_made_c w (x.opcode, x.param, x.size, x.source, x.address, x.lanes, x.corrupt)
    (y.opcode, y.param, y.size, y.source, y.address, y.lanes, y.corrupt) x.carries y.carries e

abbrev FieldsD : Type 0
FieldsD = OpD × ℕ × ℕ × ℕ × ℕ × Bool × (Option (List ℕ)) × Bool

abbrev CarriedD : FieldsD → Type 0
CarriedD x = is_some x.6 ≡ d_carries_data x.0

abbrev made_d : (w : ℕ) (x : FieldsD) → CarriedD x → BeatD w
made_d w x h = record {
  opcode = x.0;
  param = x.1;
  size = x.2;
  source = x.3;
  sink = x.4;
  denied = x.5;
  lanes =
      x.6;
  corrupt = x.7;
  carries = h;
}

same_made_d : (w : ℕ) (x y : FieldsD) (h : CarriedD x) (k : CarriedD y) → x ≡ y → made_d w x h ≡ made_d w y k
same_made_d w x y h k e =
    subst (λ (z : FieldsD). (l : CarriedD z) → made_d w x h ≡ made_d w z l) e
    (λ l. ap (made_d w x) (Bool-set (is_some x.6) (d_carries_data x.0) h l)) k

pub same_d : {w : ℕ} (x y : BeatD w) → x.opcode ≡ y.opcode → x.param ≡ y.param → x.size ≡ y.size → x.source ≡ y.source
    → x.sink ≡ y.sink → x.denied ≡ y.denied → x.lanes ≡ y.lanes
    → x.corrupt ≡ y.corrupt → x ≡ y
same_d {w} x y e0 e1 e2 e3 e4 e5 e6 e7 =
    let e : (x.opcode, x.param, x.size, x.source, x.sink, x.denied, x.lanes, x.corrupt)
    ≡ (y.opcode, y.param, y.size, y.source, y.sink, y.denied, y.lanes, y.corrupt) =
    rw (e0, e1, e2, e3, e4, e5, e6, e7) refl in
    same_made_d w (x.opcode, x.param, x.size, x.source, x.sink, x.denied, x.lanes, x.corrupt)
    (y.opcode, y.param, y.size, y.source, y.sink, y.denied, y.lanes, y.corrupt) x.carries y.carries e
