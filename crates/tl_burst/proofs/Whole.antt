-- Two messages with one burst, and zero where no beat carries anything, are one.
use Rattle.std.proofs.Common.{◌≡◌, ℕ, zero, suc, Bool, true, false, List, ◌∷◌, ◌++◌, length, take, drop, ◌+◌, ◌-◌, ◌*◌}
use Rattle.std.proofs.Common.{◌/◌, ◌%◌, ◌<◌, ◌≤◌, ◌^◌, ◌==◌, refl, sym, ap, ap₂, ◌∙◌, subst, arith, inl, inr}
use Rattle.std.specs.Prelude.{Some, slice_range, if◌then◌else◌}
use Rattle.std.proofs.Math.Bridge.{le_prop}
use Rattle.std.proofs.Math.Nat.{mod-eq_of_lt}
use Rattle.std.proofs.Math.Seq.{take-add}
use Rattle.std.proofs.lemmas.Bool.{cases_eq}
use Rattle.std.proofs.lemmas.Bool.Decides.{nat_tests}
use Rattle.std.proofs.lemmas.List.{take-append-drop}
use Rattle.std.proofs.lemmas.Nat.{mod-pow-add}
use Rattle.tl_beat.specs.declared.beat.Beat.{Beat}
use Rattle.tl_beat.specs.declared.beat.Beat.TheVariants as beat
use Rattle.tl_beat.specs.declared.beat.BeatE.{BeatE}
use Rattle.tl_beat.specs.statement.Opcode.{a_carries_data, b_carries_data, c_carries_data, d_carries_data}
use Rattle.tl_burst.specs.declared.message.Message.{Message}
use Rattle.tl_burst.specs.declared.message.Message.TheVariants.{A, B, C, D, E}
use Rattle.tl_beat.specs.declared.beat.BeatA.{BeatA}
use Rattle.tl_beat.specs.declared.opcode.OpA.{OpA}
use Rattle.tl_burst.specs.declared.message.MessageA.{MessageA}
use Rattle.tl_beat.specs.declared.beat.BeatB.{BeatB}
use Rattle.tl_beat.specs.declared.opcode.OpB.{OpB}
use Rattle.tl_burst.specs.declared.message.MessageB.{MessageB}
use Rattle.tl_beat.specs.declared.beat.BeatC.{BeatC}
use Rattle.tl_beat.specs.declared.opcode.OpC.{OpC}
use Rattle.tl_burst.specs.declared.message.MessageC.{MessageC}
use Rattle.tl_beat.specs.declared.beat.BeatD.{BeatD}
use Rattle.tl_beat.specs.declared.opcode.OpD.{OpD}
use Rattle.tl_burst.specs.declared.message.MessageD.{MessageD}
use Rattle.tl_burst.specs.statement.Burst.{lanes_at, mask_at, bit, a_beat_of, b_beat_of, c_beat_of, d_beat_of, beat_of}
use Rattle.tl_burst.specs.statement.Burst.{beats_of, begun, IsZeroFrom, IsBlankAfter, IsBurst}
use Rattle.tl_burst.proofs.Begun.{length-begun}

slice_from : (w k : ℕ) (p : List ℕ) → slice_range p (w * k) (w * k + w) ≡ take w (drop (w * k) p)
slice_from w k p = let e : w * k + w - w * k ≡ w = omega arith in ap (λ n. take n (drop (w * k) p)) e

pub some_is : {X : Type 0} {x y : X} → Some x ≡ Some y → x ≡ y
some_is e = cc

-- payloads with the same lanes in the first n beats
taken_same : (w n : ℕ) (p q : List ℕ) → ((k : ℕ) → k < n → lanes_at true w p k ≡ lanes_at true w q k)
    → take (w * n) p ≡ take (w * n) q
taken_same w zero p q same = let e : w * 0 ≡ 0 = omega arith in rw e refl
taken_same w (suc n) p q same =
    let next : w * suc n ≡ w * n + w = omega arith in
    let here : take w (drop (w * n) p) ≡ take w (drop (w * n) q) =
    sym (slice_from w n p) ∙ some_is (same n (omega arith)) ∙ slice_from w n q in
    rw next (take-add (w * n) w p ∙ ap₂ (λ x y. x ++ y) (taken_same w n p q (λ k lt. same k (omega arith))) here ∙ sym
    (take-add (w * n) w q))

payload_same : (c : Bool) (w n : ℕ) (p q : List ℕ) → ((k : ℕ) → k < n → lanes_at c w p k ≡ lanes_at c w q k)
    → IsZeroFrom (if c then w * n else 0) p → IsZeroFrom (if c then w * n else 0) q → p ≡ q
payload_same true w n p q same zero_p zero_q =
    sym (take-append-drop (w * n) p) ∙ ap₂ (λ x y. x ++ y) (taken_same w n p q same) (zero_p ∙ sym zero_q)
    ∙ take-append-drop (w * n) q
payload_same false w n p q same zero_p zero_q = zero_p ∙ sym zero_q

-- masks with the same bits in the first n beats
low_same : (w n m l : ℕ) → ((k : ℕ) → k < n → mask_at w m k ≡ mask_at w l k) → m % 2 ^ (w * n) ≡ l % 2 ^ (w * n)
low_same w zero m l same = let e : w * 0 ≡ 0 = omega arith in rw e (omega arith)
low_same w (suc n) m l same =
    let next : w * suc n ≡ w + w * n = omega arith in
    rw next (mod-pow-add m w (w * n) ∙ ap₂ (λ x y. x * 2 ^ (w * n) + y) (same n (omega arith))
    (low_same w n m l (λ k lt. same k (omega arith))) ∙ sym (mod-pow-add l w (w * n)))

mask_same : (w n m l : ℕ) → ((k : ℕ) → k < n → mask_at w m k ≡ mask_at w l k) → m < 2 ^ (w * n) → l < 2 ^ (w * n)
    → m ≡ l
mask_same w n m l same below_m below_l = sym (mod-eq_of_lt below_m) ∙ low_same w n m l same ∙ mod-eq_of_lt below_l

digit_same : (x y : ℕ) → x < 2 → y < 2 → (x == 1) ≡ (y == 1) → x ≡ y
digit_same x y below_x below_y e = grind (arith, nat_tests)

bits_same : (n m l : ℕ) → ((k : ℕ) → k < n → bit m k ≡ bit l k) → m < 2 ^ n → l < 2 ^ n → m ≡ l
bits_same n m l same below_m below_l =
    let e : 1 * n ≡ n = omega arith in
    mask_same 1 n m l
    (λ k lt. let f : 1 * k ≡ k = omega arith in
    rw f (digit_same (m / 2 ^ k % 2) (l / 2 ^ k % 2) (omega arith) (omega arith) (same k lt)))
    (rw e below_m) (rw e below_l)

abbrev FieldsA : Type 0
FieldsA = OpA × ℕ × ℕ × ℕ × ℕ × (List ℕ) × ℕ × ℕ

abbrev made_a : (w : ℕ) (x : FieldsA) → x.2 ≤ 6 → MessageA w
made_a w x h = record {
  opcode = x.0;
  param = x.1;
  size = x.2;
  source = x.3;
  address = x.4;
  payload = x.5;
  mask =
      x.6;
  corrupt = x.7;
  small = h;
}

same_made_a : (w : ℕ) (x y : FieldsA) (h : x.2 ≤ 6) (k : y.2 ≤ 6) → x ≡ y → made_a w x h ≡ made_a w y k
same_made_a w x y h k e = subst (λ (z : FieldsA). (l : z.2 ≤ 6) → made_a w x h ≡ made_a w z l) e
    (λ l. ap (made_a w x) (le_prop h l)) k

same_fields_a : {w : ℕ} (m k : MessageA w) → m.opcode ≡ k.opcode → m.param ≡ k.param → m.size ≡ k.size
    → m.source ≡ k.source → m.address ≡ k.address → m.payload ≡ k.payload → m.mask ≡ k.mask
    → m.corrupt ≡ k.corrupt → m ≡ k
same_fields_a {w} m k e0 e1 e2 e3 e4 e5 e6 e7 =
    let e : (m.opcode, m.param, m.size, m.source, m.address, m.payload, m.mask, m.corrupt)
    ≡ (k.opcode, k.param, k.size, k.source, k.address, k.payload, k.mask, k.corrupt) =
    rw (e0, e1, e2, e3, e4, e5, e6, e7) refl in
    same_made_a w (m.opcode, m.param, m.size, m.source, m.address, m.payload, m.mask, m.corrupt)
    (k.opcode, k.param, k.size, k.source, k.address, k.payload, k.mask, k.corrupt) m.small k.small e

same_a : {w : ℕ} (m k : MessageA w) (n : ℕ) → 0 < n → ((i : ℕ) → i < n → a_beat_of m i ≡ a_beat_of k i)
    → IsBlankAfter n (A m) → IsBlankAfter n (A k) → m ≡ k
same_a {w} m k n some same blank_m blank_k =
    let op : k.opcode ≡ m.opcode = sym (ap (λ (x : BeatA w). x.opcode) (same 0 some)) in
    let carries : a_carries_data k.opcode ≡ a_carries_data m.opcode = ap a_carries_data op in
    let lanes : (i : ℕ) → i < n → lanes_at (a_carries_data m.opcode) w m.payload i ≡ lanes_at (a_carries_data m.opcode)
    w k.payload i =
    λ i lt. ap (λ (x : BeatA w). x.lanes) (same i lt) ∙ ap (λ b. lanes_at b w k.payload i) carries in
    let zero_k : IsZeroFrom (if a_carries_data m.opcode then w * n else 0) k.payload =
    subst (λ b. IsZeroFrom (if b then w * n else 0) k.payload) carries blank_k.0 in
    same_fields_a m k (ap (λ (x : BeatA w). x.opcode) (same 0 some)) (ap (λ (x : BeatA w). x.param) (same 0 some))
    (ap (λ (x : BeatA w). x.size) (same 0 some))
    (ap (λ (x : BeatA w). x.source) (same 0 some)) (ap (λ (x : BeatA w). x.address) (same 0 some))
    (payload_same (a_carries_data m.opcode) w n m.payload k.payload lanes blank_m.0 zero_k)
    (mask_same w n m.mask k.mask (λ i lt. ap (λ (x : BeatA w). x.mask) (same i lt)) blank_m.1 blank_k.1)
    (bits_same n m.corrupt k.corrupt (λ i lt. ap (λ (x : BeatA w). x.corrupt) (same i lt)) blank_m.2 blank_k.2)

abbrev FieldsB : Type 0
FieldsB = OpB × ℕ × ℕ × ℕ × ℕ × (List ℕ) × ℕ × ℕ

abbrev made_b : (w : ℕ) (x : FieldsB) → x.2 ≤ 6 → MessageB w
made_b w x h = record {
  opcode = x.0;
  param = x.1;
  size = x.2;
  source = x.3;
  address = x.4;
  payload = x.5;
  mask =
      x.6;
  corrupt = x.7;
  small = h;
}

same_made_b : (w : ℕ) (x y : FieldsB) (h : x.2 ≤ 6) (k : y.2 ≤ 6) → x ≡ y → made_b w x h ≡ made_b w y k
same_made_b w x y h k e = subst (λ (z : FieldsB). (l : z.2 ≤ 6) → made_b w x h ≡ made_b w z l) e
    (λ l. ap (made_b w x) (le_prop h l)) k

same_fields_b : {w : ℕ} (m k : MessageB w) → m.opcode ≡ k.opcode → m.param ≡ k.param → m.size ≡ k.size
    → m.source ≡ k.source → m.address ≡ k.address → m.payload ≡ k.payload → m.mask ≡ k.mask
    → m.corrupt ≡ k.corrupt → m ≡ k
same_fields_b {w} m k e0 e1 e2 e3 e4 e5 e6 e7 =
    let e : (m.opcode, m.param, m.size, m.source, m.address, m.payload, m.mask, m.corrupt)
    ≡ (k.opcode, k.param, k.size, k.source, k.address, k.payload, k.mask, k.corrupt) =
    rw (e0, e1, e2, e3, e4, e5, e6, e7) refl in
    same_made_b w (m.opcode, m.param, m.size, m.source, m.address, m.payload, m.mask, m.corrupt)
    (k.opcode, k.param, k.size, k.source, k.address, k.payload, k.mask, k.corrupt) m.small k.small e

same_b : {w : ℕ} (m k : MessageB w) (n : ℕ) → 0 < n → ((i : ℕ) → i < n → b_beat_of m i ≡ b_beat_of k i)
    → IsBlankAfter n (B m) → IsBlankAfter n (B k) → m ≡ k
same_b {w} m k n some same blank_m blank_k =
    let op : k.opcode ≡ m.opcode = sym (ap (λ (x : BeatB w). x.opcode) (same 0 some)) in
    let carries : b_carries_data k.opcode ≡ b_carries_data m.opcode = ap b_carries_data op in
    let lanes : (i : ℕ) → i < n → lanes_at (b_carries_data m.opcode) w m.payload i ≡ lanes_at (b_carries_data m.opcode)
    w k.payload i =
    λ i lt. ap (λ (x : BeatB w). x.lanes) (same i lt) ∙ ap (λ b. lanes_at b w k.payload i) carries in
    let zero_k : IsZeroFrom (if b_carries_data m.opcode then w * n else 0) k.payload =
    subst (λ b. IsZeroFrom (if b then w * n else 0) k.payload) carries blank_k.0 in
    same_fields_b m k (ap (λ (x : BeatB w). x.opcode) (same 0 some)) (ap (λ (x : BeatB w). x.param) (same 0 some))
    (ap (λ (x : BeatB w). x.size) (same 0 some))
    (ap (λ (x : BeatB w). x.source) (same 0 some)) (ap (λ (x : BeatB w). x.address) (same 0 some))
    (payload_same (b_carries_data m.opcode) w n m.payload k.payload lanes blank_m.0 zero_k)
    (mask_same w n m.mask k.mask (λ i lt. ap (λ (x : BeatB w). x.mask) (same i lt)) blank_m.1 blank_k.1)
    (bits_same n m.corrupt k.corrupt (λ i lt. ap (λ (x : BeatB w). x.corrupt) (same i lt)) blank_m.2 blank_k.2)

abbrev FieldsC : Type 0
FieldsC = OpC × ℕ × ℕ × ℕ × ℕ × (List ℕ) × ℕ

abbrev made_c : (w : ℕ) (x : FieldsC) → x.2 ≤ 6 → MessageC w
made_c w x h = record {
  opcode = x.0;
  param = x.1;
  size = x.2;
  source = x.3;
  address = x.4;
  payload = x.5;
  corrupt =
      x.6;
  small = h;
}

same_made_c : (w : ℕ) (x y : FieldsC) (h : x.2 ≤ 6) (k : y.2 ≤ 6) → x ≡ y → made_c w x h ≡ made_c w y k
same_made_c w x y h k e = subst (λ (z : FieldsC). (l : z.2 ≤ 6) → made_c w x h ≡ made_c w z l) e
    (λ l. ap (made_c w x) (le_prop h l)) k

same_fields_c : {w : ℕ} (m k : MessageC w) → m.opcode ≡ k.opcode → m.param ≡ k.param → m.size ≡ k.size
    → m.source ≡ k.source → m.address ≡ k.address → m.payload ≡ k.payload
    → m.corrupt ≡ k.corrupt → m ≡ k
same_fields_c {w} m k e0 e1 e2 e3 e4 e5 e6 =
    let e : (m.opcode, m.param, m.size, m.source, m.address, m.payload, m.corrupt)
    ≡ (k.opcode, k.param, k.size, k.source, k.address, k.payload, k.corrupt) =
    rw (e0, e1, e2, e3, e4, e5, e6) refl in
    same_made_c w (m.opcode, m.param, m.size, m.source, m.address, m.payload, m.corrupt)
    (k.opcode, k.param, k.size, k.source, k.address, k.payload, k.corrupt) m.small k.small e

same_c : {w : ℕ} (m k : MessageC w) (n : ℕ) → 0 < n → ((i : ℕ) → i < n → c_beat_of m i ≡ c_beat_of k i)
    → IsBlankAfter n (C m) → IsBlankAfter n (C k) → m ≡ k
same_c {w} m k n some same blank_m blank_k =
    let op : k.opcode ≡ m.opcode = sym (ap (λ (x : BeatC w). x.opcode) (same 0 some)) in
    let carries : c_carries_data k.opcode ≡ c_carries_data m.opcode = ap c_carries_data op in
    let lanes : (i : ℕ) → i < n → lanes_at (c_carries_data m.opcode) w m.payload i ≡ lanes_at (c_carries_data m.opcode)
    w k.payload i =
    λ i lt. ap (λ (x : BeatC w). x.lanes) (same i lt) ∙ ap (λ b. lanes_at b w k.payload i) carries in
    let zero_k : IsZeroFrom (if c_carries_data m.opcode then w * n else 0) k.payload =
    subst (λ b. IsZeroFrom (if b then w * n else 0) k.payload) carries blank_k.0 in
    same_fields_c m k (ap (λ (x : BeatC w). x.opcode) (same 0 some)) (ap (λ (x : BeatC w). x.param) (same 0 some))
    (ap (λ (x : BeatC w). x.size) (same 0 some))
    (ap (λ (x : BeatC w). x.source) (same 0 some)) (ap (λ (x : BeatC w). x.address) (same 0 some))
    (payload_same (c_carries_data m.opcode) w n m.payload k.payload lanes blank_m.0 zero_k)
    (bits_same n m.corrupt k.corrupt (λ i lt. ap (λ (x : BeatC w). x.corrupt) (same i lt)) blank_m.1 blank_k.1)

abbrev FieldsD : Type 0
FieldsD = OpD × ℕ × ℕ × ℕ × ℕ × Bool × (List ℕ) × ℕ

abbrev made_d : (w : ℕ) (x : FieldsD) → x.2 ≤ 6 → MessageD w
made_d w x h = record {
  opcode = x.0;
  param = x.1;
  size = x.2;
  source = x.3;
  sink = x.4;
  denied = x.5;
  payload =
      x.6;
  corrupt = x.7;
  small = h;
}

same_made_d : (w : ℕ) (x y : FieldsD) (h : x.2 ≤ 6) (k : y.2 ≤ 6) → x ≡ y → made_d w x h ≡ made_d w y k
same_made_d w x y h k e = subst (λ (z : FieldsD). (l : z.2 ≤ 6) → made_d w x h ≡ made_d w z l) e
    (λ l. ap (made_d w x) (le_prop h l)) k

same_fields_d : {w : ℕ} (m k : MessageD w) → m.opcode ≡ k.opcode → m.param ≡ k.param → m.size ≡ k.size
    → m.source ≡ k.source → m.sink ≡ k.sink → m.denied ≡ k.denied → m.payload ≡ k.payload
    → m.corrupt ≡ k.corrupt → m ≡ k
same_fields_d {w} m k e0 e1 e2 e3 e4 e5 e6 e7 =
    let e : (m.opcode, m.param, m.size, m.source, m.sink, m.denied, m.payload, m.corrupt)
    ≡ (k.opcode, k.param, k.size, k.source, k.sink, k.denied, k.payload, k.corrupt) =
    rw (e0, e1, e2, e3, e4, e5, e6, e7) refl in
    same_made_d w (m.opcode, m.param, m.size, m.source, m.sink, m.denied, m.payload, m.corrupt)
    (k.opcode, k.param, k.size, k.source, k.sink, k.denied, k.payload, k.corrupt) m.small k.small e

same_d : {w : ℕ} (m k : MessageD w) (n : ℕ) → 0 < n → ((i : ℕ) → i < n → d_beat_of m i ≡ d_beat_of k i)
    → IsBlankAfter n (D m) → IsBlankAfter n (D k) → m ≡ k
same_d {w} m k n some same blank_m blank_k =
    let op : k.opcode ≡ m.opcode = sym (ap (λ (x : BeatD w). x.opcode) (same 0 some)) in
    let carries : d_carries_data k.opcode ≡ d_carries_data m.opcode = ap d_carries_data op in
    let lanes : (i : ℕ) → i < n → lanes_at (d_carries_data m.opcode) w m.payload i ≡ lanes_at (d_carries_data m.opcode)
    w k.payload i =
    λ i lt. ap (λ (x : BeatD w). x.lanes) (same i lt) ∙ ap (λ b. lanes_at b w k.payload i) carries in
    let zero_k : IsZeroFrom (if d_carries_data m.opcode then w * n else 0) k.payload =
    subst (λ b. IsZeroFrom (if b then w * n else 0) k.payload) carries blank_k.0 in
    same_fields_d m k (ap (λ (x : BeatD w). x.opcode) (same 0 some)) (ap (λ (x : BeatD w). x.param) (same 0 some))
    (ap (λ (x : BeatD w). x.size) (same 0 some))
    (ap (λ (x : BeatD w). x.source) (same 0 some)) (ap (λ (x : BeatD w). x.sink) (same 0 some))
    (ap (λ (x : BeatD w). x.denied) (same 0 some))
    (payload_same (d_carries_data m.opcode) w n m.payload k.payload lanes blank_m.0 zero_k)
    (bits_same n m.corrupt k.corrupt (λ i lt. ap (λ (x : BeatD w). x.corrupt) (same i lt)) blank_m.1 blank_k.1)

abbrev a_part : {w : ℕ} → BeatA w → Beat w → BeatA w
a_part d (beat.A x) = x
a_part d _ = d

abbrev b_part : {w : ℕ} → BeatB w → Beat w → BeatB w
b_part d (beat.B x) = x
b_part d _ = d

abbrev c_part : {w : ℕ} → BeatC w → Beat w → BeatC w
c_part d (beat.C x) = x
c_part d _ = d

abbrev d_part : {w : ℕ} → BeatD w → Beat w → BeatD w
d_part d (beat.D x) = x
d_part d _ = d

abbrev e_part : {w : ℕ} → BeatE → Beat w → BeatE
e_part d (beat.E x) = x
e_part d _ = d

head_is : {X : Type 0} {x y : X} {xs ys : List X} → x ∷ xs ≡ y ∷ ys → x ≡ y
head_is e = cc

tail_is : {X : Type 0} {x y : X} {xs ys : List X} → x ∷ xs ≡ y ∷ ys → xs ≡ ys
tail_is e = cc

begun_same : {w : ℕ} (m k : Message w) (n : ℕ) → begun m n ≡ begun k n → (i : ℕ) → i < n → beat_of m i ≡ beat_of k i
begun_same m k zero e i lt = absurd (omega arith)
begun_same m k (suc n) e i lt =
    elim (cases_eq i n) [
      | inl here ↦ rw here (head_is e)
      | inr other ↦ begun_same m k n (tail_is e) i (omega arith)
    ]

same_from_beats : {w : ℕ} (m k : Message w) (n : ℕ) → 0 < n → ((i : ℕ) → i < n → beat_of m i ≡ beat_of k i)
    → IsBlankAfter n m → IsBlankAfter n k → m ≡ k
same_from_beats (A m) (A k) n some same blank_m blank_k =
    ap A (same_a m k n some (λ i lt. ap (a_part (a_beat_of m i)) (same i lt)) blank_m blank_k)
same_from_beats (B m) (B k) n some same blank_m blank_k =
    ap B (same_b m k n some (λ i lt. ap (b_part (b_beat_of m i)) (same i lt)) blank_m blank_k)
same_from_beats (C m) (C k) n some same blank_m blank_k =
    ap C (same_c m k n some (λ i lt. ap (c_part (c_beat_of m i)) (same i lt)) blank_m blank_k)
same_from_beats (D m) (D k) n some same blank_m blank_k =
    ap D (same_d m k n some (λ i lt. ap (d_part (d_beat_of m i)) (same i lt)) blank_m blank_k)
same_from_beats (E m) (E k) n some same blank_m blank_k =
    ap (λ s. E (record { sink = s })) (ap (λ b. (e_part (record { sink = m.sink }) b).sink) (same 0 some))
same_from_beats _ _ n some same blank_m blank_k = absurd (let e = same 0 some in cc)

-- a message is known by its burst
pub burst_decides : {w : ℕ} (m k : Message w) (beats : List (Beat w)) → 0 < beats_of m → IsBurst m beats
    → IsBurst k beats → m ≡ k
burst_decides m k beats some is_m is_k =
    let len : beats_of k ≡ beats_of m = sym (length-begun k (beats_of k)) ∙ ap length (sym is_k.0 ∙ is_m.0)
    ∙ length-begun m (beats_of m) in
    let same : begun m (beats_of m) ≡ begun k (beats_of m) = sym is_m.0 ∙ is_k.0 ∙ ap (begun k) len in
    same_from_beats m k (beats_of m) some (begun_same m k (beats_of m) same) is_m.1
    (subst (λ n. IsBlankAfter n k) len is_k.1)
