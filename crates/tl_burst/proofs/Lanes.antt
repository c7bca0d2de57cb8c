-- Where the lanes of a beat stand in a payload.
use Rattle.std.proofs.Common.{◌≡◌, ℕ, ◌+◌, ◌*◌, ◌/◌, ◌<◌, ◌≤◌, ◌^◌, Bool, true, false, cond, refl, arith, inl, inr}
use Rattle.std.proofs.Common.{lit<, nat_lt}
use Rattle.std.proofs.Math.Nat.{pow-le-pow_right}
use Rattle.tl_beat.specs.statement.Width.{IsWidth}
use Rattle.tl_burst.specs.declared.message.Message.{Message}
use Rattle.tl_burst.specs.declared.message.Message.TheVariants.{A, B, C, D, E}
use Rattle.tl_beat.specs.statement.Opcode.{a_carries_data, b_carries_data, c_carries_data, d_carries_data}
use Rattle.tl_burst.specs.statement.Burst.{beats_of, data_beats, lanes_at, IsZeroFrom}
use Rattle.tl_burst.proofs.Bits.{next_place}
use Rattle.std.proofs.Common.{List, length, take, drop, sym, ap, ◌∙◌, ◌-◌, replicate}
use Rattle.std.specs.Prelude.{Some, slice_range}
use Rattle.std.proofs.lemmas.List.{drop-take, drop-drop, drop-replicate}
use Rattle.std.proofs.lemmas.Slice.{take-put_mid_below, drop-put_mid}
use borrow.Rule.Slice.PartMut.{put_mid}

pub block_size : (size : ℕ) → size ≤ 6 → 2 ^ size ≤ 64
block_size size le = pow-le-pow_right {n = 2} (lit< tt) {i = size} {j = 6} le

-- each lane of a burst's beats has a place in the payload
within_4 : (n i : ℕ) (more : Bool) → n ≤ 64 → i < cond more (n / 4) 1 → 4 * i + 4 ≤ 64
within_4 n i true le lt = omega arith
within_4 n i false le lt = omega arith

within_8 : (n i : ℕ) (more : Bool) → n ≤ 64 → i < cond more (n / 8) 1 → 8 * i + 8 ≤ 64
within_8 n i true le lt = omega arith
within_8 n i false le lt = omega arith

within_16 : (n i : ℕ) (more : Bool) → n ≤ 64 → i < cond more (n / 16) 1 → 16 * i + 16 ≤ 64
within_16 n i true le lt = omega arith
within_16 n i false le lt = omega arith

within : (w n i : ℕ) (more : Bool) → IsWidth w → n ≤ 64 → i < cond more (n / w) 1 → w * i + w ≤ 64
within w n i more (inl e) le lt = rw e (within_4 n i more le (rw e at lt))
within w n i more (inr (inl e)) le lt = rw e (within_8 n i more le (rw e at lt))
within w n i more (inr (inr e)) le lt = rw e (within_16 n i more le (rw e at lt))

one_beat : (w i : ℕ) → IsWidth w → i < 1 → w * i + w ≤ 64
one_beat w i width lt = within w 0 i false width (omega arith) lt

within_data : (w size i : ℕ) (carries : Bool) → IsWidth w → size ≤ 6 → i < cond carries (data_beats w size) 1
    → w * i + w ≤ 64
within_data w size i true width small lt = within w (2 ^ size) i (nat_lt w (2 ^ size)) width (block_size size small) lt
within_data w size i false width small lt = one_beat w i width lt

pub within_payload : {w : ℕ} (m : Message w) (i : ℕ) → IsWidth w → i < beats_of m → w * i + w ≤ 64
within_payload {w} (A m) i width lt = within_data w m.size i (a_carries_data m.opcode) width m.small lt
within_payload {w} (B m) i width lt = within_data w m.size i (b_carries_data m.opcode) width m.small lt
within_payload {w} (C m) i width lt = within_data w m.size i (c_carries_data m.opcode) width m.small lt
within_payload {w} (D m) i width lt = within_data w m.size i (d_carries_data m.opcode) width m.small lt
within_payload {w} (E m) i width lt = one_beat w i width lt

few : (w i : ℕ) → IsWidth w → w * i + w ≤ 64 → i < 16
few w i (inl e) le = let h : 4 * i + 4 ≤ 64 = rw e at le in omega (arith, h)
few w i (inr (inl e)) le = let h : 8 * i + 8 ≤ 64 = rw e at le in omega (arith, h)
few w i (inr (inr e)) le = let h : 16 * i + 16 ≤ 64 = rw e at le in omega (arith, h)

-- a message has 16 beats at most
pub few_beats : {w : ℕ} (m : Message w) (i : ℕ) → IsWidth w → i < beats_of m → i < 16
few_beats {w} m i width lt = few w i width (within_payload m i width lt)

slice_is : (xs : List ℕ) (n m : ℕ) → slice_range xs n (n + m) ≡ drop n (take (n + m) xs)
slice_is xs n m =
    let e : n + m - n ≡ m = omega arith in
    rw e (sym (drop-take n m xs))

-- a write at beat i leaves the lanes of earlier beats
pub lanes_earlier : (w i k n : ℕ) (carries : Bool) (xs ys : List ℕ) → w * k + w ≤ w * i → w * i ≤ length xs
    → lanes_at carries w (put_mid (w * i) n xs ys) k ≡ lanes_at carries w xs k
lanes_earlier w i k n true xs ys le inside =
    ap Some (slice_is (put_mid (w * i) n xs ys) (w * k) w ∙ ap (drop (w * k))
    (take-put_mid_below (w * i) n xs ys (w * k + w) le inside) ∙ sym (slice_is xs (w * k) w))
lanes_earlier w i k n false xs ys le inside = refl

-- and where the payload was zero from its place on, it is zero behind it
pub zero_behind : (w i n : ℕ) (xs ys : List ℕ) → n ≡ w → length ys ≡ n → w * i ≤ length xs → IsZeroFrom (w * i) xs
    → IsZeroFrom (w * (i + 1)) (put_mid (w * i) n xs ys)
zero_behind w i n xs ys e len inside zero =
    let next : w * (i + 1) ≡ w * i + w = next_place w i in
    rw next (
    drop-put_mid (w * i) n xs ys (w * i + w) (omega arith) inside len
    ∙ sym (drop-drop w (w * i) xs)
    ∙ ap (drop w) zero
    ∙ drop-replicate w (64 - w * i) 0
    ∙ ap (λ k. replicate k 0) (omega arith))
