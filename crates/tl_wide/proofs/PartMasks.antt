-- The lanes of a mask by parts.
use Rattle.std.proofs.Common.{◌≡◌, ℕ, zero, suc, ◌+◌, ◌-◌, ◌*◌, ◌/◌, ◌%◌, ◌^◌, ◌<◌, ◌≤◌, Bool, true, false, not, cond}
use Rattle.std.proofs.Common.{List, ◌∷◌, refl, sym, ap, ap₂, ◌∙◌, arith, add-one}
use Rattle.std.proofs.lemmas.Bool.{ltb-false, ltb-true, ne_eqb}
use Rattle.std.proofs.lemmas.Nat.{div-mul-add, pow-add, pow_pos}
use Rattle.std.proofs.Math.Bool.{or-false, or-true}
use Rattle.std.proofs.Math.Nat.{div-div-eq-div-mul, div-eq_of_lt, mod-lt, mul_comm, pow-suc}
use Rattle.std.specs.Prelude.{◌==◌, ◌&&◌, ◌||◌, nat_lt, filter, bit_and, if◌then◌else◌}
use Rattle.tl_burst.specs.statement.Burst.{bit}
use Rattle.tl_rules.proofs.Masks.{bit_at_mod}
use Rattle.tl_rules.specs.statement.Legality.{each_below, is_one_of}
use Rattle.tl_wide.specs.statement.Pieces.{from}
use Rattle.tl_wide.specs.statement.Parts.{below, common_mask, has_stray, part_mask, parts_of, reaches_part}
use Rattle.tl_wide.specs.statement.Width.{IsWideWidth, part_width}
use Rattle.tl_wide.proofs.EachBelow.{each-cong, each-more, each-true}
use Rattle.tl_wide.proofs.Reached.{by_width, fills, from-first, from-zero, picked}

mul-more : (p part : ℕ) → p * (part + 1) ≡ p * part + p
mul-more p part = rw (mul_comm p (part + 1), mul_comm p part) (omega arith)

div-once : (x d : ℕ) → d ≤ x → x < 2 * d → x / d ≡ 1
div-once x d le lt =
    let same : 1 * d + (x - d) ≡ x = omega arith in
    ap (λ n. n / d) (sym same) ∙ div-mul-add 1 d (x - d) (omega arith)

-- a number without bits
zero-bits : (n x : ℕ) → x < 2 ^ n → each_below n (λ i. not (bit x i)) ≡ (x == 0)
unfolding each_below
zero-bits zero x lt = let none : x ≡ 0 = omega arith in rw none refl
zero-bits (suc n) x lt =
    go (nat_lt x (2 ^ n)) refl (λ lower. zero-bits n x lower)
  where
    go : (b : Bool) → nat_lt x (2 ^ n) ≡ b → (x < 2 ^ n → each_below n (λ i. not (bit x i)) ≡ (x == 0))
        → (not (bit x n) && each_below n (λ i. not (bit x i))) ≡ (x == 0)
    go true e rest =
        let lower : x < 2 ^ n = ltb-true x (2 ^ n) e in
        let none : x / 2 ^ n ≡ 0 = div-eq_of_lt lower in
        rw none (rest lower)
    go false e rest =
        let upper : 2 ^ n ≤ x = ltb-false x (2 ^ n) e in
        let twice : x < 2 * 2 ^ n = rw (pow-suc, mul_comm (2 ^ n) 2) at lt in
        let one : x / 2 ^ n ≡ 1 = div-once x (2 ^ n) upper twice in
        let some : (x == 0) ≡ false = ne_eqb x 0 (λ z. absurd (omega (arith, upper, pow_pos n))) in
        rw (one, some) refl

-- a bit of a part's mask is one of the mask
bit-of-part : (mask a p i : ℕ) → i < p → bit (mask / 2 ^ a % 2 ^ p) i ≡ bit mask (a + i)
bit-of-part mask a p i lt =
    ap (λ b. b == 1) (bit_at_mod (mask / 2 ^ a) p i lt)
    ∙ ap (λ m. m % 2 == 1) (div-div-eq-div-mul mask (2 ^ a) (2 ^ i) ∙ ap (λ d. mask / d) (sym (pow-add 2 a i)))

-- whether a part's lanes are those of a part of the message, or not in the mask
part-clear : (mask p part : ℕ) (parts : List ℕ) → 0 < p
    → each_below p (λ i. not (bit mask (p * part + i)) || is_one_of ((p * part + i) / p) parts)
    ≡ (is_one_of part parts || (mask / 2 ^ (p * part) % 2 ^ p == 0))
part-clear mask p part parts some =
    each-cong p (λ i. not (bit mask (p * part + i)) || is_one_of ((p * part + i) / p) parts)
    (λ i. not (bit (mask / 2 ^ (p * part) % 2 ^ p) i) || is_one_of part parts)
    (λ i lt. ap₂ (λ b q. not b || is_one_of q parts) (sym (bit-of-part mask (p * part) p i lt))
    (ap (λ n. (n + i) / p) (mul_comm p part) ∙ div-mul-add part p i lt))
    ∙ go (is_one_of part parts)
  where
    piece : ℕ
    piece = mask / 2 ^ (p * part) % 2 ^ p

    go : (b : Bool) → each_below p (λ i. not (bit piece i) || b) ≡ (b || (piece == 0))
    go true = each-cong p (λ i. not (bit piece i) || true) (λ i. true) (λ i lt. or-true (not (bit piece i))) ∙ each-true
        p
    go false = each-cong p (λ i. not (bit piece i) || false) (λ i. not (bit piece i))
        (λ i lt. or-false (not (bit piece i)))
        ∙ zero-bits p piece (mod-lt (mask / 2 ^ (p * part)) (pow_pos p))

-- the lanes of the parts before this one, and those of this one
pub clear-more : (mask p part : ℕ) (parts : List ℕ) → 0 < p
    → each_below (p * (part + 1)) (λ lane. not (bit mask lane) || is_one_of (lane / p) parts)
    ≡ ((is_one_of part parts || (mask / 2 ^ (p * part) % 2 ^ p == 0))
    && each_below (p * part) (λ lane. not (bit mask lane) || is_one_of (lane / p) parts))
clear-more mask p part parts some =
    ap (λ n. each_below n (λ lane. not (bit mask lane) || is_one_of (lane / p) parts)) (mul-more p part)
    ∙ each-more (p * part) p (λ lane. not (bit mask lane) || is_one_of (lane / p) parts)
    ∙ ap (λ b. b && each_below (p * part) (λ lane. not (bit mask lane) || is_one_of (lane / p) parts))
    (part-clear mask p part parts some)

pub clear-none : (p : ℕ) (f : ℕ → Bool) → each_below (p * 0) f ≡ true
unfolding each_below
clear-none p f = let none : p * 0 ≡ 0 = omega arith in rw none refl

-- all lanes of a mask
pub stray-is : (w p part mask : ℕ) (parts : List ℕ) → IsWideWidth w → p ≡ part_width w → part ≡ 64 / p
    → not (each_below (p * part) (λ lane. not (bit mask lane) || is_one_of (lane / p) parts)) ≡ has_stray w parts mask
stray-is w p part mask parts width is end =
    let f = fills w p width is in
    let all : p * part ≡ 64 = ap (λ k. p * k) end ∙ f.all in
    rw all (ap (λ q. not (each_below 64 (λ lane. not (bit mask lane) || is_one_of (lane / q) parts))) is)

-- whether a message has a part
pub has-part : (w p size address part : ℕ) → p ≡ part_width w
    → is_one_of part (parts_of w size address) ≡ (nat_lt part (w / p) && reaches_part w size address part)
has-part w p size address part is = rw is (picked (w / part_width w) (reaches_part w size address) part)

-- ---- parts one after another

-- so many from the last on, one more
pub from-last : (count i : ℕ) → i < count → from (count - (i + 1)) (i + 1) ≡ (count - 1 - i) ∷ from (count - i) i
from-last count i lt =
    let first : count - (i + 1) ≡ count - 1 - i = omega arith in
    let next : suc (count - 1 - i) ≡ count - i = omega arith in
    rw (first, add-one) (from-first (count - 1 - i) i ∙ ap (λ k. (count - 1 - i) ∷ from k i) next)

-- the lanes that the parts have in common, one part more
pub common-more : (w count i mask : ℕ) (test : ℕ → Bool) → i < count
    → common_mask w (filter test (from (count - (i + 1)) (i + 1))) mask
    ≡ (if test (count - 1 - i) then bit_and (part_mask w mask (count - 1 - i))
    (common_mask w (filter test (from (count - i) i)) mask)
    else common_mask w (filter test (from (count - i) i)) mask)
common-more w count i mask test lt = rw (from-last count i lt) (go (test (count - 1 - i)))
  where
    rest : List ℕ
    rest = filter test (from (count - i) i)

    go : (b : Bool) → common_mask w (cond b ((count - 1 - i) ∷ rest) rest) mask
        ≡ cond b (bit_and (part_mask w mask (count - 1 - i)) (common_mask w rest mask)) (common_mask w rest mask)
    go true = refl
    go false = refl

pub common-none : (w count mask : ℕ) (test : ℕ → Bool) → common_mask w (filter test (from (count - 0) 0)) mask
    ≡ 2 ^ part_width w - 1
unfolding from
common-none w count mask test = refl

-- those of all parts
pub common-all : (w count i mask : ℕ) (test : ℕ → Bool) → i ≡ count
    → common_mask w (filter test (from (count - i) i)) mask ≡ common_mask w (filter test (below count)) mask
common-all w count i mask test end =
    let none : count - count ≡ 0 = omega arith in
    rw (end, none) (ap (λ xs. common_mask w (filter test xs) mask) (from-zero count))

pub full-lanes : (w p : ℕ) → IsWideWidth w → p ≡ part_width w → (2 ^ 16 - 1) / 2 ^ (16 - p) ≡ 2 ^ part_width w - 1
full-lanes w p width is =
    rw (← is) (by_width (λ w p. (2 ^ 16 - 1) / 2 ^ (16 - p) ≡ 2 ^ p - 1) refl refl refl refl refl w p width is)
