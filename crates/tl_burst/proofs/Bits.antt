-- Fields of bits, put above what a number already has.
use Rattle.std.proofs.Common.{◌≡◌, ℕ, Bool, true, false, ◌+◌, ◌*◌, ◌/◌, ◌%◌, ◌-◌, ◌<◌, ◌≤◌, ◌^◌, ◌==◌, refl, sym, ap}
use Rattle.std.proofs.Common.{◌∙◌, arith, lit<}
use Rattle.std.proofs.Math.Nat.{add-mul-mod_self_right, mod-eq_of_lt, mul-le-mul_left, pow-le-pow_right}
use Rattle.std.proofs.lemmas.Nat.{field_of, shr_high, pow-add, mul-add-lt, shl_whole}
use Rattle.tl_burst.specs.statement.Burst.{mask_at, bit}
use mir.Val.{bool_byte}

turned : (m a b : ℕ) → m + b * 2 ^ a ≡ b * 2 ^ a + m
turned m a b = omega arith

-- a number m below 2 ^ a with the field b from bit a on
field_here : (m a b j : ℕ) → m < 2 ^ a → b < 2 ^ j → (m + b * 2 ^ a) / 2 ^ a % 2 ^ j ≡ b
field_here m a b j low small = rw (turned m a b, shr_high b a m low, mod-eq_of_lt small) refl

split_power : (a l j : ℕ) → l + j ≤ a → 2 ^ a ≡ 2 ^ (a - (j + l)) * 2 ^ (j + l)
split_power a l j le =
    let e : a - (j + l) + (j + l) ≡ a = omega arith in
    sym (ap (λ n. 2 ^ n) e) ∙ pow-add 2 (a - (j + l)) (j + l)

low_part : (m a b j l : ℕ) → l + j ≤ a → (m + b * 2 ^ a) % 2 ^ (j + l) ≡ m % 2 ^ (j + l)
low_part m a b j l le =
    let p : m + b * 2 ^ a ≡ m + (b * 2 ^ (a - (j + l))) * 2 ^ (j + l) =
    let s = split_power a l j le in omega (arith, s, ap (λ n. b * n) s) in
    rw p (add-mul-mod_self_right m (b * 2 ^ (a - (j + l))) (2 ^ (j + l)))

field_below : (m a b j l : ℕ) → l + j ≤ a → (m + b * 2 ^ a) / 2 ^ l % 2 ^ j ≡ m / 2 ^ l % 2 ^ j
field_below m a b j l le =
    sym (field_of (m + b * 2 ^ a) j l) ∙ ap (λ n. n / 2 ^ l) (low_part m a b j l le) ∙ field_of m j l

sum_below : (m a b j : ℕ) → m < 2 ^ a → b < 2 ^ j → m + b * 2 ^ a < 2 ^ (a + j)
sum_below m a b j low small = rw (turned m a b, pow-add 2 a j) (mul-add-lt b (2 ^ a) m (2 ^ j) small low)

pub next_place : (w i : ℕ) → w * (i + 1) ≡ w * i + w
next_place w i = omega arith

pub earlier_place : (w i k : ℕ) → k < i → w * k + w ≤ w * i
earlier_place w i k lt =
    let h : k + 1 ≤ i = omega arith in
    omega (arith, mul-le-mul_left w h, next_place w k)

-- the mask of beat i, shifted to its place and added
pub mask_here : (w i m b r : ℕ) → r ≡ b → m < 2 ^ (w * i) → b < 2 ^ w → w * i + w ≤ 64
    → mask_at w (m + r * 2 ^ (w * i) % 2 ^ 64) i ≡ b
mask_here w i m b r e low small le =
    let whole = shl_whole b w (w * i) 64 small (omega arith) in
    rw (e, whole) (field_here m (w * i) b w low small)

pub mask_earlier : (w i m b r k : ℕ) → r ≡ b → b < 2 ^ w → w * i + w ≤ 64 → k < i
    → mask_at w (m + r * 2 ^ (w * i) % 2 ^ 64) k ≡ mask_at w m k
mask_earlier w i m b r k e small le lt =
    let whole = shl_whole b w (w * i) 64 small (omega arith) in
    rw (e, whole) (field_below m (w * i) b w (w * k) (earlier_place w i k lt))

pub mask_below : (w i m b r : ℕ) → r ≡ b → m < 2 ^ (w * i) → b < 2 ^ w → w * i + w ≤ 64
    → m + r * 2 ^ (w * i) % 2 ^ 64 < 2 ^ (w * (i + 1))
mask_below w i m b r e low small le =
    let whole = shl_whole b w (w * i) 64 small (omega arith) in
    rw (e, whole, next_place w i) (sum_below m (w * i) b w low small)

pub mask_fits : (w i m b r : ℕ) → r ≡ b → m < 2 ^ (w * i) → b < 2 ^ w → w * i + w ≤ 64
    → m + r * 2 ^ (w * i) % 2 ^ 64 < 2 ^ 64
mask_fits w i m b r e low small le =
    let below : m + r * 2 ^ (w * i) % 2 ^ 64 < 2 ^ (w * (i + 1)) = mask_below w i m b r e low small le in
    let far : 2 ^ (w * (i + 1)) ≤ 2 ^ 64 = pow-le-pow_right {n = 2} (lit< tt) {i = w * (i + 1)} {j = 64} (omega arith)
    in
    omega (arith, below, far)

byte_below : (set : Bool) → bool_byte set < 2 ^ 1
byte_below true = omega arith
byte_below false = omega arith

byte_is : (set : Bool) → (bool_byte set == 1) ≡ set
byte_is true = refl
byte_is false = refl

-- the same of one bit
pub bit_here : (i m r : ℕ) (set : Bool) → r ≡ bool_byte set → m < 2 ^ i → i < 16 → bit (m + r * 2 ^ i % 2 ^ 16) i ≡ set
bit_here i m r set e low le =
    let whole = shl_whole (bool_byte set) 1 i 16 (byte_below set) (omega arith) in
    rw (e, whole) (ap (λ n. n == 1) (field_here m i (bool_byte set) 1 low (byte_below set)) ∙ byte_is set)

pub bit_earlier : (i m r k : ℕ) (set : Bool) → r ≡ bool_byte set → i < 16 → k < i
    → bit (m + r * 2 ^ i % 2 ^ 16) k ≡ bit m k
bit_earlier i m r k set e le lt =
    let whole = shl_whole (bool_byte set) 1 i 16 (byte_below set) (omega arith) in
    rw (e, whole) (ap (λ n. n == 1) (field_below m i (bool_byte set) 1 k (omega arith)))
