-- Runs of ones, and masks compared by each of their bits.
use Rattle.std.proofs.Common.{◌≡◌, ℕ, ◌+◌, ◌-◌, ◌*◌, ◌/◌, ◌%◌, ◌^◌, ◌<◌, ◌≤◌, min, Bool, true, false, not, ◌&&◌, ◌||◌}
use Rattle.std.proofs.Common.{leb, ltb, eqb, bit_and, refl, sym, ap, ◌∙◌, arith, inl, inr, add-zero, lit<}
use Rattle.std.specs.Int.{bit_at, w16}
use Rattle.std.specs.Bool.{Decides, beq}
use Rattle.std.proofs.lemmas.Bool.{cases_lt, cases_eq, or_right, lt-ltb, le-ltb, le-leb, lt-leb}
use Rattle.std.proofs.lemmas.Bool.Decides.{nat_tests, same_from_decides, Decides-eqb, Decides-like, Decides-below_and}
use Rattle.std.proofs.lemmas.Nat.{shr_split, pow_pos, and_le_l}
use Rattle.std.proofs.lemmas.Nat.Bits.{ones_shr, bit_at_cat_low, bit_at_cat_high, bit_at-zero, bit_at_ones}
use Rattle.std.proofs.lemmas.Nat.Bits.{bit_at_ones_above, bit_at-lt, bit_at_and, bit_at_not, same_from_bits_below}
use Rattle.std.specs.Cmp.{booleans_Decides}
use Rattle.tl_burst.specs.statement.Burst.{bit}
use Rattle.tl_rules.specs.statement.Legality.{each_below}

-- ---- a run of ones

pub bit_at_mod : (n w i : ℕ) → i < w → bit_at (n % 2 ^ w) i ≡ bit_at n i
bit_at_mod n w i lt = sym (bit_at_cat_low (n / 2 ^ w) w (n % 2 ^ w) i lt) ∙ ap (λ m. bit_at m i) (shr_split n w)

bit_at_shifted_low : (a k i : ℕ) → i < k → bit_at (a * 2 ^ k) i ≡ 0
bit_at_shifted_low a k i lt = sym (ap (λ m. bit_at m i) (add-zero (a * 2 ^ k))) ∙ bit_at_cat_low a k 0 i
    lt ∙ bit_at-zero i

bit_at_shifted_high : (a k i : ℕ) → k ≤ i → bit_at (a * 2 ^ k) i ≡ bit_at a (i - k)
bit_at_shifted_high a k i le = sym (ap (λ m. bit_at m i) (add-zero (a * 2 ^ k))) ∙ bit_at_cat_high a k 0 i (pow_pos k)
    le

in_run : (first count i : ℕ) → eqb (bit_at ((2 ^ count - 1) * 2 ^ first) i) 1 ≡ (leb first i && ltb i (first + count))
in_run first count i =
    elim (cases_lt i first) [
      | inl below ↦ rw (bit_at_shifted_low (2 ^ count - 1) first i below, lt-leb first i below) refl
      | inr above ↦
          elim (cases_lt i (first + count)) [
            | inl inside ↦
                let lt : i - first < count = omega arith in
                rw (
                  bit_at_shifted_high (2 ^ count - 1) first i above,
                  bit_at_ones count (i - first) lt,
                  le-leb first i
                      above,
                  lt-ltb i (first + count) inside,
                ) refl
            | inr beyond ↦
                let le : count ≤ i - first = omega arith in
                rw (
                  bit_at_shifted_high (2 ^ count - 1) first i above,
                  bit_at_ones_above count (i - first) le,
                  le-leb
                      first i above,
                  le-ltb i (first + count) beyond,
                ) refl
          ]
    ]

-- count ones from the place first on, in a number of w bits
pub run_of_ones : (w first count i : ℕ) → count ≤ w → i < w → bit ((2 ^ w - 1) / 2 ^ (w - count) * 2 ^ first % 2 ^ w)
    i ≡ (leb first i && ltb i (first + count))
run_of_ones w first count i le lt =
    let back : w - (w - count) ≡ count = omega arith in
    let ones : (2 ^ w - 1) / 2 ^ (w - count) ≡ 2 ^ count - 1 =
    ones_shr w (w - count) (omega arith) ∙ ap (λ k. 2 ^ k - 1) back in
    ap (λ n. eqb (bit_at (n * 2 ^ first % 2 ^ w) i) 1) ones ∙ ap (λ n. eqb n 1)
    (bit_at_mod ((2 ^ count - 1) * 2 ^ first) w i lt) ∙ in_run first count i

-- a mask of 64 bits moved up
pub shifted_bit_below : (n k i : ℕ) → i < 64 → i < k → bit (n * 2 ^ k % 2 ^ 64) i ≡ false
shifted_bit_below n k i lt below = ap (λ m. eqb m 1) (bit_at_mod (n * 2 ^ k) 64 i lt ∙ bit_at_shifted_low n k i below)

pub shifted_bit_from : (n k i : ℕ) → i < 64 → k ≤ i → bit (n * 2 ^ k % 2 ^ 64) i ≡ bit n (i - k)
shifted_bit_from n k i lt from = ap (λ m. eqb m 1) (bit_at_mod (n * 2 ^ k) 64 i lt ∙ bit_at_shifted_high n k i from)

-- ---- masks compared

same_from_bit : (m n i : ℕ) → bit m i ≡ bit n i → bit_at m i ≡ bit_at n i
same_from_bit m n i e =
    let p : bit_at m i < 2 = bit_at-lt m i in
    let q : bit_at n i < 2 = bit_at-lt n i in
    grind (arith, nat_tests)

Decides-each_below : (test : ℕ → Bool) (P : ℕ → Type 0) (n : ℕ) → ((k : ℕ) → Decides (test k) (P k))
    → Decides (each_below n test) ((k : ℕ) → k < n → P k)
unfolding each_below
Decides-each_below test P n each = Decides-below_and test P (λ k. each_below k test) each refl (λ _. refl) n

-- masks of 16 bits are one where each bit is
pub same_mask : (mask lanes : ℕ) (test : ℕ → Bool) → mask < 2 ^ 16 → lanes < 2 ^ 16
    → ((i : ℕ) → i < 16 → bit lanes i ≡ test i) → eqb mask lanes ≡ each_below 16 (λ i. beq (bit mask i) (test i))
same_mask mask lanes test small small' is =
    same_from_decides (eqb mask lanes) (each_below 16 (λ i. beq (bit mask i) (test i))) (Decides-eqb mask lanes)
    (Decides-like (each_below 16 (λ i. beq (bit mask i) (test i)))
    (λ each. same_from_bits_below 16 mask lanes small small'
    (λ i lt. same_from_bit mask lanes i (each i lt ∙ sym (is i lt))))
    (λ e i lt. ap (λ m. bit m i) e ∙ is i lt)
    (Decides-each_below (λ i. beq (bit mask i) (test i)) (λ i. bit mask i ≡ test i) 16
    (λ i. booleans_Decides (bit mask i) (test i))))

no_bit_left : (x y : ℕ) → x < 2 → y < 2 → (not (eqb x 1) || eqb y 1) ≡ true → min x (1 - y) ≡ 0
no_bit_left x y p q e = elim (cases_eq x 0) [
  | inl zero_is ↦ omega arith
  | inr one ↦ elim (cases_eq y 0) [
    | inl none ↦
        let x_is : x ≡ 1 = omega arith in
        let no : false ≡ true = rw (x_is, none) at e in
        absurd cc
    | inr some ↦ omega arith
  ]
]

none_left : (x y : ℕ) → x < 2 → y < 2 → min x (1 - y) ≡ 0 → (not (eqb x 1) || eqb y 1) ≡ true
none_left x y p q e = elim (cases_eq x 0) [
  | inl none ↦ rw none refl
  | inr one ↦
      let y_is : y ≡ 1 = omega arith in
      rw y_is (or_right (not (eqb x 1)) true refl)
]

bit_left : (m n i : ℕ) → n < 2 ^ 16 → i < 16 → bit_at (bit_and m (65535 - n)) i ≡ min (bit_at m i) (1 - bit_at n i)
bit_left m n i small lt = bit_at_and m (65535 - n) i ∙ ap (λ k. min (bit_at m i) k) (bit_at_not w16 n i small lt)

or_true : (x y z : Bool) → y ≡ z → (x || y) ≡ true → (x || z) ≡ true
or_true x y z e h = rw (← e) h

-- a mask of 16 bits has no other than these bits where each of its bits is one of them
pub part_of_mask : (mask lanes : ℕ) (test : ℕ → Bool) → mask < 2 ^ 16 → lanes < 2 ^ 16
    → ((i : ℕ) → i < 16 → bit lanes i ≡ test i)
    → eqb (bit_and mask (65535 - lanes)) 0 ≡ each_below 16 (λ i. not (bit mask i) || test i)
part_of_mask mask lanes test small small' is =
    let rest = bit_and mask (65535 - lanes) in
    let below : rest < 2 ^ 16 = omega (arith, and_le_l mask (65535 - lanes)) in
    same_from_decides (eqb rest 0) (each_below 16 (λ i. not (bit mask i) || test i)) (Decides-eqb rest 0)
    (Decides-like (each_below 16 (λ i. not (bit mask i) || test i))
    (λ each. same_from_bits_below 16 rest 0 below (lit< tt) (λ i lt.
    bit_left mask lanes i small' lt
    ∙ no_bit_left (bit_at mask i) (bit_at lanes i) (bit_at-lt mask i) (bit_at-lt lanes i)
    (or_true (not (bit mask i)) (test i) (bit lanes i) (sym (is i lt)) (each i lt))
    ∙ sym (bit_at-zero i)))
    (λ e i lt. or_true (not (bit mask i)) (bit lanes i) (test i) (is i lt)
    (none_left (bit_at mask i) (bit_at lanes i) (bit_at-lt mask i) (bit_at-lt lanes i)
    (sym (bit_left mask lanes i small' lt) ∙ ap (λ n. bit_at n i) e ∙ bit_at-zero i)))
    (Decides-each_below (λ i. not (bit mask i) || test i) (λ i. (not (bit mask i) || test i) ≡ true) 16
    (λ i. (λ e. e, λ e. e))))
