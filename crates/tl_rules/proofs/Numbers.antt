-- The bytes of a number.
use Rattle.std.proofs.Common.{◌≡◌, ℕ, zero, suc, ◌+◌, ◌-◌, ◌*◌, ◌/◌, ◌%◌, ◌^◌}
use Rattle.std.proofs.Common.{◌<◌, List, [], ◌∷◌, length, take, drop, get_or}
use Rattle.std.proofs.Common.{refl, sym, ap, ◌∙◌, arith, add-zero, lit<}
use Rattle.std.specs.Int.{to_le_bytes, w64}
use Rattle.std.specs.Simd.Lanes.{chunk, put_chunk, zip2}
use Rattle.std.proofs.Math.Nat.{pow-suc, div-div-eq-div-mul}
use Rattle.std.proofs.lemmas.Nat.{pow-add, mod-pow-add, mod_low, field_of, mod_below}
use Rattle.std.proofs.lemmas.Nat.{xor_shr, or_shr, and_shr, xor_mod, or_mod, and_mod}
use Rattle.std.proofs.lemmas.List.{get_or-take, get_or-drop, take_all}
use Rattle.std.proofs.lemmas.Simd.{length-zip2, put_chunk_whole}
use Rattle.tl_params.specs.declared.param.Logical.{Logical}
use Rattle.tl_params.specs.declared.param.Logical.TheVariants as logical
use Rattle.tl_rules.specs.statement.Effect.{number_from, byte_of, logical_result}

bytes_pow : (j : ℕ) → 256 ^ j ≡ 2 ^ (8 * j)
bytes_pow zero = refl
bytes_pow (suc j) =
    let next : 8 * suc j ≡ 8 * j + 8 = omega arith in
    rw (next, pow-add 2 (8 * j) 8, pow-suc, bytes_pow j) refl

pub number_lt : (f : ℕ → ℕ) (a n : ℕ) → ((i : ℕ) → i < n → f (a + i) < 256) → number_from f a n < 2 ^ (8 * n)
unfolding number_from
number_lt f a zero fits = omega arith
number_lt f a (suc n) fits =
    let first : f a < 256 = rw add-zero at (fits 0 (omega arith)) in
    let more : (i : ℕ) → i < n → f (a + 1 + i) < 256 = λ i less. let e : a + (i + 1) ≡ a + 1 + i = omega arith in
    rw e at (fits (i + 1) (omega arith)) in
    let next : 8 * suc n ≡ 8 * n + 8 = omega arith in
    let rest = number_lt f (a + 1) n more in
    rw (next, pow-add 2 (8 * n) 8) (omega arith)

-- the bytes below 8 * c bits are those of the whole number
pub byte_of_rest : (n c j : ℕ) → j < c → byte_of (n % 2 ^ (8 * c)) j ≡ byte_of n j
byte_of_rest n c j lt =
    let bits : 8 * c ≡ 8 * (c - j - 1) + 8 + 8 * j = omega arith in
    rw (bytes_pow j, bits, field_of n (8 * (c - j - 1) + 8) (8 * j), mod-pow-add (n / 2 ^ (8 * j)) (8 * (c - j - 1)) 8)
    (mod_low (n / 2 ^ (8 * j) / 2 ^ 8 % 2 ^ (8 * (c - j - 1))) 8 (n / 2 ^ (8 * j) % 2 ^ 8)
    (mod_below (n / 2 ^ (8 * j)) (2 ^ 8) (lit< tt)))

pub written_byte : (n j : ℕ) → j < 8 → get_or (to_le_bytes w64 n) j 0 ≡ byte_of n j
written_byte n zero lt = omega arith
written_byte n (suc zero) lt = refl
written_byte n (suc (suc zero)) lt = refl
written_byte n (suc (suc (suc zero))) lt = refl
written_byte n (suc (suc (suc (suc zero)))) lt = refl
written_byte n (suc (suc (suc (suc (suc zero))))) lt = refl
written_byte n (suc (suc (suc (suc (suc (suc zero)))))) lt = refl
written_byte n (suc (suc (suc (suc (suc (suc (suc zero))))))) lt = refl
written_byte n (suc (suc (suc (suc (suc (suc (suc (suc j)))))))) lt = absurd (omega arith)

-- ---- lanes

byte_behind : (first rest j : ℕ) → first < 256 → byte_of (first + 256 * rest) (suc j) ≡ byte_of rest j
byte_behind first rest j lt =
    let behind : (first + 256 * rest) / 256 ≡ rest = omega arith in
    let place : 256 ^ suc j ≡ 256 * 256 ^ j = rw pow-suc (omega arith) in
    ap (λ p. (first + 256 * rest) / p % 256) place
    ∙ ap (λ n. n % 256) (sym (div-div-eq-div-mul (first + 256 * rest) 256 (256 ^ j)))
    ∙ ap (λ n. n / 256 ^ j % 256) behind

-- a byte of a number is that at its place
pub number_byte : (f : ℕ → ℕ) (a n j : ℕ) → ((i : ℕ) → i < n → f (a + i) < 256) → j < n
    → byte_of (number_from f a n) j ≡ f (a + j)
unfolding number_from
number_byte f a zero j fits lt = absurd (omega arith)
number_byte f a (suc n) zero fits lt =
    let first : f a < 256 = rw add-zero at (fits 0 (omega arith)) in
    rw add-zero (omega arith)
number_byte f a (suc n) (suc j) fits lt =
    let first : f a < 256 = rw add-zero at (fits 0 (omega arith)) in
    let more : (i : ℕ) → i < n → f (a + 1 + i) < 256 = λ i less. let e : a + (i + 1) ≡ a + 1 + i = omega arith in
    rw e at (fits (i + 1) (omega arith)) in
    byte_behind (f a) (number_from f (a + 1) n) j first ∙ number_byte f (a + 1) n j more (omega arith) ∙ ap f
    (omega arith)

-- each byte that a logical operation leaves is what it makes of the two bytes there
pub logical_byte : (operation : Logical) (a b j : ℕ)
    → byte_of (logical_result operation a b) j ≡ logical_result operation (byte_of a j) (byte_of b j)
logical_byte logical.Xor a b j = rw (bytes_pow j, xor_shr a b (8 * j)) (xor_mod (a / 2 ^ (8 * j)) (b / 2 ^ (8 * j)) 8)
logical_byte logical.Or a b j = rw (bytes_pow j, or_shr a b (8 * j)) (or_mod (a / 2 ^ (8 * j)) (b / 2 ^ (8 * j)) 8)
logical_byte logical.And a b j = rw (bytes_pow j, and_shr a b (8 * j)) (and_mod (a / 2 ^ (8 * j)) (b / 2 ^ (8 * j)) 8)
logical_byte logical.Swap a b j = refl

-- a byte of a part of a list
pub part_byte : (bytes : List ℕ) (at count j : ℕ) → j < count → get_or (take count (drop at bytes)) j 0 ≡ get_or bytes
    (at + j) 0
part_byte bytes at count j lt = get_or-take count (drop at bytes) j 0 lt ∙ get_or-drop at bytes j 0

-- vectors of all lanes, written back
pub lanes_written : (f : ℕ → ℕ → ℕ) (n : ℕ) (xs ys new : List ℕ) → length xs ≡ n → length ys ≡ n
    → new ≡ zip2 f (chunk 0 n xs) (chunk 0 n ys) → put_chunk 0 xs new ≡ zip2 f xs ys
lanes_written f n xs ys new long long' is =
    let whole : new ≡ zip2 f xs ys = is ∙ rw (take_all n xs (omega arith), take_all n ys (omega arith)) refl in
    put_chunk_whole xs new (rw whole (sym (length-zip2 f xs ys (omega arith)))) ∙ whole

zip2_second : (xs ys : List ℕ) → length xs ≡ length ys → zip2 (λ x y. y) xs ys ≡ ys
zip2_second [] [] same = refl
zip2_second [] (y ∷ ys) same = absurd (omega arith)
zip2_second (x ∷ xs) [] same = absurd (omega arith)
zip2_second (x ∷ xs) (y ∷ ys) same = ap (λ (zs : List ℕ). y ∷ zs) (zip2_second xs ys (omega arith))

pub lanes_swapped : (n : ℕ) (xs ys new : List ℕ) → length xs ≡ n → length ys ≡ n → new ≡ chunk 0 n ys
    → put_chunk 0 xs new ≡ zip2 (λ x y. y) xs ys
lanes_swapped n xs ys new long long' is =
    let whole : new ≡ ys = is ∙ take_all n ys (omega arith) in
    put_chunk_whole xs new (rw whole (omega arith)) ∙ whole ∙ sym (zip2_second xs ys (omega arith))
