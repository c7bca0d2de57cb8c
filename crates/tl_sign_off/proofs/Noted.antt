-- Bytes that are noted.
use Rattle.std.proofs.Common.{◌≡◌, ◌-◌, ℕ, zero, suc, List, [], ◌∷◌, ◌++◌, ap, arith, length, refl, sym, take}

-- the first bytes are those of the front, and of the piece as many as have room
pub front_more : (n : ℕ) (xs ys : List ℕ) → take n (xs ++ ys) ≡ take n xs ++ take (n - length (take n xs)) ys
front_more zero xs ys = refl
front_more (suc n) [] ys = let same : suc n - 0 ≡ suc n = omega arith in rw same refl
front_more (suc n) (x ∷ xs) ys =
    let room : suc n - length (take (suc n) (x ∷ xs)) ≡ n - length (take n xs) = omega arith in
    rw room (ap (λ (zs : List ℕ). x ∷ zs) (front_more n xs ys))

pub front_of : (front input piece : List ℕ) → front ≡ take 256 input
    → front ++ take (256 - length front) piece ≡ take 256 (input ++ piece)
front_of front input piece e = rw e (sym (front_more 256 input piece))

-- nothing is in an empty list
pub none_in : {A : Type 0} (xs : List A) → length xs ≡ 0 → xs ≡ []
none_in [] e = refl
none_in (x ∷ xs) e = absurd (omega (arith, e))
