use Rattle.std.proofs.Common.{◌≡◌, ◌≤◌, ◌-◌, ◌∙◌, ◌↔◌, ◌++◌, refl, sym, ap, arith, ℕ, zero, suc, List, [], ◌∷◌, length, replicate, take, drop, bit_or, Bool, IsTrue, nat_eq}
use Rattle.std.proofs.lemmas.List.{drop-replicate, length-replicate, length-take-le, take-append-drop}
use Rattle.std.proofs.lemmas.Slice.{drop-append-drop}
use Rattle.std.specs.Int.Bits.{or_zero_l}
use Rattle.std.specs.Simd.Lanes.{fold_l}
use Rattle.std.proofs.lemmas.Bool.Decides.{nat_tests}
use Rattle.std.proofs.lemmas.Nat.{le_or_l, le_or_r}

-- what is zero all together is zero one by one
pub zero-each : (a : ℕ) (xs : List ℕ) → fold_l bit_or a xs ≡ 0 → (a ≡ 0) × (xs ≡ replicate (length xs) 0)
zero-each a [] e = (e, refl)
zero-each a (x ∷ xs) e =
    let rest = zero-each (bit_or a x) xs e in
    (omega (arith, rest.0, le_or_l a x), head (omega (arith, rest.0, le_or_r a x)) rest.1)
  where
    head : {x : ℕ} {xs ys : List ℕ} → x ≡ 0 → xs ≡ ys → x ∷ xs ≡ 0 ∷ ys
    head e f = rw (e, f) refl

pub zero-all : (n : ℕ) → fold_l bit_or 0 (replicate n 0) ≡ 0
zero-all zero = refl
zero-all (suc n) = rw (or_zero_l 0) (zero-all n)

pub zero-told : (xs : List ℕ) → length xs ≡ 64 → IsTrue (nat_eq (fold_l bit_or 0 xs) 0) ↔ xs ≡ replicate 64 0
zero-told xs len = (
  λ yes. (zero-each 0 xs (grind (arith, nat_tests, yes))).1 ∙ rw len refl,
  λ e. let zeros : fold_l bit_or 0 xs ≡ 0 = rw e (zero-all 64) in grind (arith, nat_tests, zeros),
)

-- zeros in place of what stands before
pub zero-behind : (n : ℕ) (bytes : List ℕ) → n ≤ 64
    → (take n (replicate 64 0) ++ drop n bytes ≡ replicate 64 0) ↔ drop n bytes ≡ replicate (64 - n) 0
zero-behind n bytes l = (behind, whole)
  where
    long : length (take n (replicate {A = ℕ} 64 0)) ≡ n
    long = length-take-le n (replicate 64 0) (omega (arith, length-replicate {A = ℕ} 64 0))

    behind : take n (replicate 64 0) ++ drop n bytes ≡ replicate 64 0 → drop n bytes ≡ replicate (64 - n) 0
    behind e = sym (drop-append-drop n bytes (take n (replicate 64 0)) n (omega arith) long) ∙ ap (drop n) e ∙ drop-replicate {X = ℕ} n 64 0

    whole : drop n bytes ≡ replicate (64 - n) 0 → take n (replicate 64 0) ++ drop n bytes ≡ replicate 64 0
    whole e = rw (e, sym (drop-replicate {X = ℕ} n 64 0)) (take-append-drop n (replicate 64 0))

pub zero-from : (result : Bool) (n : ℕ) (bytes past : List ℕ) → n ≤ 64
    → past ≡ take n (replicate 64 0) ++ drop n bytes → IsTrue result ↔ past ≡ replicate 64 0
    → IsTrue result ↔ drop n bytes ≡ replicate (64 - n) 0
zero-from result n bytes past l made told =
    let behind = zero-behind n bytes l in
    (λ yes. behind.0 (sym made ∙ told.0 yes), λ e. told.1 (made ∙ behind.1 e))
