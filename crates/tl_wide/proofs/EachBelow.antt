-- Tests of the numbers below a limit.
use Rattle.std.proofs.Common.{◌≡◌, ℕ, zero, suc, ◌+◌, ◌<◌, Bool, true, false, refl, sym, ap₂, arith}
use Rattle.std.proofs.lemmas.Bool.{eqb-true}
use Rattle.std.proofs.lemmas.Bool.Decides.{nat_tests}
use Rattle.std.proofs.Math.Bool.{and_assoc}
use Rattle.std.specs.Prelude.{◌==◌, ◌&&◌}
use Rattle.tl_rules.specs.statement.Legality.{each_below}

pub each-cong : (n : ℕ) (f g : ℕ → Bool) → ((i : ℕ) → i < n → f i ≡ g i) → each_below n f ≡ each_below n g
unfolding each_below
each-cong zero f g same = refl
each-cong (suc n) f g same =
    ap₂ (λ (a b : Bool). a && b) (same n (omega arith)) (each-cong n f g (λ i lt. same i (omega arith)))

-- those below a limit, and so many more
pub each-more : (a b : ℕ) (f : ℕ → Bool) → each_below (a + b) f ≡ (each_below b (λ i. f (a + i)) && each_below a f)
unfolding each_below
each-more a zero f = let same : a + 0 ≡ a = omega arith in rw same refl
each-more a (suc b) f =
    let same : a + suc b ≡ suc (a + b) = omega arith in
    rw (same, each-more a b f) (sym (and_assoc (f (a + b)) (each_below b (λ i. f (a + i))) (each_below a f)))

pub each-true : (n : ℕ) → each_below n (λ i. true) ≡ true
unfolding each_below
each-true zero = refl
each-true (suc n) = each-true n

pub each-fails : (n i : ℕ) (f : ℕ → Bool) → i < n → f i ≡ false → each_below n f ≡ false
unfolding each_below
each-fails zero i f lt e = absurd (omega arith)
each-fails (suc n) i f lt e = go (i == n) refl (λ below_n. each-fails n i f below_n e)
  where
    and_false : (a : Bool) → (a && false) ≡ false
    and_false true = refl
    and_false false = refl

    go : (b : Bool) → (i == n) ≡ b → (i < n → each_below n f ≡ false) → (f n && each_below n f) ≡ false
    go true is rest = let same : i ≡ n = eqb-true i n is in rw (← same, e) refl
    go false is rest = rw (rest (grind (arith, nat_tests))) (and_false (f n))
