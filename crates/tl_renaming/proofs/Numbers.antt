-- Numbers under a one-to-one map.
use Rattle.tl_renaming.proofs.Imports.{IsOneToOne}
use Rattle.std.proofs.Common.{◌≡◌, ℕ, Bool, true, false, refl}
use Rattle.std.specs.Prelude.{◌==◌}
use Rattle.std.proofs.lemmas.Bool.{eq-eqb, eqb-true, ne_eqb}

-- two numbers are one exactly if they become one
pub same-test : (f : ℕ → ℕ) → IsOneToOne f → (m n : ℕ) → (f m == f n) ≡ (m == n)
same-test f apart m n = go (m == n) refl
  where
    go : (b : Bool) → (m == n) ≡ b → (f m == f n) ≡ (m == n)
    go true e = rw (eqb-true m n e, eq-eqb (f n) (f n) refl, eq-eqb n n refl) refl
    go false e = rw e (ne_eqb (f m) (f n) (λ k. let no : true ≡ false = rw (apart m n k, eq-eqb n n refl) at e in cc))
