-- Rows of entries.
use Rattle.std.proofs.Common.{◌≡◌, ◌≢◌, ℕ, zero, suc, ◌<◌, List, [], ◌∷◌, length, take, refl, ap, arith}
use Rattle.tl_params.specs.declared.perm.Perm.{Perm}
use Rattle.tl_manager.specs.code.Table.{entry}

-- one more entry
pub entry-take_same : (row : List Perm) (i : ℕ) → i < length row → entry (take (suc i) row) i ≡ entry row i
entry-take_same [] i lt = absurd (omega arith)
entry-take_same (x ∷ xs) zero lt = refl
entry-take_same (x ∷ xs) (suc i) lt = entry-take_same xs i (omega arith)

pub entry-take_other : (row : List Perm) (i c : ℕ) → c ≢ i → entry (take (suc i) row) c ≡ entry (take i row) c
entry-take_other [] zero c other = refl
entry-take_other [] (suc i) c other = refl
entry-take_other (x ∷ xs) zero zero other = absurd (other refl)
entry-take_other (x ∷ xs) zero (suc c) other = refl
entry-take_other (x ∷ xs) (suc i) zero other = refl
entry-take_other (x ∷ xs) (suc i) (suc c) other = entry-take_other xs i c (λ e. other (ap suc e))
