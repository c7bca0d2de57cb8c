-- A wide width is known in one way.
use Rattle.std.specs.Prelude.{ℕ, ◌≡◌, ◌⊎◌}
use Rattle.std.proofs.Common.{ap, inl, inr, arith}
use Rattle.std.proofs.Math.Nat.{ℕ_set}
use Rattle.tl_wide.specs.statement.Width.{IsWideWidth}

-- two proofs of one of two facts that exclude each other are the same
either-prop : {A B : Type 0} → IsProp A → IsProp B → (A → B → ⊥) → IsProp (A ⊎ B)
either-prop one two apart (inl a) (inl b) = ap inl (one a b)
either-prop one two apart (inl a) (inr b) = absurd (apart a b)
either-prop one two apart (inr a) (inl b) = absurd (apart b a)
either-prop one two apart (inr a) (inr b) = ap inr (two a b)

no-four : (w : ℕ) → w ≡ 4 → (w ≡ 8) ⊎ (w ≡ 16) ⊎ (w ≡ 32) ⊎ (w ≡ 64) → ⊥
no-four w p (inl q) = absurd (omega arith)
no-four w p (inr (inl q)) = absurd (omega arith)
no-four w p (inr (inr (inl q))) = absurd (omega arith)
no-four w p (inr (inr (inr q))) = absurd (omega arith)

no-eight : (w : ℕ) → w ≡ 8 → (w ≡ 16) ⊎ (w ≡ 32) ⊎ (w ≡ 64) → ⊥
no-eight w p (inl q) = absurd (omega arith)
no-eight w p (inr (inl q)) = absurd (omega arith)
no-eight w p (inr (inr q)) = absurd (omega arith)

no-sixteen : (w : ℕ) → w ≡ 16 → (w ≡ 32) ⊎ (w ≡ 64) → ⊥
no-sixteen w p (inl q) = absurd (omega arith)
no-sixteen w p (inr q) = absurd (omega arith)

no-both : (w : ℕ) → w ≡ 32 → w ≡ 64 → ⊥
no-both w p q = absurd (omega arith)

-- two proofs that a number is a wide width are the same
pub IsWideWidth-prop : (w : ℕ) → IsProp (IsWideWidth w)
IsWideWidth-prop w =
    either-prop (ℕ_set w 4)
    (either-prop (ℕ_set w 8)
    (either-prop (ℕ_set w 16) (either-prop (ℕ_set w 32) (ℕ_set w 64) (no-both w)) (no-sixteen w)) (no-eight w))
    (no-four w)
