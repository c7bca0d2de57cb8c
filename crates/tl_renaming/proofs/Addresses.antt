-- Addresses whose blocks are renamed.
use Rattle.tl_renaming.proofs.Imports.{IsOneToOne, block_at}
use Rattle.tl_renaming.proofs.Numbers.{same-test}
use Rattle.std.proofs.Common.{◌≡◌, ℕ, zero, suc, ◌+◌, ◌*◌, ◌%◌, ◌^◌, ◌≤◌, arith}
use Rattle.std.specs.Prelude.{◌==◌}

module _ (f : ℕ → ℕ) where
  abbrev pub moved : ℕ → ℕ
  moved address = 64 * f (block_at address) + address % 64

  pub block-of : (address : ℕ) → block_at (moved address) ≡ f (block_at address)
  block-of address = omega arith

  pub low-bits : (address : ℕ) → moved address % 64 ≡ address % 64
  low-bits address = omega arith

  -- two addresses are one exactly if they become one
  pub same-address : IsOneToOne f → (m n : ℕ) → (moved m == moved n) ≡ (m == n)
  same-address apart m n = same-test moved (λ a b e. let block : f (block_at a) ≡ f (block_at b) = omega (arith, e) in
      let same : block_at a ≡ block_at b = apart (block_at a) (block_at b) block in
      omega (arith, same, e)) m n

  -- in the same place of each beat of up to 64 bytes, and of each size up to that
  pub kept-modulo : (address n : ℕ) → n ≤ 6 → moved address % 2 ^ n ≡ address % 2 ^ n
  kept-modulo address zero le = omega arith
  kept-modulo address (suc zero) le = omega arith
  kept-modulo address (suc (suc zero)) le = omega arith
  kept-modulo address (suc (suc (suc zero))) le = omega arith
  kept-modulo address (suc (suc (suc (suc zero)))) le = omega arith
  kept-modulo address (suc (suc (suc (suc (suc zero))))) le = omega arith
  kept-modulo address (suc (suc (suc (suc (suc (suc zero)))))) le = omega arith
  kept-modulo address (suc (suc (suc (suc (suc (suc (suc n))))))) le = absurd (omega arith)
