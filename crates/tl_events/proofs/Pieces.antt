-- Pieces: the number of their bytes.
use Rattle.std.proofs.Common.{◌≤◌, ◌<◌, ◌^◌, ℕ, zero, suc, arith}

-- the number of bytes of a small piece
pub few-bytes : (size : ℕ) → size < 3 → 2 ^ size ≤ 4
few-bytes zero lt = omega arith
few-bytes (suc zero) lt = omega arith
few-bytes (suc (suc zero)) lt = omega arith
few-bytes (suc (suc (suc n))) lt = absurd (omega arith)
