-- The number of digits of the value of a piece.
use Rattle.std.proofs.Common.{◌≡◌, ◌*◌, ◌^◌, ◌%◌, ◌≤◌, ℕ, zero, suc, arith}
use Rattle.tl_events.specs.statement.CommitLine.{value_digits}

pub value-digits : (size : ℕ) → size ≤ 3 → (2 * 2 ^ size % 256 ≡ value_digits size) × (2 * 2 ^ size % 256 ≤ 16)
value-digits zero le = (omega arith, omega arith)
value-digits (suc zero) le = (omega arith, omega arith)
value-digits (suc (suc zero)) le = (omega arith, omega arith)
value-digits (suc (suc (suc zero))) le = (omega arith, omega arith)
value-digits (suc (suc (suc (suc n)))) le = absurd (omega arith)
