-- A write of each place of a block.
use Rattle.std.proofs.Common.{◌≡◌, ℕ, true, ◌-◌, ◌<◌, ◌^◌, ap, arith}
use Rattle.std.specs.Prelude.{◌==◌}
use Rattle.std.proofs.lemmas.Bool.{le-leb, lt-ltb}
use Rattle.std.proofs.lemmas.Nat.Bits.{bit_at_ones}
use Rattle.tl_burst.specs.statement.Burst.{bit}
use Rattle.tl_bytes.specs.code.Tellings.{is_written, value_at}
use Rattle.tl_bytes.specs.statement.KnownBytes.{known_at}
use Rattle.tl_bytes.proofs.Imports.{Write}

-- one whose mask has all bits, and begins with the block
pub whole-mask : (write : Write) (p : ℕ) → write.first ≡ 0 → write.mask ≡ 2 ^ 64 - 1 → p < 64
    → (is_written write p ≡ true) × (value_at write p ≡ known_at write.values p)
whole-mask write p first mask lt =
    let same : p - write.first ≡ p = omega (arith, first) in
    let set : bit (2 ^ 64 - 1) p ≡ true = ap (λ n. n == 1) (bit_at_ones 64 p lt) in (
      rw (le-leb write.first p (omega (arith, first)), same, lt-ltb p 64 lt, mask) set,
      ap (known_at write.values) same,
    )
