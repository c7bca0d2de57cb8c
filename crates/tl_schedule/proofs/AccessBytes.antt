-- The bytes of an access.
use Rattle.std.proofs.Common.{◌≡◌, ◌≤◌, ◌-◌, ◌^◌, ℕ, List, length, lit<, refl, ap, sym, ◌∙◌, arith}
use Rattle.std.{proofs.Math.Nat.pow-le-pow_right, proofs.lemmas.List.append-nil}
use Rattle.std.specs.Prelude.{Option, Some, None, option_map}
use Rattle.tl_client.specs.statement.Offer.{padded}
use Rattle.tl_schedule.specs.code.FieldReading.{bytes_in, last}
use Rattle.tl_schedule.proofs.SpelledFields.{bytes_taken, last_taken}

pub smaller_power : (size : ℕ) → size ≤ 3 → 2 ^ size ≤ 8
smaller_power size le = pow-le-pow_right {n = 2} (lit< tt) {i = size} {j = 3} le

filled-whole : (bytes : List ℕ) → length bytes ≡ 64 → padded bytes ≡ bytes
filled-whole bytes e = let none : 64 - length bytes ≡ 0 = omega arith in rw none (append-nil bytes)

-- the bytes of a block
pub block_bytes : (fields : List (List ℕ)) (read : List ℕ) → Some read ≡ option_map padded (last (bytes_in 64) fields)
    → last (bytes_in 64) fields ≡ Some read
block_bytes fields read e = go (last (bytes_in 64) fields) refl e
  where
    go : (o : Option (List ℕ)) → last (bytes_in 64) fields ≡ o → Some read ≡ option_map padded o → o ≡ Some read
    go None is f = absurd cc
    go (Some bytes) is f =
        let found = last_taken (bytes_in 64) fields bytes is in
        let size = (bytes_taken 64 found.field bytes found.says).are_bytes.0 in
        let same : read ≡ padded bytes = cc in
        ap (λ (x : List ℕ). Some x) (sym (same ∙ filled-whole bytes size))
