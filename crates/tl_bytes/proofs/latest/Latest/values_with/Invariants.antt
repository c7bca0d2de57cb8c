use Rattle.std.proofs.Common.{◌≡◌, ℕ}
use Rattle.std.specs.Prelude.{None}
use Rattle.tl_bytes.{specs.code.Tellings.written_at, specs.statement.KnownBytes.known_at, proofs.Filled.filled_to}
use Rattle.tl_bytes.proofs.latest.Latest.values_with.Given as goal

abbrev pub invariant-loop-place : goal.invariant-loop-place
invariant-loop-place l = (p : ℕ) → known_at l.values p
    ≡ filled_to (λ q. (written_at l.self l.write l.moment q).value) (λ q. None) l.place p
