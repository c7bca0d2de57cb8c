use Rattle.std.proofs.Common.{◌≡◌, ◌<◌, ◌||◌, ℕ, drop}
use Rattle.tl_bytes.{specs.code.Tellings.left_as, specs.statement.Known.may_bring}
use Rattle.tl_bytes.proofs.read_bytes.ReadBytes.offer_writes.Given as goal

abbrev pub invariant-loop-write : goal.invariant-loop-write
invariant-loop-write l = (at byte : ℕ) → at < 64
    → (may_bring l.self at byte || left_as at byte (drop l.write-index l.writes))
    ≡ (may_bring l.initial.self at byte || left_as at byte l.writes)
