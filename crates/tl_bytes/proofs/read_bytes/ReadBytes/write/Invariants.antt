use Rattle.std.proofs.Common.{◌≡◌, ◌<◌, ℕ}
use Rattle.tl_bytes.{specs.code.Tellings.leaves, specs.statement.Known.may_bring, proofs.Offered.with_first}
use Rattle.tl_bytes.proofs.read_bytes.ReadBytes.write.Given as goal

abbrev pub invariant-loop-place : goal.invariant-loop-place
invariant-loop-place l = (at byte : ℕ) → at < 64 → may_bring l.self at byte
    ≡ with_first (may_bring l.initial.self at byte) (λ q. leaves q byte l.write) l.place at
