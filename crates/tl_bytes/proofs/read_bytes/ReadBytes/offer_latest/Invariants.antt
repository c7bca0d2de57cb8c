use Rattle.std.proofs.Common.{◌≡◌, ◌<◌, ℕ}
use Rattle.tl_bytes.{specs.code.Tellings.telling_at, specs.statement.Bytes.could_be, specs.statement.Known.may_bring}
use Rattle.tl_bytes.{proofs.Offered.with_first}
use Rattle.tl_bytes.proofs.read_bytes.ReadBytes.offer_latest.Given as goal

abbrev pub invariant-loop-place : goal.invariant-loop-place
invariant-loop-place l = (at byte : ℕ) → at < 64 → may_bring l.self at byte
    ≡ with_first (may_bring l.initial.self at byte) (λ q. could_be byte (telling_at l.latest q).value) l.place at
