use Rattle.std.proofs.Common.{◌≡◌, ◌||◌, ℕ, drop}
use Rattle.tl_bytes.{specs.statement.Bytes.told_as, specs.statement.Known.may_bring, specs.statement.Known.tellings_at}
use Rattle.tl_bytes.proofs.read_bytes.ReadBytes.offer_earlier.Given as goal

abbrev pub invariant-loop-told : goal.invariant-loop-told
invariant-loop-told l = (at byte : ℕ)
    → (may_bring l.self at byte || told_as byte (tellings_at at (drop l.told-index l.earlier)))
    ≡ (may_bring l.initial.self at byte || told_as byte (tellings_at at l.earlier))
