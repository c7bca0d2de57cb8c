use Rattle.std.proofs.Common.{◌≡◌, drop}
use Rattle.tl_bytes.{specs.statement.Bytes.told_as, specs.statement.Known.tellings_at}
use Rattle.tl_bytes.proofs.tellings.is_told_as.Given as goal

abbrev pub invariant-loop-telling : goal.invariant-loop-telling
invariant-loop-telling l =
    told_as l.byte (tellings_at l.place (drop l.telling-index l.told))
    ≡ told_as l.byte (tellings_at l.place l.told)
