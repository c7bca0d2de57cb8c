use Rattle.std.proofs.Common.{◌≡◌, drop}
use Rattle.tl_bytes.{specs.statement.Known.tellings_at, specs.statement.Lines.told_moment}
use Rattle.tl_bytes.proofs.lines.moment_in.Given as goal

abbrev pub invariant-loop-telling : goal.invariant-loop-telling
invariant-loop-telling l =
    told_moment l.byte (tellings_at l.place (drop l.telling-index l.told))
    ≡ told_moment l.byte (tellings_at l.place l.told)
