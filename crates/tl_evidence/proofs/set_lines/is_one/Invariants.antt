use Rattle.std.proofs.Common.{◌≡◌, drop}
use Rattle.tl_bytes.specs.statement.Known.{tellings_at}
use Rattle.tl_evidence.specs.statement.SetLines.{is_one}
use Rattle.tl_evidence.proofs.set_lines.is_one.Given as goal

abbrev pub invariant-loop-one : goal.invariant-loop-one
invariant-loop-one l =
    is_one l.told.telling (tellings_at l.told.place (drop l.one-index l.before))
    ≡ is_one l.told.telling (tellings_at l.told.place l.before)
