use Rattle.std.proofs.Common.{ap, ◌∙◌, ◌++◌}
use Rattle.tl_bytes.specs.code.Tellings.{left_as}
use Rattle.tl_memory.specs.code.Writers.{writes_outrun}
use Rattle.tl_memory.proofs.values.Writing.{windowed-may-write}
use Rattle.tl_memory.proofs.granted.grant_writes.Goals as goal

pub returns : goal.returns
returns g c = λ n block admits t k out place byte lt.
    ap (left_as place byte) (c.in_ok-append_outrun.ensures ∙ ap (λ l. l ++ writes_outrun c.args.outrun.now) c.in_ok-writes.ensures)
    ∙ windowed-may-write n block admits t c.args.accesses.now c.args.outrun.now k out place byte lt
