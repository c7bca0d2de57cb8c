use Rattle.std.proofs.Common.{ap, ◌∙◌}
use Rattle.tl_bytes.specs.code.Tellings.{left_as}
use Rattle.tl_memory.proofs.granted.granted.Goals as goal

pub returns : goal.returns
returns g c = λ n block admits t bytes k out. c.in_ok-read.ensures g.row.W n block t bytes
    (λ place byte lt. ap (left_as place byte) c.as_slice.ensures.value
    ∙ c.in_ok-writes.ensures n block admits t k out place byte lt)
