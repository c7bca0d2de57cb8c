use Rattle.std.proofs.Common.{rules, arith}
use Rattle.tl_beat.proofs.WholeLines.{acknowledged}
use Rattle.tl_beat.proofs.read.whole.acknowledgment.Goals as goal

pub returns : goal.returns
returns g c = acknowledged c.args.line.now c.value-l1.result c.value-l0.result c.value-s1.result c.value-s0.result
    (omega arith) (search rules) (search rules) (search rules) (search rules) c.value-l1.ensures c.value-l0.ensures
    c.value-s1.ensures c.value-s0.ensures c.if-not-l1-l0.false
