use Rattle.tl_monitor.proofs.Within.{held_within}
use Rattle.std.proofs.Common.{false, ◌∙◌}
use Rattle.tl_engine.proofs.charting.held_on.Goals as goal

pub returns-in-Some : goal.returns-in-Some
returns-in-Some g c = λ levels may t known within.
    rw c.in-Some.is (c.held_under.ensures levels may t false known
    ∙ held_within levels c.args.link within may c.in-Some.block t)
