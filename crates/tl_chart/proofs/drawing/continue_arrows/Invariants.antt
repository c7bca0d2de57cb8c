use Rattle.std.proofs.Common.{◌≡◌}
use Rattle.tl_chart.proofs.Continuing.{continued_to}
use Rattle.tl_chart.specs.code.Moment.{IsMoment}
use Rattle.tl_chart.specs.statement.Messages.{continued}
use Rattle.tl_rules.specs.statement.Conformance.{Trace}
use Rattle.tl_chart.proofs.drawing.continue_arrows.Given as goal

abbrev pub invariant-loop-arrow : goal.invariant-loop-arrow
invariant-loop-arrow g l = (t : Trace g.row.W) → IsMoment l.moment (l.moment.link, l.beat) t
    → l.arrows ≡ continued_to (continued (l.moment.link, l.beat) t) l.initial.arrows l.arrow-index
