use Rattle.std.proofs.Common.{rules, arith, ◌≤◌, length}
use Rattle.tl_chart.proofs.Continuing.{continued_end, continued_none, continued_step}
use Rattle.tl_chart.proofs.drawing.continue_arrows.Goals as goal

pub loop-arrow-init : goal.loop-arrow-init
loop-arrow-init g c = λ t is. continued_none _ _

pub loop-arrow-preserved : goal.loop-arrow-preserved
loop-arrow-preserved g c = λ t is.
    continued_step _ _ _ _ _ c.loop-arrow.arrow-index (c.loop-arrow.invariant t is) (c.with.ensures t is)
    (search rules)

pub returns : goal.returns
returns g c = λ t is. continued_end _ _ _ c.loop-arrow.arrow-index (c.loop-arrow.invariant t is)
    (let end : length c.loop-arrow.arrows ≤ c.loop-arrow.arrow-index = omega arith in end)
