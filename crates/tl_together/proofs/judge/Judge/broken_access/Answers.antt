use Rattle.std.proofs.Common.{length, true, false}
use Rattle.tl_together.proofs.Answered.{access_is}
use Rattle.tl_together.proofs.judge.Judge.broken_access.Goals as goal

pub returns-then-had_window : goal.returns-then-had_window
returns-then-had_window g c = λ levels may t k lt open'.
    access_is (length levels) c.args.link.0 c.args.x.now c.needs.result c.args.asked t c.had_window.result
    c.needs.ensures
    (c.had_window.ensures levels may t k lt open') true c.if-had_window.true

pub returns-else-had_window : goal.returns-else-had_window
returns-else-had_window g c = λ levels may t k lt open'.
    access_is (length levels) c.args.link.0 c.args.x.now c.needs.result c.args.asked t c.had_window.result
    c.needs.ensures
    (c.had_window.ensures levels may t k lt open') false c.if-had_window.false
