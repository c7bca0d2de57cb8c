use Rattle.std.proofs.Common.{◌≡◌, arith, rules}
use Rattle.tl_report.proofs.KeptLines.{ends_again, goes_on_again, starts_again}
use Rattle.tl_report.proofs.kept.Kept.judge_again.Goals as goal

pub loop-item-init : goal.loop-item-init
loop-item-init g c = starts_again g.J.Taker.takings c.args.self.now c.in_ok-judge.judge c.in_ok-judge.ensures

pub loop-item-preserved : goal.loop-item-preserved
loop-item-preserved g c =
    let same : c.deref-item-items.result.now ≡ c.args.self.now.taken.items = search rules in
    goes_on_again g.J.Taker.takings c.args.self.now c.loop-item.judge c.take.new.self c.loop-item.item-index
    c.item-item.result c.in_ok-take.field-0 (rw same at c.item-item.is) (rw same at c.loop-item-test.true)
    c.loop-item.invariant c.in_ok-take.ensures

pub returns : goal.returns
returns g c =
    ends_again g.J.Taker.takings c.args.self.now c.loop-item.judge c.loop-item.item-index (omega arith)
    c.loop-item.invariant
