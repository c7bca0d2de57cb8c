use Rattle.tl_chart.proofs.Gathering.{gathers_counted, on_ok}
use Rattle.tl_chart.proofs.gatherer.Gatherer.count.Goals as goal

pub returns-clause-gathers : goal.returns-clause-gathers
returns-clause-gathers c = on_ok c.skip.result (λ so w held x t over is had.
    gathers_counted held c.args.self.now c.skip.new.self x t c.args.first over is had c.skip.ensures.window so)
    c.skip.ensures.skipped
