use Rattle.tl_lines.specs.declared.monitor_lines.MonitorLines.TheVariants.{Four, Eight, Sixteen}
use Rattle.tl_lines.proofs.Judged.{watched}
use Rattle.tl_lines.proofs.monitor_lines.MonitorLinesLineHandler.handle_line.Goals as goal

pub returns-in-Waiting-clause-judges : goal.returns-in-Waiting-clause-judges
returns-in-Waiting-clause-judges g c = rw c.in-Waiting.is (c.start.ensures c.args._out.now.items)

pub returns-in-Four-clause-judges : goal.returns-in-Four-clause-judges
returns-in-Four-clause-judges g c = rw c.in-Four.is (watched g.row.TOGETHER Four (λ judge lines text k. k)
    (λ judge lines text k. k) c.in-Four.judge c.watch.new.judge c.args.line.now _ c.watch.result c.watch.ensures)

pub returns-in-Eight-clause-judges : goal.returns-in-Eight-clause-judges
returns-in-Eight-clause-judges g c = rw c.in-Eight.is (watched g.row.TOGETHER Eight (λ judge lines text k. k)
    (λ judge lines text k. k) c.in-Eight.judge c.watch-in-Eight.new.judge c.args.line.now _ c.watch-in-Eight.result
    c.watch-in-Eight.ensures)

pub returns-in-Sixteen-clause-judges : goal.returns-in-Sixteen-clause-judges
returns-in-Sixteen-clause-judges g c = rw c.in-Sixteen.is (watched g.row.TOGETHER Sixteen
    (λ judge lines text k. k) (λ judge lines text k. k) c.in-Sixteen.judge c.watch-in-Sixteen.new.judge c.args.line.now
    _ c.watch-in-Sixteen.result c.watch-in-Sixteen.ensures)
