use Rattle.tl_links.specs.declared.allow_lines.Watching.TheVariants.{Four, Eight, Sixteen}
use Rattle.tl_links.proofs.AllowedLines.{none_named, watch_ends, watch_judged}
use Rattle.tl_links.proofs.allow_lines.AllowLinesLineHandler.handle_line.Goals as goal

pub returns-in-None-clause-ends : goal.returns-in-None-clause-ends
returns-in-None-clause-ends c = rw c.in-Waiting.is (λ fault is. none_named c.args.self.now.allow _ c.args.line.now
    (rw c.in-None.is at c.in_ok-begin-in-Waiting.ensures))

pub returns-in-Four-clause-judges : goal.returns-in-Four-clause-judges
returns-in-Four-clause-judges c = rw c.in-Four.is (watch_judged c.args.self.now.allow Four (λ v lines k. k) (λ v lines k. k)
    (λ v lines e. e) c.in-Four.watch c.read.new.self c.args.line.now c.args._out.now.items c.read.result
    c.read.ensures)

pub returns-in-Four-clause-ends : goal.returns-in-Four-clause-ends
returns-in-Four-clause-ends c = rw c.in-Four.is (watch_ends c.args.self.now.allow Four (λ v lines k. k) (λ v lines k. k)
    (λ v lines e. e) c.in-Four.watch c.read.new.self c.args.line.now c.read.result c.read.ensures)

pub returns-in-Eight-clause-judges : goal.returns-in-Eight-clause-judges
returns-in-Eight-clause-judges c = rw c.in-Eight.is (watch_judged c.args.self.now.allow Eight (λ v lines k. k) (λ v lines k. k)
    (λ v lines e. e) c.in-Eight.watch c.read-in-Eight.new.self c.args.line.now c.args._out.now.items c.read-in-Eight.result
    c.read-in-Eight.ensures)

pub returns-in-Eight-clause-ends : goal.returns-in-Eight-clause-ends
returns-in-Eight-clause-ends c = rw c.in-Eight.is (watch_ends c.args.self.now.allow Eight (λ v lines k. k) (λ v lines k. k)
    (λ v lines e. e) c.in-Eight.watch c.read-in-Eight.new.self c.args.line.now c.read-in-Eight.result c.read-in-Eight.ensures)

pub returns-in-Sixteen-clause-judges : goal.returns-in-Sixteen-clause-judges
returns-in-Sixteen-clause-judges c = rw c.in-Sixteen.is (watch_judged c.args.self.now.allow Sixteen (λ v lines k. k) (λ v lines k. k)
    (λ v lines e. e) c.in-Sixteen.watch c.read-in-Sixteen.new.self c.args.line.now c.args._out.now.items c.read-in-Sixteen.result
    c.read-in-Sixteen.ensures)

pub returns-in-Sixteen-clause-ends : goal.returns-in-Sixteen-clause-ends
returns-in-Sixteen-clause-ends c = rw c.in-Sixteen.is (watch_ends c.args.self.now.allow Sixteen (λ v lines k. k) (λ v lines k. k)
    (λ v lines e. e) c.in-Sixteen.watch c.read-in-Sixteen.new.self c.args.line.now c.read-in-Sixteen.result c.read-in-Sixteen.ensures)
