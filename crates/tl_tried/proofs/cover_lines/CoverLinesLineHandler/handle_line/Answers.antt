use Rattle.tl_tried.specs.declared.cover_lines.Following.TheVariants.{Four, Eight, Sixteen}
use Rattle.tl_tried.proofs.Covered.{none_covered, none_named, read_ends, read_judged}
use Rattle.tl_tried.proofs.cover_lines.CoverLinesLineHandler.handle_line.Goals as goal

pub returns-in-None-clause-judges : goal.returns-in-None-clause-judges
returns-in-None-clause-judges c = rw c.in-Waiting.is (none_named c.args.self.now.allow _ c.args.line.now
    (rw c.in-None.is at c.in_ok-begin-in-Waiting.ensures) _)

pub returns-in-None-clause-ends : goal.returns-in-None-clause-ends
returns-in-None-clause-ends c = rw c.in-Waiting.is (λ fault is. none_covered c.args.self.now.allow _ c.args.line.now
    (rw c.in-None.is at c.in_ok-begin-in-Waiting.ensures))

pub returns-in-Four-clause-judges : goal.returns-in-Four-clause-judges
returns-in-Four-clause-judges c = rw c.in-Four.is (read_judged c.args.self.now.allow Four (λ v lines text k. k)
    (λ v lines text k. k) (λ v lines e. e) c.in-Four.covering c.read.new.covering c.args.line.now c.args._out.now.items
    c.read.result c.read.ensures)

pub returns-in-Four-clause-ends : goal.returns-in-Four-clause-ends
returns-in-Four-clause-ends c = rw c.in-Four.is (read_ends c.args.self.now.allow Four (λ v lines text k. k)
    (λ v lines text k. k) (λ v lines e. e) c.in-Four.covering c.read.new.covering c.args.line.now c.read.result
    c.read.ensures)

pub returns-in-Eight-clause-judges : goal.returns-in-Eight-clause-judges
returns-in-Eight-clause-judges c = rw c.in-Eight.is (read_judged c.args.self.now.allow Eight (λ v lines text k. k)
    (λ v lines text k. k) (λ v lines e. e) c.in-Eight.covering c.read-in-Eight.new.covering c.args.line.now
    c.args._out.now.items
    c.read-in-Eight.result c.read-in-Eight.ensures)

pub returns-in-Eight-clause-ends : goal.returns-in-Eight-clause-ends
returns-in-Eight-clause-ends c = rw c.in-Eight.is (read_ends c.args.self.now.allow Eight (λ v lines text k. k)
    (λ v lines text k. k) (λ v lines e. e) c.in-Eight.covering c.read-in-Eight.new.covering c.args.line.now
    c.read-in-Eight.result
    c.read-in-Eight.ensures)

pub returns-in-Sixteen-clause-judges : goal.returns-in-Sixteen-clause-judges
returns-in-Sixteen-clause-judges c = rw c.in-Sixteen.is (read_judged c.args.self.now.allow Sixteen (λ v lines text k. k)
    (λ v lines text k. k) (λ v lines e. e) c.in-Sixteen.covering c.read-in-Sixteen.new.covering c.args.line.now
    c.args._out.now.items
    c.read-in-Sixteen.result c.read-in-Sixteen.ensures)

pub returns-in-Sixteen-clause-ends : goal.returns-in-Sixteen-clause-ends
returns-in-Sixteen-clause-ends c = rw c.in-Sixteen.is (read_ends c.args.self.now.allow Sixteen (λ v lines text k. k)
    (λ v lines text k. k) (λ v lines e. e) c.in-Sixteen.covering c.read-in-Sixteen.new.covering c.args.line.now
    c.read-in-Sixteen.result
    c.read-in-Sixteen.ensures)
