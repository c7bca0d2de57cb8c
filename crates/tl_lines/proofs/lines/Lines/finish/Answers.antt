use Rattle.std.proofs.Common.{rules, ◌≡◌, ◌++◌, ◌+◌, ap}
use Rattle.std.specs.Prelude.{Ok}
use Rattle.tl_lines.specs.statement.Fault.{fault_text}
use Rattle.tl_lines.proofs.Progress.{empty_is, finishes_clean, finishes_broken, finishes_stopped, has_ended, has_missed, has_open}
use Rattle.tl_lines.proofs.lines.Lines.finish.Goals as goal

pub returns-then-not-is_empty-clause-finishes : goal.returns-then-not-is_empty-clause-finishes
returns-then-not-is_empty-clause-finishes g c = finishes_stopped g.H.LineHandler.knows (g.H.LineHandler.tells (g.H.LineHandler.purpose c.args.self.now.handler)) _ _ _ _
    (search rules) c.stop.ensures.broken c.stop.ensures.stops c.stop.ensures.says

pub returns-in-None-clause-finishes : goal.returns-in-None-clause-finishes
returns-in-None-clause-finishes g c = finishes_clean g.H.LineHandler.knows (g.H.LineHandler.tells (g.H.LineHandler.purpose c.args.self.now.handler)) _ _ _
    (empty_is _ (search rules)) (rw c.in-None.is at c.in_ok-finish.ensures.finishes)

pub returns-in_ok-append_fault-in-Some-clause-finishes : goal.returns-in_ok-append_fault-in-Some-clause-finishes
returns-in_ok-append_fault-in-Some-clause-finishes g c =
    let says : c.append_fault.new.out.items ≡ c.finish.new.out.items ++ fault_text (c.args.self.now.count + 1)
    c.in-Some.fault = search rules in
    finishes_broken g.H.LineHandler.knows (g.H.LineHandler.tells (g.H.LineHandler.purpose c.args.self.now.handler)) _ _ c.finish.new.out.items _ c.in-Some.fault
    (empty_is _ (search rules)) (rw c.in-Some.is at c.in_ok-finish.ensures.finishes) says

pub returns-then-not-is_empty-clause-has : goal.returns-then-not-is_empty-clause-has
returns-then-not-is_empty-clause-has g c =
    has_open g.H.LineHandler.knows g.H.LineHandler.ends _ _ (search rules) c.stop.ensures.broken c.stop.ensures.ends

pub returns-in-None-clause-has : goal.returns-in-None-clause-has
returns-in-None-clause-has g c = has_ended g.H.LineHandler.knows g.H.LineHandler.ends _ (empty_is _ (search rules))

pub returns-in_ok-append_fault-in-Some-clause-has : goal.returns-in_ok-append_fault-in-Some-clause-has
returns-in_ok-append_fault-in-Some-clause-has g c =
    has_missed g.H.LineHandler.knows g.H.LineHandler.ends _ (empty_is _ (search rules))
    (c.in_ok-finish.ensures.ends c.in-Some.fault (ap Ok c.in-Some.is))
