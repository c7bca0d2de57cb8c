use Rattle.tl_lines.proofs.TraceJudging.{alone_answers, together_answers}
use Rattle.tl_monitor.specs.statement.Knows.{begins_on}
use Rattle.tl_lines.proofs.trace_judge.TraceJudge.begins.Goals as goal

pub returns-in-OfLinks : goal.returns-in-OfLinks
returns-in-OfLinks g c =
    alone_answers c.args.self.now c.in-OfLinks.monitor c.in-OfLinks.is c.begins.result
    (λ levels t. begins_on levels c.args.link c.args.beat.now t) c.begins.ensures.under

pub returns-in-OfAll : goal.returns-in-OfAll
returns-in-OfAll g c =
    together_answers c.args.self.now c.in-OfAll.judge c.in-OfAll.is c.begins-in-OfAll.result
    (λ levels t. begins_on levels c.args.link c.args.beat.now t) (λ levels may t. c.begins-in-OfAll.ensures levels may t)
