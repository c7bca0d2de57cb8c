use Rattle.tl_lines.proofs.TraceJudging.{alone_answers, together_answers}
use Rattle.tl_monitor.specs.statement.Knows.{request_on}
use Rattle.tl_lines.proofs.trace_judge.TraceJudge.request.Goals as goal

pub returns-in-OfLinks : goal.returns-in-OfLinks
returns-in-OfLinks g c =
    alone_answers c.args.self.now c.in-OfLinks.monitor c.in-OfLinks.is c.request.result
    (λ levels t. request_on levels c.args.link c.args.source t) c.request.ensures.under

pub returns-in-OfAll : goal.returns-in-OfAll
returns-in-OfAll g c =
    together_answers c.args.self.now c.in-OfAll.judge c.in-OfAll.is c.request-in-OfAll.result
    (λ levels t. request_on levels c.args.link c.args.source t) (λ levels may t. c.request-in-OfAll.ensures levels may t)
