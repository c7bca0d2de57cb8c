use Rattle.tl_client.proofs.messages.Requests.{started_with}
use Rattle.tl_client.proofs.request.start.Goals as goal

pub returns-clause-answer : goal.returns-clause-answer
returns-clause-answer g c = started_with c.args.request.now c.in-Some.source _ _ c.in-Some.ensures.least
