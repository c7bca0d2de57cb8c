use Rattle.tl_reasons.proofs.Answering.{request-same}
use Rattle.tl_reasons.proofs.examiner.request_answered.Goals as goal

pub returns-in-D : goal.returns-in-D
returns-in-D g c =
    rw c.in-D.is (request-same c.args.judge.now c.args.link c.in-D.x.source c.request.result c.request.ensures)
