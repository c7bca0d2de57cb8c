use Rattle.std.proofs.Common.{rules, sym}
use Rattle.tl_reasons.proofs.Answering.{answers-failed, answers-here}
use Rattle.tl_reasons.proofs.examiner.block_answered_in.Goals as goal

pub returns-in-Ok : goal.returns-in-Ok
returns-in-Ok g c =
    answers-here c.args.judge.now c.args.line.now c.in-Ok.link c.in-Ok.beat c.request_answered.result
    c.block_asked.result c.requires c.in-Ok.ensures.spelled c.block_asked.ensures c.request_answered.ensures

pub returns-in-Err : goal.returns-in-Err
returns-in-Err g c =
    answers-failed c.args.judge.now c.args.line.now c.in-Err.field-0 c.requires (sym c.in-Err.ensures.fault)
