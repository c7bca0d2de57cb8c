use Rattle.std.proofs.Common.{rules}
use Rattle.tl_wide_event_lines.proofs.TraceJudged.{narrow-end, wide-end}
use Rattle.tl_wide_event_lines.proofs.lines.WideEventLinesLineHandler.finish.Goals as goal

pub returns-in_ok-append_end-in-Some-clause-finishes : goal.returns-in_ok-append_end-in-Some-clause-finishes
returns-in_ok-append_end-in-Some-clause-finishes c =
    wide-end c.args.self.now c.args.count c.args.out.now.items _ _ c.in-Some.is (search rules)

pub returns-in-None-clause-finishes : goal.returns-in-None-clause-finishes
returns-in-None-clause-finishes c =
    narrow-end c.args.self.now c.args.count c.args.out.now.items _ c.finish.result c.in-None.is
    c.finish.ensures.finishes
