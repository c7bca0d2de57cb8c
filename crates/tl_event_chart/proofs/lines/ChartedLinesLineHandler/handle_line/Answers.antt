use Rattle.std.proofs.Common.{subst, sym}
use Rattle.tl_wide_event_lines.specs.code.EventWatching.{KnowsAnyLines, any_judged_for}
use Rattle.tl_wide_event_lines.specs.declared.lines.WideEventLines.{WideEventLines}
use Rattle.tl_wide_event_lines.specs.statement.JudgedWideEvents.{JudgedAny}
use Rattle.tl_lines.specs.code.Judging.{Judges}
use Rattle.tl_event_chart.proofs.Drawing.{charted-ends, charted-judged}
use Rattle.tl_event_chart.proofs.lines.ChartedLinesLineHandler.handle_line.Goals as goal

pub returns-clause-judges : goal.returns-clause-judges
returns-clause-judges c =
    let p = any_judged_for c.args.self.now.lines in
    charted-judged c.args.self.now c.draw_line.new.self c.args.line.now c.args.out.now.items c.handle_line.new.out.items
    (JudgedAny p.0 p.1) c.in_ok-fault.fault
    (subst (λ (l : WideEventLines). Judges KnowsAnyLines (JudgedAny p.0 p.1) c.args.self.now.lines l c.args.line.now
    c.args.out.now.items c.handle_line.new.out.items c.in_ok-fault.fault) (sym c.draw_line.ensures.lines)
    c.in_ok-fault.ensures.judges)
    (λ lines known. c.in_ok-draw_line.ensures.draws lines (record { counted = known.counted; has = known.has }))

pub returns-clause-ends : goal.returns-clause-ends
returns-clause-ends c = λ fault is. charted-ends c.args.self.now c.draw_line.new.self c.args.line.now
    (λ lines known. c.in_ok-draw_line.ensures.draws lines (record { counted = known.counted; has = known.has }))
