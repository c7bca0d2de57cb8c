use Rattle.std.proofs.Common.{ap, ◌∙◌}
use Rattle.tl_lines.specs.statement.Lines.{lines_of}
use Rattle.tl_engine.specs.declared.charting.ChartLines.{ChartLines}
use Rattle.tl_engine.proofs.ChartedLines.{drawn_at_end}
use Rattle.tl_engine.proofs.chart.gather.Goals as goal

pub judge_input-requires : goal.judge_input-requires
judge_input-requires g c = rw c.requires (c.new-lines.ensures.knows c.in_ok-new.ensures.knows)

pub returns-in-Ok-clause-ok : goal.returns-in-Ok-clause-ok
returns-in-Ok-clause-ok g c =
    let (read, consumed, judged, ended, has, stands) = c.in-Ok.ensures.ok in
    let for = ap (λ (h : ChartLines). h.allow) c.new-lines.ensures.handler ∙ c.in_ok-new.ensures.allow in (
      read,
      consumed,
      rw for at judged,
      rw for at ended,
      rw c.into_handler.ensures (drawn_at_end c.judge_input.new.lines.handler (lines_of read) c.in-Ok.status has),
    )

pub returns-in-Ok-clause-allow : goal.returns-in-Ok-clause-allow
returns-in-Ok-clause-allow g c =
    ap (λ (h : ChartLines). h.allow) c.into_handler.ensures ∙ c.in-Ok.ensures.purpose
    ∙ ap (λ (h : ChartLines). h.allow) c.new-lines.ensures.handler ∙ c.in_ok-new.ensures.allow
