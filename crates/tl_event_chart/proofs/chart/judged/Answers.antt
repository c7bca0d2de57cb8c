use Rattle.std.proofs.Common.{ap, ◌∙◌}
use Rattle.tl_event_chart.proofs.chart.judged.Goals as goal

pub judge_input-requires : goal.judge_input-requires
judge_input-requires g c = rw c.requires.empty (c.new-lines.ensures.knows c.requires.begins)

pub returns-clause-ok : goal.returns-clause-ok
returns-clause-ok g c =
    let (read, consumed, told, ended, has, stands) = c.in_ok-status.ensures.ok in (
      read,
      consumed,
      rw c.new-lines.ensures.handler at told,
      rw c.new-lines.ensures.handler at ended,
      rw c.into_handler.ensures has,
    )

pub returns-clause-purpose : goal.returns-clause-purpose
returns-clause-purpose g c =
    ap g.H.LineHandler.purpose c.into_handler.ensures ∙ c.in_ok-status.ensures.purpose
    ∙ ap g.H.LineHandler.purpose c.new-lines.ensures.handler
