use Rattle.std.proofs.Common.{ap, ◌∙◌}
use Rattle.tl_report.specs.code.Searching.{aim_of}
use Rattle.tl_report.proofs.Handled.{searches}
use Rattle.tl_report.proofs.find.search.Goals as goal

pub returns-clause-ok : goal.returns-clause-ok
returns-clause-ok g c =
    searches _ _ c.judge_input.new.lines.handler c.args.aim _ c.in-Ok.status c.in_ok-into_findings.field-0
    c.in-Ok.ensures.ok (rw c.into_handler.ensures at c.in_ok-into_findings.ensures)
    (c.in-Ok.ensures.purpose ∙ ap aim_of c.new-lines.ensures.handler)
