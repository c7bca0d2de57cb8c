use Rattle.std.proofs.Common.{ap, refl, ◌∙◌}
use Rattle.tl_report.specs.code.Searching.{aim_of}
use Rattle.tl_sign_off.proofs.Whole.{accounted}
use Rattle.tl_sign_off.proofs.judge.judge_whole.Goals as goal

pub returns-clause-ok : goal.returns-clause-ok
returns-clause-ok g c =
    accounted _ _ c.args.aim c.read_whole.new.lines.handler _ c.in-Ok.status c.read_whole.new.notes _ refl refl
    c.in-Ok.ensures.ok (c.in-Ok.ensures.aim ∙ ap aim_of c.new-lines.ensures.handler)
    (rw c.into_handler.ensures at c.in_ok-findings.ensures)
    c.into_input.ensures
