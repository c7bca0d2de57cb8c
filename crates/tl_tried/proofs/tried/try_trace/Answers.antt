use Rattle.std.proofs.Common.{[], refl}
use Rattle.tl_tried.proofs.Telling.{tried}
use Rattle.tl_tried.proofs.tried.try_trace.Goals as goal

pub returns-clause-ok : goal.returns-clause-ok
returns-clause-ok g c = tried c.args.allow c.in_ok-lines.lines _ _ c.gather.new.verdict.items c.in_ok-lines.status
    c.in_ok-rows.rows.items [] c.in_ok-rows.rows.items c.in_ok-rows.cells.items c.in_ok-lines.ensures.ok
    c.in_ok-rows.ensures.0 c.in_ok-rows.ensures.1 refl refl
