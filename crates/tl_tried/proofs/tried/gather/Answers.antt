use Rattle.std.proofs.Common.{◌≡◌, ap, ◌∙◌}
use Rattle.tl_tried.proofs.Telling.{gathered}
use Rattle.tl_tried.specs.declared.cover_events.CoverEvents.{CoverEvents}
use Rattle.tl_tried.proofs.tried.gather.Goals as goal

pub returns-clause-ok : goal.returns-clause-ok
returns-clause-ok g c =
    let (read, consumed, judged, ended, has, stands) = c.in-Ok.ensures.ok in
    let was : c.new-lines.result.handler.plain.narrow.allow ≡ c.args.allow =
    ap (λ (h : CoverEvents). h.plain.narrow.allow) c.new-lines.ensures.handler ∙ c.new.ensures.allowed in
    rw c.into_handler.ensures
    (gathered c.judge_input.new.lines.handler c.new-lines.result.handler c.args.allow _ _ _ c.in-Ok.status was
    (c.in-Ok.ensures.purpose ∙ was) (read, consumed, judged, ended, has))
