use Rattle.std.proofs.lemmas.Result.{IfOk-weaker}
use Rattle.tl_wide_event_story.proofs.reread.take_event.Goals as goal

pub returns-in-Ok : goal.returns-in-Ok
returns-in-Ok g c = IfOk-weaker c.take.result _ _ (λ on takes. λ yes. record {
  link = c.in-Ok.link;
  event = c.in-Ok.event;
  spells = c.in-Ok.ensures.spelled;
  takes = takes yes;
}) c.take.ensures
