use Rattle.std.proofs.Common.{inl, inr, refl, sym}
use Rattle.std.proofs.lemmas.Result.{IfOk-weaker}
use Rattle.tl_wide_events.specs.declared.commit.WideEvent.TheVariants as event
use Rattle.tl_tried.proofs.wide_covering.WideCovering.take_event_line.Goals as goal

pub returns-in-Err : goal.returns-in-Err
returns-in-Err g c = inl (c.in-Err.fault, sym c.in-Err.ensures.fault, refl, refl)

pub returns-in-Ok-default-Beat : goal.returns-in-Ok-default-Beat
returns-in-Ok-default-Beat g c =
    let spelled = rw c.in-Ok-default-Beat.field-0-1-is at c.in-Ok-default-Beat.ensures.spelled in
    IfOk-weaker c.push.result _ _ (λ answer takes. inr (_, event.Beat _, spelled, takes)) c.push.ensures

pub returns-in-Ok-default-Commit : goal.returns-in-Ok-default-Commit
returns-in-Ok-default-Commit g c =
    let spelled = rw c.in-Ok-default-Commit.field-0-1-is at c.in-Ok-default-Commit.ensures.spelled in
    IfOk-weaker c.push_commit.result _ _ (λ answer takes. inr (_, event.Commit _, spelled, takes)) c.push_commit.ensures
