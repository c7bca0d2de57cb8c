use Rattle.tl_chart.proofs.Gathering.{on_ok}
use Rattle.tl_event_chart.proofs.events.take_event.Goals as goal

pub returns-in-Ok-default-Commit : goal.returns-in-Ok-default-Commit
returns-in-Ok-default-Commit g c =
    on_ok c.note.result
    (λ notes. notes c.args.line.now (rw c.in-Ok-default-Commit.field-0-1-is at c.in-Ok-default-Commit.ensures.spelled))
    c.note.ensures
