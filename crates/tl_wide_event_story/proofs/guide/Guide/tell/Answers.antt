use Rattle.tl_wide_event_story.proofs.guide.Guide.tell.Goals as goal

pub returns-in-Commit : goal.returns-in-Commit
returns-in-Commit g c = rw c.in-Commit.is c.tell_commit.ensures
