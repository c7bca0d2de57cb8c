use Rattle.tl_wide_event_story.proofs.guide.Guide.take.Goals as goal

pub returns-in-Beat : goal.returns-in-Beat
returns-in-Beat g c = rw c.in-Beat.is c.take_beat.ensures

pub returns-in-Commit : goal.returns-in-Commit
returns-in-Commit g c = rw c.in-Commit.is c.take_commit.ensures
