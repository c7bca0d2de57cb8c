use Rattle.tl_commit_story.proofs.Recorded.{commit-recorded}
use Rattle.tl_commit_story.proofs.link_record.LinkRecord.take_commit.Goals as goal

pub returns-in-Ok : goal.returns-in-Ok
returns-in-Ok g c = λ yes link commit.
    commit-recorded c.args.self.now c.take.new.self c.args.number link c.take.ensures.subject
    (rw (c.no_link.ensures, c.no_beat.ensures) at c.in-Ok.ensures.record) commit
