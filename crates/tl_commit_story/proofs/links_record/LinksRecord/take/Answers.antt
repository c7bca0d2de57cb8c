use Rattle.std.proofs.lemmas.Result.{IfOk-weaker}
use Rattle.tl_commit_story.proofs.links_record.LinksRecord.take.Goals as goal

pub returns-in-Beat : goal.returns-in-Beat
returns-in-Beat g c = rw c.in-Beat.is c.take_beat.ensures

pub returns-in-Commit : goal.returns-in-Commit
returns-in-Commit g c = IfOk-weaker c.take_commit.result _ _
    (λ on follows. λ yes. rw c.in-Commit.is (follows yes c.args.link _)) c.take_commit.ensures
