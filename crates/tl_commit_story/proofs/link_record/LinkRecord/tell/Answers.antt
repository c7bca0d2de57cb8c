use Rattle.std.proofs.lemmas.Result.{IfOk-weaker}
use Rattle.tl_commit_story.proofs.link_record.LinkRecord.tell.Goals as goal

pub returns-in-Commit : goal.returns-in-Commit
returns-in-Commit g c = IfOk-weaker c.tell_commit.result _ _
    (λ told tells. λ yes. rw c.in-Commit.is (tells yes c.args.rule c.in-Commit.field-0)) c.tell_commit.ensures
