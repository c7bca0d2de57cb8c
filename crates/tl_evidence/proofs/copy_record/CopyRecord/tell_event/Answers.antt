use Rattle.std.proofs.lemmas.Result.{IfOk-weaker}
use Rattle.tl_evidence.proofs.copy_record.CopyRecord.tell_event.Goals as goal

pub returns-in-Beat : goal.returns-in-Beat
returns-in-Beat g c = IfOk-weaker c.tell_beat.result _ _
    (λ told says. λ on may levels complete e k came. rw c.in-Beat.is (says on may levels complete e k came))
    c.tell_beat.ensures

pub returns-in-Commit : goal.returns-in-Commit
returns-in-Commit g c = IfOk-weaker c.tell_commit.result _ _
    (λ told says. λ on may levels complete e k came. rw c.in-Commit.is (says on may levels complete e k))
    c.tell_commit.ensures
