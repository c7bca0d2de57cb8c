use Rattle.std.proofs.lemmas.Result.{IfOk-weaker}
use Rattle.tl_evidence.proofs.copy_record.CopyRecord.tell_commit.Goals as goal

pub returns-in-Load : goal.returns-in-Load
returns-in-Load g c = IfOk-weaker c.tell_loaded.result _ _
    (λ told says. λ on may levels complete e k. rw c.in-Load.is (says on may levels complete e k))
    c.tell_loaded.ensures
