use Rattle.std.proofs.lemmas.Result.{IfOk-weaker}
use Rattle.tl_commit_story.proofs.Recorded.{beat-recorded}
use Rattle.tl_commit_story.proofs.link_record.LinkRecord.take_beat.Goals as goal

pub returns-in-Ok : goal.returns-in-Ok
returns-in-Ok g c = IfOk-weaker c.take_if_any.result _ _
    (λ on takes. λ yes. beat-recorded c.args.self.now c.take.new.self c.args.number c.args.link c.take.ensures.subject
    c.take_if_any.new.allowances c.args.beat.now c.in-Ok.ensures.record (takes yes)) c.take_if_any.ensures
