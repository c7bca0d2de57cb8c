use Rattle.std.proofs.lemmas.Result.{IfOk-weaker}
use Rattle.tl_report.proofs.WideEventTaken.{takes-event}
use Rattle.tl_report.proofs.wide_events.WideEventTakerTakerCommitHeaderSpelledEvent.take.Goals as goal

pub returns : goal.returns
returns g c = IfOk-weaker c.push.result _ _ (λ answer judged.
    takes-event c.args.self.now.part c.args.self.now
    (record { judge = c.push.new.self; width = c.args.self.now.width; part = c.args.self.now.part }) c.args.item answer
    judged) c.push.ensures
