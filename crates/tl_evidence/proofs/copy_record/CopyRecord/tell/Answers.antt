use Rattle.std.proofs.Common.{◌++◌, ◌∙◌, ap, length}
use Rattle.std.proofs.lemmas.Result.{IfOk-weaker}
use Rattle.tl_evidence.proofs.CopyTexts.{other-lines}
use Rattle.tl_evidence.proofs.copy_record.CopyRecord.tell.Goals as goal

pub returns-in_default : goal.returns-in_default
returns-in_default g c = IfOk-weaker c.tell_event.result _ _
    (λ told says. λ on may levels complete e k came.
    says on may levels complete e k came
    ∙ ap (λ text. c.args.out.now.items ++ text) (other-lines (g.X.Places.names c.args.places.now) complete (length levels) c.args.self.now.link.0 e
    c.args.rule c.args.event.now c.in_default.not-M5))
    c.tell_event.ensures
