use Rattle.std.proofs.Common.{ap, ◌∙◌}
use Rattle.std.specs.Prelude.{Bool, Ok, Result}
use Rattle.tl_reasons.proofs.Hearing.{beat-heard}
use Rattle.tl_reasons.proofs.testimony.Inquiry.hear_beat.Goals as goal

pub returns-clause-heard : goal.returns-clause-heard
returns-clause-heard g c =
    beat-heard c.args.self.now c.hear_fault.new.self c.record.new.self c.args.judge.now c.args.number c.args.line.now
    c.in_ok-told.told c.hear_fault.ensures.same c.hear_fault.ensures.witness c.record.ensures.same
    c.record.ensures.recorded c.record.ensures.reasons c.in_ok-told.ensures.tells
