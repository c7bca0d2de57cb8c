use Rattle.std.proofs.Common.{refl, rules, Some}
use Rattle.tl_reasons.proofs.Hearing.{beat-recorded, ok-then}
use Rattle.tl_reasons.proofs.testimony.Inquiry.take_beat.Goals as goal

pub returns-in-Ok-clause-recorded : goal.returns-in-Ok-clause-recorded
returns-in-Ok-clause-recorded g c = λ came.
    beat-recorded c.args.self.now (record c.args.self.now { witness = Some c.take.new.self }) c.in-Some.witness
    c.take.new.self c.args.number c.args.line.now c.in-Ok.link c.in-Ok.beat c.requires c.in-Some.is refl refl
    c.in-Ok.ensures.spelled (ok-then c.take.result (search rules) c.take.ensures)
