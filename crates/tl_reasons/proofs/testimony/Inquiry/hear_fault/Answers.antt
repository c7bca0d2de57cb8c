use Rattle.std.proofs.Common.{arith, refl, rules, ◌≡◌, ◌+◌}
use Rattle.std.proofs.lemmas.Result.{IfOk-weaker}
use Rattle.tl_explain.specs.statement.Spelled.{spelled}
use Rattle.tl_reasons.proofs.Hearing.{fault-told}
use Rattle.tl_reasons.proofs.testimony.Inquiry.hear_fault.Goals as goal

pub returns-in-Ok-clause-tells : goal.returns-in-Ok-clause-tells
returns-in-Ok-clause-tells g c =
    let same : c.args.line.now ≡ spelled c.args.self.now.line = search rules in
    let at : c.args.self.now.count ≡ c.args.self.now.good = search rules in
    IfOk-weaker c.tell_beat.result _ _
    (λ told so. λ came. fault-told c.args.self.now c.tell_beat.new.self c.args.judge.now c.args.number c.args.line.now
    c.in-Ok.link c.in-Ok.beat c.requires.width same (omega (arith, c.requires.counted, at)) c.in-Ok.ensures.spelled
    (so came)) c.tell_beat.ensures.tells
