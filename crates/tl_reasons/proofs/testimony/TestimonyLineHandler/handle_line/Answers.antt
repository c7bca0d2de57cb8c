use Rattle.std.proofs.Common.{ap, refl, rules, ◌≡◌}
use Rattle.std.specs.Prelude.{Bool, Ok, Some}
use Rattle.tl_params.specs.declared.liberties.Liberties.{Liberties}
use Rattle.tl_reasons.proofs.Examining.{ok_is}
use Rattle.tl_reasons.proofs.Testifying.{ended-again, judged-again}
use Rattle.tl_reasons.proofs.testimony.TestimonyLineHandler.handle_line.Goals as goal

pub returns-clause-judges : goal.returns-clause-judges
returns-clause-judges c =
    judged-again c.args.self.now (record { link_lines = c.judge_line.new.self; inquiry = c.conclude.new.self })
    c.hear.new.judge c.hear.new.self c.in_ok-number.number c.args.line.now c.in_ok-told.told (search rules)
    c.in_ok-told.ensures c.in_ok-fault.ensures.purpose c.args._out.now.items c.in_ok-fault.fault c.conclude.ensures
    (c.in_ok-fault.ensures.judges c.args._out.now.items) c.in_ok-fault.ensures.watches

pub returns-clause-ends : goal.returns-clause-ends
returns-clause-ends c = λ fault is.
    let same : c.in_ok-fault.fault ≡ Some fault = ok_is (Ok c.in_ok-fault.fault) c.in_ok-fault.fault (Some fault) refl is in
    ended-again c.args.self.now (record { link_lines = c.judge_line.new.self; inquiry = c.conclude.new.self })
    c.hear.new.judge c.hear.new.self c.in_ok-number.number c.args.line.now c.in_ok-told.told (search rules)
    c.in_ok-told.ensures c.in_ok-fault.ensures.purpose fault (rw same at c.conclude.ensures)
    (rw same at c.in_ok-fault.ensures.watches)

pub returns-clause-purpose : goal.returns-clause-purpose
returns-clause-purpose c = ap (λ (p : Bool × Liberties). p.1) c.in_ok-fault.ensures.purpose
