use Rattle.std.proofs.Common.{sym, ◌∙◌}
use Rattle.tl_wide.proofs.Naming.{has-number}
use Rattle.tl_wide.proofs.Numbering.{one-given}
use Rattle.tl_wide.proofs.numbers.number_new.Goals as goal

pub returns-in-Some : goal.returns-in-Some
returns-in-Some c = λ names others knows also found found_other le more.
    let one = has-number c.args.first.now names c.args.limit c.args.name c.in-Some-None.place knows le
    (sym found ∙ c.in-Some-None.is-0) in
    let two = one-given c.args.second_limit c.args.second_name others c.add.new.self
    c.in_ok-other-in-Some-None.field-0 c.in-Some.other c.in-Some.is
    (c.in_ok-other-in-Some-None.ensures.numbered others also (sym found_other ∙ c.in-Some-None.is-1) more) in
    (one.0, two.0, one.1, two.1, one.2, two.2)
