use Rattle.std.proofs.Common.{◌∙◌, sym}
use Rattle.tl_wide.proofs.Naming.{has-number}
use Rattle.tl_wide.proofs.numbers.number_both.Goals as goal

pub returns-in-Some-Some : goal.returns-in-Some-Some
returns-in-Some-Some c = λ names others knows also le more.
    let first = c.place.ensures names knows in
    let second = c.place-2.ensures others also in
    let one = has-number c.place.new.self names c.args.limit c.args.name c.in-Some-Some.place first.0 le
    (sym first.1 ∙ c.in-Some-Some.is-0) in
    let two = has-number c.place-2.new.self others c.args.second_limit c.args.second_name c.in-Some-Some.other second.0
    more (sym second.1 ∙ c.in-Some-Some.is-1) in
    (one.0, two.0, one.1, two.1, one.2, two.2)
