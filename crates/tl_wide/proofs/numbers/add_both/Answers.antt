use Rattle.std.proofs.Common.{refl}
use Rattle.tl_wide.proofs.Naming.{newest}
use Rattle.tl_wide.proofs.Numbering.{one-given, one-refused}
use Rattle.tl_wide.proofs.numbers.add_both.Goals as goal

pub returns-in-Ok-None : goal.returns-in-Ok-None
returns-in-Ok-None c = λ names others knows also none gone le more.
    let first = one-given c.args.limit c.args.name names c.add.new.self c.in_ok-place.field-0 c.in-Some.place
    c.in-Some.is (c.in_ok-place.ensures.numbered names knows none le) in
    let second = one-refused c.args.second_limit c.args.second_name others c.add-2.new.self c.in-Ok-None.field-0
    c.in-Ok-None.field-0-is (c.in-Ok-None.ensures.numbered others also gone more) in
    let back = newest c.args.first.now c.add.new.self names c.args.name c.in-Some.place knows none c.add.ensures.zero
    first.1 first.2 in
    (rw (first.0, second.0) refl, c.take_back.ensures names back.0 back.1 back.2 back.3, second.1)

pub returns-in-Err : goal.returns-in-Err
returns-in-Err c = λ names others knows also none gone le more.
    let first = one-given c.args.limit c.args.name names c.add.new.self c.in_ok-place.field-0 c.in-Some.place
    c.in-Some.is (c.in_ok-place.ensures.numbered names knows none le) in
    let back = newest c.args.first.now c.add.new.self names c.args.name c.in-Some.place knows none c.add.ensures.zero
    first.1 first.2 in
    (c.take_back-in-Err.ensures names back.0 back.1 back.2 back.3, c.in-Err.ensures.numbered others also gone more)
