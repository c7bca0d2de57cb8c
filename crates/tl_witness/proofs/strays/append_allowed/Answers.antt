use Rattle.std.proofs.Common.{◌≡◌, ◌+◌, ◌*◌, ◌∙◌, arith, rules, sym}
use Rattle.tl_rules.specs.statement.History.{block_at}
use Rattle.tl_memory.specs.code.Expected.{allows}
use Rattle.tl_witness.specs.code.Strays.{told_of}
use Rattle.tl_witness.proofs.Told.{may-be, may-not-be, told-there}
use Rattle.tl_witness.proofs.strays.append_allowed.Goals as goal

pub returns-then-not-allows : goal.returns-then-not-allows
returns-then-not-allows g c = λ n.
    let e = c.args.expected.now in
    let at : c.allows.result ≡ allows e (64 * block_at e.address + c.args.place) c.args.value =
    rw c.from.ensures at (c.allows.ensures (omega (arith, c.from.ensures, c.requires))) in
    may-not-be (g.X.Places.names c.args.places.now) (allows e (64 * block_at e.address + c.args.place))
    (told_of c.args.judge.now (64 * block_at e.address + c.args.place)) c.args.any n c.args.value c.args.out.now.items
    (sym at ∙ search rules)

pub returns : goal.returns
returns g c = λ n.
    let e = c.args.expected.now in
    let at : c.allows.result ≡ allows e (64 * block_at e.address + c.args.place) c.args.value =
    rw c.from.ensures at (c.allows.ensures (omega (arith, c.from.ensures, c.requires))) in
    may-be (g.X.Places.names c.args.places.now) (allows e (64 * block_at e.address + c.args.place))
    (told_of c.args.judge.now (64 * block_at e.address + c.args.place)) c.args.any n c.args.value c.args.out.now.items
    c.extend_from_slice.new.self.items c.append_value.new.out.items (sym at ∙ search rules) (search rules)
    (told-there (g.X.Places.names c.args.places.now) c.args.judge.now (block_at e.address) c.block_at.result
    c.args.place c.args.value
    c.told_at-moment.result c.extend_from_slice.new.self.items c.append_value.new.out.items c.requires
    c.block_at.ensures
    c.told_at-moment.ensures.kept c.in_ok-append_value.ensures)
