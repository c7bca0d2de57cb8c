use Rattle.std.proofs.Common.{◌≡◌, ◌+◌, ◌*◌, ◌∙◌, arith, refl, sym}
use Rattle.tl_rules.specs.statement.History.{block_at}
use Rattle.tl_memory.specs.code.Expected.{allows}
use Rattle.tl_witness.specs.code.Strays.{told_of}
use Rattle.tl_witness.proofs.Told.{allowed, stray}
use Rattle.tl_witness.proofs.strays.tell_lane.Goals as goal

pub returns-then-allows-clause-told : goal.returns-then-allows-clause-told
returns-then-allows-clause-told g c = λ rest.
    let e = c.args.expected.now in
    let at : c.allows.result ≡ allows e (64 * block_at e.address + c.args.place) c.args.byte =
    rw c.from.ensures at (c.allows.ensures (omega (arith, c.from.ensures, c.requires.place))) in
    allowed (g.X.Places.names c.args.places.now) (allows e) (told_of c.args.judge.now) c.args.count
    (64 * block_at e.address + c.args.place) c.args.byte
    rest c.args.out.now.items
    (sym at ∙ c.if-allows.true)

pub returns-clause-told : goal.returns-clause-told
returns-clause-told g c = λ rest.
    let e = c.args.expected.now in
    let at : c.allows.result ≡ allows e (64 * block_at e.address + c.args.place) c.args.byte =
    rw c.from.ensures at (c.allows.ensures (omega (arith, c.from.ensures, c.requires.place))) in
    stray (g.X.Places.names c.args.places.now) (allows e) (told_of c.args.judge.now) c.args.count (c.args.count + 1)
    (64 * block_at e.address + c.args.place) c.args.byte rest
    c.args.out.now.items c.append_counted.new.out.items (sym at ∙ c.if-allows.false) refl
    c.in_ok-append_counted.ensures
