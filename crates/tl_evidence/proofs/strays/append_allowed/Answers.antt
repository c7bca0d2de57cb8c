use Rattle.std.proofs.Common.{◌+◌, ◌*◌, ◌∙◌, rules, sym}
use Rattle.tl_witness.proofs.Told.{may-be, may-not-be}
use Rattle.tl_evidence.proofs.strays.append_allowed.Goals as goal

pub returns-then-not-allows : goal.returns-then-not-allows
returns-then-not-allows g c = λ n.
    let at = 64 * g.V.ByteValues.block c.args.values.now + c.args.place in
    may-not-be (g.X.Places.names c.args.places.now) (g.V.ByteValues.test c.args.values.now at)
    (g.V.ByteValues.told c.args.values.now at) c.args.any n c.args.value c.args.out.now.items
    (sym c.allows.ensures ∙ search rules)

pub returns : goal.returns
returns g c = λ n.
    let at = 64 * g.V.ByteValues.block c.args.values.now + c.args.place in
    may-be (g.X.Places.names c.args.places.now) (g.V.ByteValues.test c.args.values.now at)
    (g.V.ByteValues.told c.args.values.now at) c.args.any n c.args.value c.args.out.now.items
    c.extend_from_slice.new.self.items c.append_value.new.out.items (sym c.allows.ensures ∙ search rules) (search rules)
    (rw c.told-moment.ensures at c.in_ok-append_value.ensures)
