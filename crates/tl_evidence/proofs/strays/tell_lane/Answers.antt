use Rattle.std.proofs.Common.{◌+◌, ◌*◌, ◌∙◌, refl, sym}
use Rattle.tl_witness.proofs.Told.{allowed, stray}
use Rattle.tl_evidence.proofs.strays.tell_lane.Goals as goal

pub returns-then-allows-clause-told : goal.returns-then-allows-clause-told
returns-then-allows-clause-told g c = λ rest.
    allowed (g.X.Places.names c.args.places.now) (g.V.ByteValues.test c.args.values.now)
    (g.V.ByteValues.told c.args.values.now) c.args.count (64 * g.V.ByteValues.block c.args.values.now + c.args.place)
    c.args.byte rest c.args.out.now.items (sym c.allows.ensures ∙ c.if-allows.true)

pub returns-clause-told : goal.returns-clause-told
returns-clause-told g c = λ rest.
    stray (g.X.Places.names c.args.places.now) (g.V.ByteValues.test c.args.values.now)
    (g.V.ByteValues.told c.args.values.now) c.args.count (c.args.count + 1)
    (64 * g.V.ByteValues.block c.args.values.now + c.args.place) c.args.byte rest c.args.out.now.items
    c.append_counted.new.out.items (sym c.allows.ensures ∙ c.if-allows.false) refl c.in_ok-append_counted.ensures
