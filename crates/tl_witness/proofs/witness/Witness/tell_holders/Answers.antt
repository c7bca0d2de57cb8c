use Rattle.std.proofs.Common.{arith, ◌+◌}
use Rattle.std.proofs.Math.Numerals.{add-one}
use Rattle.tl_witness.proofs.Witnesses.{holders-more, holders-none}
use Rattle.tl_witness.proofs.witness.Witness.tell_holders.Goals as goal

pub loop-link-init : goal.loop-link-init
loop-link-init g c = λ w n block t k. holders-none (g.X.Places.names c.args.places.now) c.args.given block t
    c.args.out.now.items

pub loop-link-preserved : goal.loop-link-preserved
loop-link-preserved g c = λ w n block t k.
    holders-more (g.X.Places.names c.args.places.now) c.loop-link.link (c.loop-link.link + 1) c.args.given block t
    c.args.out.now.items
    c.loop-link.out.items _ (add-one c.loop-link.link) (c.loop-link.invariant w n block t k)
    (c.in_ok-tell_holder.ensures w n block t k (omega (arith, k.links_is, c.loop-link-test.true)))
