use Rattle.std.proofs.Common.{arith, refl, ◌∷◌, [], length-append}
use Rattle.tl_memory.proofs.messages.LinkTables.{links-first, none-new, one-new}
use Rattle.tl_memory.proofs.links.Links.new.Goals as goal

pub loop-init : goal.loop-init
loop-init g = rw g.new-states.ensures.items (refl, none-new)

pub loop-preserved : goal.loop-preserved
loop-preserved g = rw g.in_ok-push.ensures.items (
  omega (arith, length-append g.loop.states.items (g.new.result ∷ []), g.loop.invariant.0),
  one-new g.loop.states.items g.new.result g.loop.invariant.1 g.new.ensures,
)

pub returns : goal.returns
returns g = λ w. links-first _ w g.args.count
    (omega (arith, g.loop.invariant.0, g.loop-test.false, g.loop.auto.counter-end)) g.loop.invariant.1
