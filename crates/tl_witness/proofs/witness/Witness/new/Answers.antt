use Rattle.std.proofs.Common.{arith, refl, ◌∷◌, [], length-append}
use Rattle.tl_witness.proofs.Witnesses.{first-knows, none-fresh, one-fresh}
use Rattle.tl_witness.proofs.witness.Witness.new.Goals as goal

pub loop-n-init : goal.loop-n-init
loop-n-init c = rw c.new-recorders.ensures.items (refl, none-fresh c.args.block)

pub loop-n-preserved : goal.loop-n-preserved
loop-n-preserved c = rw c.in_ok-push.ensures.items (
  omega (arith, length-append c.loop-n.recorders.items (c.recorder_of.result ∷ []), c.loop-n.invariant.0),
  one-fresh c.loop-n.recorders.items c.loop-n.n c.args.block c.recorder_of.result c.loop-n.invariant.1
      c.loop-n.invariant.0 c.recorder_of.ensures,
)

pub returns : goal.returns
returns c = λ w small.
    first-knows _ w c.args.links c.args.block refl small refl (omega (arith, c.loop-n.invariant.0, c.loop-n-test.false))
    c.loop-n.invariant.1
