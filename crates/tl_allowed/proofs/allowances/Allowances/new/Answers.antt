use Rattle.std.proofs.Common.{arith, refl, []}
use Rattle.tl_params.specs.declared.liberties.Liberty.TheVariants.{Ids}
use Rattle.tl_command.specs.statement.LibertyWords.{all_liberties}
use Rattle.tl_allowed.proofs.Wider.{named-more, one-more}
use Rattle.tl_allowed.proofs.allowances.Allowances.new.Goals as goal

pub loop-liberty-preserved : goal.loop-liberty-preserved
loop-liberty-preserved g c = record {
  items = c.loop-liberty.invariant.items;
  counted = λ some. c.in_ok-monitor.ensures.0;
  liberties = rw c.in-Ok.ensures.items (named-more c.loop-liberty.wider.items _ all_liberties c.loop-liberty.liberty-index
      Ids c.loop-liberty.invariant.liberties (omega arith) refl);
  known = rw c.in-Ok.ensures.items (one-more c.loop-liberty.wider.items _ c.args.levels.now c.args.liberties []
      c.loop-liberty.invariant.known (rw c.with.ensures at c.in_ok-monitor.ensures.1));
}
