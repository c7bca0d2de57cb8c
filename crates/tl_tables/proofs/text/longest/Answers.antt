use Rattle.std.proofs.Common.{arith}
use Rattle.tl_tables.proofs.Cells.{longest-low}
use Rattle.tl_tables.proofs.text.longest.Goals as goal

pub loop-cell-init : goal.loop-cell-init
loop-cell-init c = record {
  low = omega arith;
  short = omega arith;
  so_far = let low = longest-low c.args.cells.now in omega (arith, low);
}
