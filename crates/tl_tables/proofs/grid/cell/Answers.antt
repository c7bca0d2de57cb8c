use Rattle.tl_cover.specs.declared.situation.Situation.TheVariants.{ProbeBesideRelease}
use Rattle.tl_cover.specs.statement.Bins.{all_bins}
use Rattle.tl_tables.proofs.Cells.{sum_next}
use Rattle.tl_tables.proofs.grid.cell.Goals as goal

pub loop-place-preserved : goal.loop-place-preserved
loop-place-preserved c = sum_next c.args.line c.args.held c.args.counts.now all_bins c.loop-place.place
    ProbeBesideRelease c.loop-place.sum c.in_ok-sum.sum _ c.loop-place-test.true c.in_ok-sum.ensures
    c.loop-place.invariant
