use Rattle.tl_cover.proofs.Changed.{map_added, map_added_all}
use Rattle.tl_cover.specs.code.Covering.{unseen}
use Rattle.tl_cover.specs.declared.situation.Situation.TheVariants.{ProbeBesideRelease}
use Rattle.tl_cover.specs.statement.Covered.{cell}
use Rattle.tl_cover.proofs.past.append_counts.Goals as goal

pub loop-row-preserved : goal.loop-row-preserved
loop-row-preserved g c = map_added (cell g.row.W c.args.liberties c.args.level) c.args.rows.now c.args.cells.now.items
    c.loop-row.cells.items c.push.new.self.items c.loop-row.row-index (unseen ProbeBesideRelease) c.cell_of.result
    c.loop-row-test.true c.loop-row.invariant c.in_ok-push.ensures.items c.cell_of.ensures

pub returns : goal.returns
returns g c = map_added_all (cell g.row.W c.args.liberties c.args.level) c.args.rows.now c.args.cells.now.items
    c.loop-row.cells.items c.loop-row.row-index c.loop-row-test.false c.loop-row.invariant
