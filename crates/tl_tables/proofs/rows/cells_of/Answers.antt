use Rattle.tl_tables.proofs.Cells.{cells_next}
use Rattle.tl_tables.specs.code.Walk.{cell_in}
use Rattle.tl_tables.proofs.rows.cells_of.Goals as goal

pub loop-column-preserved : goal.loop-column-preserved
loop-column-preserved c = cells_next (cell_in c.args.run c.args.counts.now c.args.place) c.args.columns
    c.loop-column.column _ c.loop-column.cells.items c.push.new.self.items c.loop-column-test.true
    (rw c.cell_in.ensures at c.in_ok-push.ensures.items) c.loop-column.invariant
