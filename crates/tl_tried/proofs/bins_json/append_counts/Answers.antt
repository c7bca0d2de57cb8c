use Rattle.std.proofs.Common.{arith}
use Rattle.std.specs.Prelude.{None}
use Rattle.tl_tables.proofs.Numbered.{numbered_all, numbered_next}
use Rattle.tl_tried.specs.statement.Told.{cell_of_json}
use Rattle.tl_tried.proofs.bins_json.append_counts.Goals as goal

pub loop-place-preserved : goal.loop-place-preserved
loop-place-preserved c = numbered_next (cell_of_json c.args.bin) c.args.cells.now c.loop-place.place None
    c.args.out.now.items c.loop-place.out.items c.append_count.new.out.items
    c.loop-place-test.true c.in_ok-append_count.ensures c.loop-place.invariant

pub returns : goal.returns
returns c = numbered_all (cell_of_json c.args.bin) c.args.cells.now c.loop-place.place c.args.out.now.items
    c.loop-place.out.items (omega arith) c.loop-place.invariant
