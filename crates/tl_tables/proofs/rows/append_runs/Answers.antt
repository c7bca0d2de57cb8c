use Rattle.std.proofs.Common.{arith}
use Rattle.tl_cover.specs.declared.situation.Situation.TheVariants.{ProbeBesideRelease}
use Rattle.tl_cover.specs.statement.Bins.{all_bins}
use Rattle.tl_tables.proofs.Numbered.{numbered_all, numbered_next}
use Rattle.tl_tables.specs.code.Walk.{row_of}
use Rattle.tl_tables.proofs.rows.append_runs.Goals as goal

pub loop-place-preserved : goal.loop-place-preserved
loop-place-preserved c = numbered_next (row_of c.args.table c.args.width c.args.counts.now) all_bins
    c.loop-place.place ProbeBesideRelease c.args.out.now.items c.loop-place.out.items c.append_row.new.out.items
    c.loop-place-test.true c.in_ok-append_row.ensures c.loop-place.invariant

pub returns : goal.returns
returns c = numbered_all (row_of c.args.table c.args.width c.args.counts.now) all_bins c.loop-place.place
    c.args.out.now.items c.loop-place.out.items (omega arith) c.loop-place.invariant
