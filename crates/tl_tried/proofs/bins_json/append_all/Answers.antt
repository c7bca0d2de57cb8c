use Rattle.std.proofs.Common.{arith}
use Rattle.tl_cover.specs.declared.situation.Situation.TheVariants.{ProbeBesideRelease}
use Rattle.tl_tables.proofs.Numbered.{numbered_all, numbered_next}
use Rattle.tl_tried.specs.statement.Told.{bin_json}
use Rattle.tl_tried.proofs.bins_json.append_all.Goals as goal

pub loop-i-preserved : goal.loop-i-preserved
loop-i-preserved c = numbered_next (bin_json c.args.cells.now) c.args.bins.now c.loop-i.i ProbeBesideRelease
    c.args.out.now.items c.loop-i.out.items c.append_bin.new.out.items c.loop-i-test.true
    c.in_ok-append_bin.ensures c.loop-i.invariant

pub returns : goal.returns
returns c = numbered_all (bin_json c.args.cells.now) c.args.bins.now c.loop-i.i c.args.out.now.items
    c.loop-i.out.items (omega arith) c.loop-i.invariant
