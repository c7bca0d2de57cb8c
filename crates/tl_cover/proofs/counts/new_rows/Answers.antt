use Rattle.tl_cover.specs.code.Covering.{unseen}
use Rattle.tl_cover.specs.declared.situation.Situation.TheVariants.{ProbeBesideRelease}
use Rattle.tl_cover.proofs.Changed.{map_pushed, map_whole}
use Rattle.tl_cover.proofs.counts.new_rows.Goals as goal

pub loop-situation-preserved : goal.loop-situation-preserved
loop-situation-preserved c = map_pushed unseen c.args.all.now _ _ c.loop-situation.situation-index
    ProbeBesideRelease c.new.result c.loop-situation-test.true c.loop-situation.invariant
    c.in_ok-push.ensures.items c.new.ensures

pub returns : goal.returns
returns c = map_whole unseen c.args.all.now _ c.loop-situation.situation-index c.loop-situation-test.false
    c.loop-situation.invariant
