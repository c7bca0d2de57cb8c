use Rattle.std.proofs.Common.{◌∙◌}
use Rattle.tl_cover.proofs.Groups.{none_left, noted_whole, stretch_noted}
use Rattle.tl_cover.specs.declared.group.Group.TheVariants.{Any}
use Rattle.tl_cover.proofs.counts.note_scene.Goals as goal

pub loop-stretch-preserved : goal.loop-stretch-preserved
loop-stretch-preserved g c = λ fits.
    let had = c.loop-stretch.invariant fits in
    stretch_noted c.loop-stretch.at c.loop-stretch.stretch-index c.args.stretches.now (record { 0 = Any; 1 = 0 })
    c.args.rows.now.items c.loop-stretch-test.true had.1 had.2 c.args.line c.args.beat.now c.args.scene.now
    c.loop-stretch.rows.items c.note_stretch.new.rows.items had.0 c.in_ok-note_stretch.ensures

pub returns : goal.returns
returns g c = λ fits.
    let had = c.loop-stretch.invariant fits in
    had.0 ∙ noted_whole c.args.line c.args.beat.now c.args.scene.now c.loop-stretch.at c.args.rows.now.items
    (none_left c.loop-stretch.at c.loop-stretch.stretch-index c.args.stretches.now c.args.rows.now.items
    c.loop-stretch-test.false had.2)
