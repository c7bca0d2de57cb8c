use Rattle.tl_event_chart.proofs.Narrowing.{draws-none, draws-on}
use Rattle.tl_event_chart.proofs.wide.WideFollower.draw_parts.Goals as goal

pub loop-part-init : goal.loop-part-init
loop-part-init g c = draws-none c.args.canvas.now

pub returns-then-not-branch : goal.returns-then-not-branch
returns-then-not-branch g c =
    draws-on c.args.canvas.now _ c.draw_beat.new.canvas
    (draws-on c.args.canvas.now c.loop-part.canvas c.name_part.new.self c.loop-part.invariant c.name_part.ensures)
    c.in_ok-draw_beat.ensures

pub loop-part-preserved : goal.loop-part-preserved
loop-part-preserved g c =
    draws-on c.args.canvas.now _ c.draw_beat.new.canvas
    (draws-on c.args.canvas.now c.loop-part.canvas c.name_part.new.self c.loop-part.invariant c.name_part.ensures)
    c.in_ok-draw_beat.ensures
