use Rattle.std.proofs.Common.{refl}
use Rattle.tl_chart.proofs.gatherer.Gatherer.draw.Goals as goal

pub returns-clause-drawn : goal.returns-clause-drawn
returns-clause-drawn g c = λ held t is of change open_still lasting.
    rw (
      c.in_ok-draw_message.ensures t is of lasting,
      c.in_ok-draw_change.ensures g.row.W held c.args.beat.now t is change,
      open_still,
      is.line_is,
    ) refl
