use Rattle.std.proofs.Common.{sym, ◌∙◌}
use Rattle.tl_chart.proofs.Gathering.{on_ok}
use Rattle.tl_chart.proofs.Lasting.{all_inside, all_stays}
use Rattle.tl_chart.proofs.drawing.draw_message.Goals.{else-moment-window-via-then-moment-window+else-lets_go}
use Rattle.tl_chart.proofs.drawing.draw_message.Goals.{else-moment-window-via-else-moment-window}
use Rattle.tl_chart.proofs.drawing.draw_message.Goals as goal

pub returns : goal.returns
returns g c = on_ok c.draw_beat.result (λ so t is of lasting. so t is of ∙ elim c.else-moment-window.branch [
  | else-moment-window-via-then-moment-window+else-lets_go w ↦
      all_stays c.args.window c.args.moment.now (c.args.moment.now.link, c.args.beat.now) t c.args.arrows.now.items is
      (sym w.lets_go.ensures ∙ w.if-lets_go.false) w.if-moment-window.true lasting
  | else-moment-window-via-else-moment-window w ↦
      all_inside c.args.window c.args.moment.now (c.args.moment.now.link, c.args.beat.now) t _ is w.if-moment-window.false
]) c.draw_beat.ensures
