use Rattle.tl_engine.proofs.Played.{drain-said, event-said}
use Rattle.tl_engine.proofs.play.play_said.Goals as goal

pub returns-in_ok-count-in-Drain : goal.returns-in_ok-count-in-Drain
returns-in_ok-count-in-Drain g c =
    drain-said c.args.form c.args.player.now c.deliver_all.new.player c.args.said c.args.out.now.items
    c.deliver_all.new.out.items c.append_number.new.out.items
    c.in_ok-count-in-Drain.count c.append_number.result c.in-Drain.is c.in_ok-count-in-Drain.ensures
    c.append_number.ensures

pub returns-in-Event : goal.returns-in-Event
returns-in-Event g c = event-said c.args.form c.args.player.now c.play_event.new.player c.args.said
    c.in-Event.event c.args.out.now.items
    c.play_event.new.out.items c.play_event.result c.in-Event.is c.play_event.ensures
