use Rattle.tl_monitor.proofs.Middle.{lawful-taken}
use Rattle.tl_monitor.proofs.link_state.LinkState.push_in_arm.Goals as goal

pub returns-then-begins-clause-lawful : goal.returns-then-begins-clause-lawful
returns-then-begins-clause-lawful g c = lawful-taken c.args.liberties c.args.self.now c.begin.new.self c.args.level
    c.channel.result c.args.beat.now c.begin.result c.in-Ok.ensures.value c.channel.ensures c.begin.ensures.takes

pub returns-else-begins-clause-lawful : goal.returns-else-begins-clause-lawful
returns-else-begins-clause-lawful g c = lawful-taken c.args.liberties c.args.self.now c.go_on.new.self c.args.level
    c.channel.result c.args.beat.now c.go_on.result c.in-Ok.ensures.value c.channel.ensures c.go_on.ensures.takes
