use Rattle.std.proofs.Common.{None, Some, refl}
use Rattle.tl_monitor.specs.statement.Knows.{held_on_under}
use Rattle.tl_monitor.proofs.Granted.{granted-on-link}
use Rattle.tl_monitor.proofs.monitor.Monitor.granted_under.Goals as goal

pub returns-in-None : goal.returns-in-None
returns-in-None g c = λ levels lib t closed k.
    granted-on-link lib levels c.args.link c.args.block t None c.held_under.result
    (c.in-None.ensures.under levels lib t closed k) (c.held_under.ensures levels lib t closed k)

pub returns-in-Some : goal.returns-in-Some
returns-in-Some g c = λ levels lib t closed k.
    granted-on-link lib levels c.args.link c.args.block t (Some c.in-Some.given)
    (held_on_under lib levels c.args.link c.args.block t) (c.in-Some.ensures.under levels lib t closed k) refl
