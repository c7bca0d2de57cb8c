use Rattle.std.proofs.Common.{[]}
use Rattle.tl_rules.proofs.Profiles.{fault-of}
use Rattle.tl_monitor.proofs.trace.check_trace.Goals as goal

pub returns : goal.returns
returns g c = rw (c.of.ensures, fault-of c.args.profile c.args.levels.now [] c.args.trace.now) at
    c.check_trace_under.ensures
