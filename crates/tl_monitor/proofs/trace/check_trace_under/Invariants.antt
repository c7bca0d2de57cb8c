use Rattle.std.proofs.Common.{◌≡◌, [], length, take, drop, reverse, false}
use Rattle.tl_rules.specs.statement.Liberties.{fault_from_under}
use Rattle.tl_monitor.specs.statement.Knows.{KnowsUnder}
use Rattle.tl_params.specs.statement.Config.{IsCount}
use Rattle.tl_monitor.proofs.trace.check_trace_under.Given as goal

abbrev pub invariant-loop-i : goal.invariant-loop-i
invariant-loop-i g l = record {
  counted : IsCount (length l.levels);
  known : KnowsUnder l.monitor l.levels l.fn.liberties (reverse (take l.i l.trace)) false;
  same : fault_from_under l.fn.liberties l.levels [] l.trace ≡ fault_from_under l.fn.liberties l.levels (reverse (take l.i l.trace))
      (drop l.i l.trace);
}
