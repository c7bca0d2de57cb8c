use Rattle.std.proofs.Common.{◌≡◌, [], length, take, drop, reverse, false}
use Rattle.tl_params.specs.statement.Config.{IsCount}
use Rattle.tl_params.specs.statement.Liberties.{liberties_of}
use Rattle.tl_together.specs.statement.Coherence.{breach_from}
use Rattle.tl_together.specs.statement.Knows.{Knows}
use Rattle.tl_together.proofs.trace.check_together.Given as goal

abbrev pub invariant-loop-i : goal.invariant-loop-i
invariant-loop-i g l = record {
  counted : IsCount (length l.levels);
  known : Knows l.judge l.levels (liberties_of l.fn.profile) (reverse (take l.i l.trace)) false;
  same : breach_from l.levels (liberties_of l.fn.profile) [] l.trace ≡ breach_from l.levels (liberties_of l.fn.profile) (reverse (take l.i l.trace))
      (drop l.i l.trace);
}
