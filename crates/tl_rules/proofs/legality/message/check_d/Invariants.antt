use Rattle.std.proofs.Common.{◌≡◌, None}
use Rattle.tl_rules.proofs.Checks.{first_own, d_owns}
use Rattle.tl_rules.proofs.legality.message.check_d.Given as goal

abbrev pub invariant-loop-i : goal.invariant-loop-i
invariant-loop-i g l = first_own (d_owns l.message) 0 l.i ≡ None
