use Rattle.std.proofs.Common.{◌≡◌, length}
use Rattle.tl_together.proofs.judge.empty_tables.Given as goal

abbrev pub invariant-loop : goal.invariant-loop
invariant-loop l = length l.tables.items ≡ l.counter
