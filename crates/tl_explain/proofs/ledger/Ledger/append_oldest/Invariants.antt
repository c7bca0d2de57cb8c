use Rattle.std.proofs.Common.{◌-◌, ℕ, List}
use Rattle.std.specs.Prelude.{None}
use Rattle.tl_explain.specs.statement.Pending.{TellsOldest}
use Rattle.tl_explain.proofs.ledger.Ledger.append_oldest.Given as goal

-- what is still to be told comes behind what was
abbrev pub invariant-loop : goal.invariant-loop
invariant-loop g l = (new : List ℕ) → TellsOldest (g.X.Wording.says l.wording) l.self.pending.items l.after
    (20 - l.counter) l.out.items new
    → TellsOldest (g.X.Wording.says l.wording) l.self.pending.items None 20 l.initial.out.items new
