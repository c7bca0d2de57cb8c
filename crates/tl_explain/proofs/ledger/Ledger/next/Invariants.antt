use Rattle.std.proofs.Common.{take}
use Rattle.tl_explain.specs.statement.Pending.{IsNext}
use Rattle.tl_explain.proofs.ledger.Ledger.next.Given as goal

abbrev pub invariant-loop-pending : goal.invariant-loop-pending
invariant-loop-pending l = IsNext (take l.pending-index l.self.pending.items) l.after l.oldest
