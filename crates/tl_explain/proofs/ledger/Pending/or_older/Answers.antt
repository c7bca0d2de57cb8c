use Rattle.std.proofs.Common.{rules}
use Rattle.tl_explain.proofs.Waiting.{first-behind, left-out, older-one, younger-one}
use Rattle.tl_explain.proofs.ledger.Pending.or_older.Goals as goal

pub returns-then-not-is_behind : goal.returns-then-not-is_behind
returns-then-not-is_behind c = λ before is.
    left-out before c.args.after.now c.args.oldest c.args.self.now (search rules) is

pub returns-in-None : goal.returns-in-None
returns-in-None c = λ before is.
    first-behind before c.args.after.now c.args.self.now (search rules) (rw c.in-None.is at is)

pub returns-then-is_before : goal.returns-then-is_before
returns-then-is_before c = λ before is.
    older-one before c.args.after.now c.in-Some.other c.args.self.now (search rules) (search rules)
    (rw c.in-Some.is at is)

pub returns-else-is_before : goal.returns-else-is_before
returns-else-is_before c = λ before is.
    rw c.in-Some.is (younger-one before c.args.after.now c.in-Some.other c.args.self.now (search rules)
    (rw c.in-Some.is at is))
