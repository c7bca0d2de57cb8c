-- A judgement that was given up behind its end.
use Rattle.std.proofs.Common.{◌≡◌, ℕ, List}
use Rattle.std.specs.Prelude.{Option}
use Rattle.std.specs.Io.KnownBytes.{Consumes, IsAtEnd}
use Rattle.tl_command.specs.declared.search.Inquiry.{Inquiry}
use Rattle.tl_lines.specs.statement.Parts.{AppendsShort}
use Rattle.tl_lines.specs.declared.status.ToolFault.{ToolFault}
use Rattle.tl_lines.specs.declared.status.ToolFault.TheVariants.{Write}
use Rattle.tl_sign_off.specs.declared.account.Account.{Account}
use Rattle.tl_sign_off.specs.statement.Account.{IsOf}
use Rattle.tl_sign_off.specs.statement.Told.{GivesUpJudging, verdict_text}

-- some of the verdict is left
pub given_up : (q : Inquiry) (had left held holds : Option (List ℕ)) (a : Account) (fault : ToolFault) → fault ≡ Write
    → (input : List ℕ) × Consumes had left input × IsAtEnd left × IsOf q.aim a input
    → AppendsShort held holds (verdict_text q.all a) → GivesUpJudging q had left held holds fault
given_up q had left held holds a fault e (input, consumed, end, is) short = rw e (a, input, consumed, end, is, short)
