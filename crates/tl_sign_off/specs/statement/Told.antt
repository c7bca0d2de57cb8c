-- The text written about an input that was judged to its end.
use Rattle.std.specs.Prelude.{◌≡◌, ℕ, Bool, true, false, List, Option, if◌then◌else◌}
use Rattle.std.specs.Io.KnownBytes.{Consumes, IsAtEnd}
use Rattle.tl_command.specs.declared.search.Inquiry.{Inquiry}
use Rattle.tl_lines.specs.statement.Parts.{AppendsShort}
use Rattle.tl_lines.specs.declared.status.ToolFault.{ToolFault}
use Rattle.tl_lines.specs.declared.status.ToolFault.TheVariants.{Memory, Read, Write}
use Rattle.tl_report.specs.statement.Said.{all_text, first_text}
use Rattle.tl_sign_off.specs.declared.account.Account.{Account}
use Rattle.tl_sign_off.specs.declared.form.Form.{Form}
use Rattle.tl_sign_off.specs.declared.form.Form.TheVariants.{Json, Junit}
use Rattle.tl_sign_off.specs.statement.Account.{IsOf}
use Rattle.tl_sign_off.specs.statement.Junit.{junit_of}
use Rattle.tl_sign_off.specs.statement.Report.{json_line}

-- all lines at fault and their number, or the first; if there is none, the verdict with the number of beats
abbrev pub verdict_text : Bool → Account → List ℕ
verdict_text all a =
    if all then all_text a.together a.findings.faults.items a.findings.beats
    else first_text a.together a.findings.faults.items a.findings.beats

-- the report of an account
abbrev pub report_in : Form → Account → List ℕ
report_in Json a = json_line a
report_in Junit a = junit_of a

-- A judgement that ended with this error. With `Write` the input came to its end, and a part of the verdict isn't
-- written. With any other error nothing is written.
abbrev pub GivesUpJudging : Inquiry → Option (List ℕ) → Option (List ℕ) → Option (List ℕ) → Option (List ℕ) → ToolFault
    → Type 0
GivesUpJudging q had left held holds Write =
    (a : Account) × (input : List ℕ) × Consumes had left input × IsAtEnd left × IsOf q.aim a input
    × AppendsShort held holds (verdict_text q.all a)
GivesUpJudging q had left held holds fault = holds ≡ held

-- A report wasn't written. With `Memory` nothing of it is, with `Write` a part of it isn't.
abbrev pub GivesUpWriting : List ℕ → Option (List ℕ) → Option (List ℕ) → ToolFault → Type 0
GivesUpWriting text held holds Memory = holds ≡ held
GivesUpWriting text held holds Write = AppendsShort held holds text
GivesUpWriting text held holds Read = ⊥
