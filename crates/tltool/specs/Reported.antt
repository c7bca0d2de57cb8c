-- How a judgement ends that is reported.
use Rattle.std.specs.Prelude.{◌≡◌, ◌++◌, ℕ, Bool, true, false, List, Option, Result, Ok, Err, IfErr, IfOk, OnErr, OnOk}
use Rattle.std.specs.Prelude.{if◌then◌else◌, is_ok}
use Rattle.std.specs.Io.KnownBytes.{Appends, Consumes, IsAtEnd}
use Rattle.tl_command.specs.declared.search.Inquiry.{Inquiry}
use Rattle.tl_lines.specs.declared.status.ToolFault.{ToolFault}
use Rattle.tl_lines.specs.declared.status.ToolFault.TheVariants.{Write}
use Rattle.tl_lines.specs.statement.Exit.{exit_status}
use Rattle.tl_report.specs.declared.findings.Finding.{Finding}
use Rattle.tl_report.specs.statement.Said.{status_of}
use Rattle.tl_sign_off.specs.declared.account.Account.{Account}
use Rattle.tl_sign_off.specs.declared.form.Form.{Form}
use Rattle.tl_sign_off.specs.statement.Account.{IsOf}
use Rattle.tl_sign_off.specs.statement.Told.{GivesUpJudging, GivesUpWriting, report_in, verdict_text}

-- an input was judged to its end and the verdict written, or the judgement was given up
abbrev pub EndsJudged : Inquiry → Option (List ℕ) → Option (List ℕ) → Option (List ℕ) → Option (List ℕ)
    → Result Account ToolFault → Type 0
EndsJudged q had left held holds judged =
    IfOk judged (λ a. (input : List ℕ) × Consumes had left input × IsAtEnd left × IsOf q.aim a input
    × Appends held holds (verdict_text q.all a))
    × IfErr judged (GivesUpJudging q had left held holds)

-- a report was written, or given up
abbrev pub EndsReported : Form → Account → Option (List ℕ) → Option (List ℕ) → Bool → Type 0
EndsReported form a held holds written =
    (outcome : Result (Unit {0}) ToolFault) × (written ≡ is_ok outcome)
    × OnOk outcome (Appends held holds (report_in form a)) × IfErr outcome (GivesUpWriting (report_in form a) held holds)

-- the exit status after a verdict: 3 if a report wasn't written
abbrev pub status_reported : List Finding → Bool → ℕ
status_reported found written = if written then exit_status (Ok (status_of found)) else exit_status (Err Write)
