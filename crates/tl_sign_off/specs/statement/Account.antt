-- The account of an input that was judged to its end.
use Rattle.std.specs.Prelude.{◌≡◌, ℕ, List, length, take}
use Rattle.sha2.specs.Sha256.{sha256}
use Rattle.tl_command.specs.declared.search.Aim.{Aim}
use Rattle.tl_lines.specs.statement.Lines.{lines_of}
use Rattle.tl_report.specs.statement.Found.{FindsFor}
use Rattle.tl_sign_off.specs.declared.account.Account.{Account}

-- The account is of these bytes: the findings in their lines, the number of bytes, the first 256 of them, and their
-- SHA-256.
pub record IsOf (aim : Aim) (a : Account) (input : List ℕ) : Type 0 where
  pub together_is : a.together ≡ aim.together
  pub found : FindsFor aim (lines_of input) a.findings.faults.items a.findings.beats a.findings.cells.items
  pub bytes_are : a.input.bytes ≡ length input
  pub front_is : a.input.front.items ≡ take 256 input
  pub sum_is : a.input.sum ≡ sha256 input
