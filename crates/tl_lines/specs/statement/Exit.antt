-- The exit status of the program.
use Rattle.std.specs.Prelude.{ℕ, Result, Ok, Err}
use Rattle.tl_lines.specs.declared.status.Status.{Status}
use Rattle.tl_lines.specs.declared.status.Status.TheVariants.{Clean, Broken}
use Rattle.tl_lines.specs.declared.status.ToolFault.{ToolFault}

-- the exit status of a command: 0 for clean, 1 for a line at fault, 3 if memory, the reader or the writer failed
abbrev pub exit_status : Result Status ToolFault → ℕ
exit_status (Ok Clean) = 0
exit_status (Ok Broken) = 1
exit_status (Err fault) = 3
