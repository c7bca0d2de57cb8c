-- The text of a line that is at fault.
use Rattle.std.specs.Prelude.{ℕ, List, ◌++◌, codes}
use Rattle.std.specs.Fmt.{decimal}
use Rattle.tl_beat.specs.statement.Names.{line_fault_name}
use Rattle.tl_schedule.specs.declared.line.EventFault.TheVariants as event
use Rattle.tl_params.specs.statement.Names.{rule_name}
use Rattle.tl_params.specs.statement.Names.{memory_rule_name}
use Rattle.tl_events.specs.statement.Names.{commit_rule_name}
use Rattle.tl_lines.specs.declared.fault.Fault.{Fault}
use Rattle.tl_lines.specs.declared.fault.Fault.TheVariants.{Header, Line, Rule, MemoryRule, CommitRule}
use Rattle.tl_lines.specs.declared.fault.Fault.TheVariants.{Beyond, Event}

-- the name of a fault in the text
abbrev pub fault_name : Fault → List ℕ
fault_name (Line fault) = line_fault_name fault
fault_name Header = codes "F7"
fault_name (Event event.F1) = codes "F1"
fault_name (Event event.F8) = codes "F8"
fault_name (Rule rule) = rule_name rule
fault_name (MemoryRule rule) = memory_rule_name rule
fault_name (CommitRule rule) = commit_rule_name rule
fault_name Beyond = codes "F9"

-- `line N X`: line N, from 1 on, is at fault for X
unfoldable pub fault_text : ℕ → Fault → List ℕ
fault_text n fault = codes "line " ++ decimal n ++ codes " " ++ fault_name fault ++ codes "\n"

-- the line for standard error if a file can't be opened
abbrev pub open_fault_text : List ℕ → List ℕ
open_fault_text name = codes "tltool: cannot open " ++ name ++ codes "\n"

-- the line for standard error if a file changed between its two readings
abbrev pub changed_text : List ℕ → List ℕ
changed_text name = codes "tltool: " ++ name ++ codes " changed while it was read\n"

-- the line for standard error if a file can be read only once, such as a pipe
abbrev pub once_text : List ℕ → List ℕ
once_text name = codes "tltool: " ++ name ++ codes " can't be read twice, as explain does: write it to a file\n"
