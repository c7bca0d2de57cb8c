-- A text is a trace in which the monitor, or a judge of all links together, finds no fault.
use Rattle.std.specs.Prelude.{◌≡◌, ◌⊎◌, ℕ, ◌+◌, List, ◌++◌, length}
use Rattle.tl_schedule.specs.declared.line.EventFault.{EventFault}
use Rattle.tl_command.specs.declared.command.Command.{Command}
use Rattle.tl_command.specs.declared.command.Command.TheVariants.{Coherent, Monitor}
use Rattle.tl_lines.specs.declared.fault.Fault.TheVariants.{Header, Event}
use Rattle.tl_lines.specs.declared.status.Status.{Status}
use Rattle.tl_lines.specs.declared.status.Status.TheVariants.{Clean, Broken}
use Rattle.tl_lines.specs.statement.Coherent.{coherent_text}
use Rattle.tl_lines.specs.statement.Fault.{fault_text}
use Rattle.tl_lines.specs.statement.Judged.{clean_text}
use Rattle.tl_lines.specs.statement.Lines.{lines_of}
use Rattle.tl_engine.specs.statement.Told.{text_told}

-- the command writes this of N and no fault, for a trace with N lines after its header
abbrev pub IsFaultless : Command → (ℕ → List ℕ) → List ℕ → Type 0
IsFaultless command said trace =
    (n : ℕ) × (length (lines_of trace) ≡ n + 1) × text_told command (lines_of trace) (said n) Clean

-- the monitor writes `clean N` of the text
abbrev pub IsClean : List ℕ → Type 0
IsClean = IsFaultless Monitor clean_text

-- a judge of all links together writes `coherent N` of the text
abbrev pub IsCoherent : List ℕ → Type 0
IsCoherent = IsFaultless Coherent coherent_text

-- The text is such a trace, if the status is clean. Otherwise it ends in the `line N X` of a fault: the header's alone,
-- or an event's after such a trace.
abbrev pub IsUpTo : (List ℕ → Type 0) → List ℕ → Status → Type 0
IsUpTo IsGood text Clean = IsGood text
IsUpTo IsGood text Broken =
    (text ≡ fault_text 1 Header) ⊎ ((trace : List ℕ) × (n : ℕ) × (fault : EventFault)
    × (text ≡ trace ++ fault_text n (Event fault)) × IsGood trace)
