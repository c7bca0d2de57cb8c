-- The monitor finds no fault in the trace of a schedule.
use Rattle.std.proofs.Common.{ℕ, List, ap}
use Rattle.std.specs.Prelude.{option_map}
use Rattle.tl_coherence.proofs.flow.FlowTraces.{delivered-unbroken}
use Rattle.tl_lines.specs.declared.fault.Fault.TheVariants.{Rule as Breaks}
use Rattle.tl_command.specs.declared.command.RunForm.TheVariants as form
use Rattle.tl_lines.specs.declared.status.Status.{Status}
use Rattle.tl_engine.specs.laws.Clean.{IsClean, IsUpTo}
use Rattle.tl_lines.specs.statement.Judged.{clean_text, faults_of_links}
use Rattle.tl_engine.specs.statement.Played.{Played}
use Rattle.tl_engine.proofs.TraceQuiet.{AreQuiet, trace-quiet}

links-quiet : AreQuiet faults_of_links
links-quiet w config log link ch o x given moving flowing tracing =
    ap (option_map Breaks) (delivered-unbroken config log link ch o x given moving flowing)

pub trace-clean : (lines : List (List ℕ)) (text : List ℕ) (status : Status) → Played form.Trace lines text status
    → IsUpTo IsClean text status
trace-clean = trace-quiet faults_of_links clean_text links-quiet
