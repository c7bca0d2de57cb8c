-- What the two readings of a wide trace bring.
use Rattle.std.proofs.Common.{◌≡◌, ◌+◌, ℕ, Bool, false, List, []}
use Rattle.std.specs.Prelude.{Option, Some}
use Rattle.tl_lines.specs.code.GivenUp.{IsKnown}
use Rattle.tl_lines.specs.code.Judging.{IsTotal, KnowsFor}
use Rattle.tl_lines.specs.declared.fault.Fault.{Fault}
use Rattle.tl_lines.specs.declared.fault.Fault.TheVariants as fault
use Rattle.tl_lines.specs.declared.status.Status.{Status}
use Rattle.tl_lines.specs.declared.status.Status.TheVariants.{Broken}
use Rattle.tl_lines.specs.statement.Fault.{fault_text}
use Rattle.tl_lines.specs.statement.Run.{RunsTo}
use Rattle.tl_params.specs.declared.liberties.Liberties.{Liberties}
use Rattle.tl_wide_story.specs.code.WideReplaying.{is_rule}
use Rattle.tl_wide_lines.proofs.TraceJudged.{trace-so-far, trace-total}
use Rattle.tl_wide_lines.specs.code.WideWatching.{KnowsTraceLines, trace_judged_for}
use Rattle.tl_wide_story.specs.declared.examine.WideExaminer.{WideExaminer}
use Rattle.tl_wide_lines.specs.statement.JudgedTrace.{JudgedTrace, TraceSoFar}
use Rattle.tl_wide_story.specs.statement.WideExplained.{ExplainsWide, ReachesWide}

-- what an examiner knows of the lines that it has judged
abbrev pub KnowsExamined : Bool → Liberties → List (List ℕ) → List ℕ → Type 0
KnowsExamined together allow =
    IsKnown (KnowsFor (λ (e : WideExaminer). trace_judged_for e.trace) (together, allow)
    (λ e lines text. KnowsTraceLines e.trace lines text))

pub examined-so-far : (together : Bool) (allow : Liberties) (lines : List (List ℕ)) (text : List ℕ)
    → KnowsExamined together allow lines text → TraceSoFar together allow lines text
examined-so-far together allow lines text (e, known) = trace-so-far together allow lines text (e.trace, known)

pub examined-total : IsTotal (λ (e : WideExaminer). trace_judged_for e.trace)
    (λ e lines text. KnowsTraceLines e.trace lines text) (λ p. JudgedTrace p.0 p.1)
examined-total e lines text known more = trace-total e.trace lines text known more

-- the first reading reached its verdict, which a writer into memory holds
pub reached : (together : Bool) (allow : Liberties) (had left : Option (List ℕ)) (held verdict : List ℕ)
    (status : Status) → held ≡ [] → RunsTo (JudgedTrace together allow) had left (Some held) (Some verdict) status
    → ReachesWide together allow had left verdict status
reached together allow had left held verdict status none (read, text, consumed, appended, judged, ends) =
    rw (appended, none) (read, consumed, judged, ends)

-- of a fault that is no breach of a rule nothing is claimed but the verdict
pub other_explains : (allow : Liberties) (old new : Option (List ℕ)) (verdict : List ℕ) (good : ℕ) (found : Fault)
    → is_rule found ≡ false → verdict ≡ fault_text (good + 1) found → ExplainsWide allow old new verdict [] Broken
other_explains allow old new verdict good (fault.Rule rule) other says = absurd cc
other_explains allow old new verdict good (fault.MemoryRule rule) other says = absurd cc
other_explains allow old new verdict good (fault.CommitRule rule) other says =
    (good + 1, fault.CommitRule rule, says, tt)
other_explains allow old new verdict good (fault.Line of_line) other says = (good + 1, fault.Line of_line, says, tt)
other_explains allow old new verdict good (fault.Event of_event) other says = (good + 1, fault.Event of_event, says, tt)
other_explains allow old new verdict good fault.Header other says = (good + 1, fault.Header, says, tt)
other_explains allow old new verdict good fault.Beyond other says = (good + 1, fault.Beyond, says, tt)
