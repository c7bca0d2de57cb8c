-- What a handler of traces knows, of each link by itself or of all together.
use Rattle.std.specs.Prelude.{◌≡◌, ℕ, ◌+◌, Bool, true, false, ◌==◌, List, [], ◌∷◌, ◌++◌, length, Option, Some, None}
use Rattle.std.specs.Prelude.{codes}
use Rattle.std.specs.Fmt.{decimal}
use Rattle.tl_beat.specs.declared.beat.Link.{Link}
use Rattle.tl_beat.specs.declared.beat.Beat.{Beat}
use Rattle.tl_beat.specs.statement.Line.{Spells}
use Rattle.tl_params.specs.statement.Liberties.{liberties_of}
use Rattle.tl_params.specs.declared.level.Level.{Level}
use Rattle.tl_params.specs.declared.profile.Profile.{Profile}
use Rattle.tl_rules.specs.statement.Conformance.{Trace}
use Rattle.tl_monitor.specs.statement.Knows as of_link
use Rattle.tl_together.specs.statement.Knows as of_all
use Rattle.tl_lines.specs.declared.beat_judge.BeatJudge.{BeatJudge}
use Rattle.tl_lines.specs.declared.beat_judge.BeatJudge.TheVariants.{OfLinks, OfAll}
use Rattle.tl_lines.specs.declared.fault.Fault.{Fault}
use Rattle.tl_lines.specs.declared.status.Status.{Status}
use Rattle.tl_lines.specs.declared.monitor_lines.MonitorLines.{MonitorLines}
use Rattle.tl_lines.specs.declared.monitor_lines.MonitorLines.TheVariants.{Waiting, Four, Eight, Sixteen}
use Rattle.tl_lines.specs.statement.Judged.{FaultsOf, Headers, IsAtFault, JudgedAfter, JudgedBy}
use Rattle.tl_lines.specs.statement.JudgedSo.{faults_by, said_by}
use Rattle.tl_lines.specs.statement.Trace.{SpellsHeader}
use Rattle.tl_params.specs.declared.width.Width.{Width}

-- the number that stands for judging all links together
abbrev pub is_together : ℕ → Bool
is_together n = n == 1

-- the word in front of that number
abbrev pub word_by : Bool → List ℕ
word_by false = codes "clean "
word_by true = codes "coherent "

-- the same after its word
abbrev pub end_by : Bool → ℕ → List ℕ
end_by together n = word_by together ++ decimal n ++ codes "\n"

-- a judge of these links knows the beats of a trace, none of which was at fault
abbrev pub KnowsBeats : {w : ℕ} → Bool → BeatJudge w → List Level → Profile → Trace w → Type 0
KnowsBeats false (OfLinks monitor) levels p t = of_link.Knows monitor levels p t false
KnowsBeats true (OfAll judge) levels p t = of_all.Knows judge levels (liberties_of p) t false
KnowsBeats _ _ levels p t = ⊥

-- what the judge says of a beat after a trace: it isn't at fault, and the judge knows the longer trace, or
-- it is at fault for this, and the judge knows the trace as before
abbrev pub JudgesBeat : {w : ℕ} → Bool → BeatJudge w → List Level → Profile → Trace w → Link × Beat w → Option Fault
    → Type 0
JudgesBeat {w} together new levels p t x None =
    (faults_by together w levels p x t ≡ None) × KnowsBeats together new levels p (x ∷ t)
JudgesBeat {w} together new levels p t x (Some fault) =
    (faults_by together w levels p x t ≡ Some fault) × KnowsBeats together new levels p t

-- what a judge that knows a trace says of the next line: the line spells a beat that isn't at fault, and the
-- judge knows the longer trace, or the line is at fault
abbrev pub Watches : {w : ℕ} → Bool → BeatJudge w → BeatJudge w → List ℕ → Option Fault → Type 0
Watches {w} together old new line None =
    (levels : List Level) (p : Profile) (t : Trace w) → KnowsBeats together old levels p t
    → (link : Link) × (beat : Beat w) × Spells line link beat
    × (faults_by together w levels p (link, beat) t ≡ None)
    × KnowsBeats together new levels p ((link, beat) ∷ t)
Watches {w} together old new line (Some fault) =
    (levels : List Level) (p : Profile) (t : Trace w) → KnowsBeats together old levels p t
    → IsAtFault (faults_by together) levels p t line fault

-- These lines, a header and beats that aren't at fault, are judged with this text so far, so that what
-- follows is judged after it; the judge knows the beats.
pub record KnowsTraceOf {May : Type 0} {w : ℕ} (Known : List Level → May → Trace w → Type 0) (heads : Headers May)
    (faults : FaultsOf May) (said : ℕ → List ℕ) (lines : List (List ℕ)) (text : List ℕ) : Type 0 where
  pub levels : List Level
  pub may : May
  pub trace : Trace w
  pub known : Known levels may trace
  pub counted : length lines ≡ length trace + 1
  pub before : (more : List (List ℕ)) (rest : List ℕ) (status : Status)
      → JudgedAfter faults said levels may trace more rest status
      → JudgedBy heads faults said (lines ++ more) (text ++ rest) status

-- the same of a judge of each link by itself, or of all together
abbrev pub KnowsTrace : {w : ℕ} → Bool → BeatJudge w → List (List ℕ) → List ℕ → Type 0
KnowsTrace together judge =
    KnowsTraceOf (KnowsBeats together judge) SpellsHeader (faults_by together) (said_by together)

-- after these lines without a fault, this text has been appended
abbrev pub KnowsLines : {n : ℕ} → MonitorLines n → List (List ℕ) → List ℕ → Type 0
KnowsLines (Waiting alloc) lines text = (lines ≡ []) × (text ≡ [])
KnowsLines {n} (Four judge) lines text = KnowsTrace (is_together n) judge lines text
KnowsLines {n} (Eight judge) lines text = KnowsTrace (is_together n) judge lines text
KnowsLines {n} (Sixteen judge) lines text = KnowsTrace (is_together n) judge lines text

-- what the first line begins: a handler that knows the header, or none if it spells no header
abbrev pub Begins : {n : ℕ} → List ℕ → Option (MonitorLines n) → Type 0
Begins line None = (width : Width) (p : Profile) (levels : List Level) → ¬ SpellsHeader line width p levels
Begins line (Some monitor_lines) = KnowsLines monitor_lines (line ∷ []) []
