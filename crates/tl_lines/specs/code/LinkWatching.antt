-- What a handler of traces knows whose links have liberties.
use Rattle.std.specs.Prelude.{◌≡◌, ℕ, Bool, List, [], ◌∷◌, Option, Some, None}
use Rattle.tl_beat.specs.declared.beat.Beat.{Beat}
use Rattle.tl_beat.specs.declared.beat.Link.{Link}
use Rattle.tl_beat.specs.statement.Line.{Spells}
use Rattle.tl_lines.specs.code.Watching.{KnowsTraceOf}
use Rattle.tl_lines.specs.statement.JudgedSo.{said_by}
use Rattle.tl_lines.specs.declared.fault.Fault.{Fault}
use Rattle.tl_lines.specs.statement.Judged.{IsAtFault}
use Rattle.tl_lines.specs.code.TraceJudging.{KnowsBeats}
use Rattle.tl_lines.specs.declared.link_lines.LinkJudge.{LinkJudge}
use Rattle.tl_lines.specs.declared.link_lines.LinkJudge.TheVariants.{Waiting, Four, Eight, Sixteen}
use Rattle.tl_lines.specs.declared.link_lines.LinkLines.{LinkLines}
use Rattle.tl_lines.specs.declared.trace_judge.TraceJudge.{TraceJudge}
use Rattle.tl_lines.specs.statement.JudgedLinks.{faults_by}
use Rattle.tl_lines.specs.statement.LinksHeader.{NamesAllowed}
use Rattle.tl_params.specs.declared.level.Level.{Level}
use Rattle.tl_params.specs.declared.liberties.Liberties.{Liberties}
use Rattle.tl_params.specs.declared.width.Width.{Width}
use Rattle.tl_rules.specs.statement.Conformance.{Trace}

-- the answer of a judge that knows a trace to the next line: its beat isn't at fault, and the judge knows
-- the longer trace, or the line is at fault, and the judge knows the trace as before
abbrev pub Watches : {w : ℕ} → Bool → TraceJudge w → TraceJudge w → List ℕ → Option Fault → Type 0
Watches {w} together old new line None =
    (levels : List Level) (may : Liberties) (t : Trace w) → KnowsBeats together old levels may t
    → (link : Link) × (beat : Beat w) × Spells line link beat
    × (faults_by together w levels may (link, beat) t ≡ None)
    × KnowsBeats together new levels may ((link, beat) ∷ t)
Watches {w} together old new line (Some fault) =
    (levels : List Level) (may : Liberties) (t : Trace w) → KnowsBeats together old levels may t
    → IsAtFault (faults_by together) levels may t line fault × KnowsBeats together new levels may t

-- these lines, a header and beats that aren't at fault, are judged with this text so far, under these further liberties
abbrev pub KnowsTrace : {w : ℕ} → Bool → Liberties → TraceJudge w → List (List ℕ) → List ℕ → Type 0
KnowsTrace together allow judge =
    KnowsTraceOf (KnowsBeats together judge) (NamesAllowed allow) (faults_by together) (said_by together)

-- after these lines without a fault, this text has been appended
abbrev pub KnowsJudge : Bool → Liberties → LinkJudge → List (List ℕ) → List ℕ → Type 0
KnowsJudge together allow (Waiting alloc) lines text = (lines ≡ []) × (text ≡ [])
KnowsJudge together allow (Four judge) lines text = KnowsTrace together allow judge lines text
KnowsJudge together allow (Eight judge) lines text = KnowsTrace together allow judge lines text
KnowsJudge together allow (Sixteen judge) lines text = KnowsTrace together allow judge lines text

-- whether the links are judged together, and their further liberties
abbrev pub judged_for : LinkLines → Bool × Liberties
judged_for h = (h.together, h.allow)

abbrev pub KnowsLines : LinkLines → List (List ℕ) → List ℕ → Type 0
KnowsLines h lines text = KnowsJudge h.together h.allow h.judge lines text

-- what the first line begins: a judge that knows the header, or none if it is no header
abbrev pub Begins : Bool → Liberties → List ℕ → Option LinkJudge → Type 0
Begins together allow line None =
    (width : Width) (may : Liberties) (levels : List Level) → ¬ NamesAllowed allow line width may levels
Begins together allow line (Some judge) = KnowsJudge together allow judge (line ∷ []) []
