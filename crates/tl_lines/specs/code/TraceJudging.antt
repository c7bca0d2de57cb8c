-- What a judge of the links of a trace knows, under their liberties.
use Rattle.std.specs.Prelude.{◌≡◌, ◌∷◌, ℕ, Bool, true, false, List, Option, Some, None}
use Rattle.tl_beat.specs.declared.beat.Beat.{Beat}
use Rattle.tl_beat.specs.declared.beat.Link.{Link}
use Rattle.tl_lines.specs.declared.fault.Fault.{Fault}
use Rattle.tl_lines.specs.declared.links_header.LinksHeader.{LinksHeader}
use Rattle.tl_monitor.specs.statement.Knows.{KnowsUnder}
use Rattle.tl_params.specs.declared.level.Level.{Level}
use Rattle.tl_params.specs.declared.liberties.Liberties.{Liberties}
use Rattle.tl_params.specs.declared.width.Width.{Width}
use Rattle.tl_lines.specs.declared.trace_judge.TraceJudge.{TraceJudge}
use Rattle.tl_lines.specs.declared.trace_judge.TraceJudge.TheVariants.{OfAll, OfLinks}
use Rattle.tl_lines.specs.statement.JudgedLinks.{faults_by}
use Rattle.tl_lines.specs.statement.LinksHeader.{NamesAllowed}
use Rattle.tl_rules.specs.statement.Conformance.{Trace}
use Rattle.tl_together.specs.statement.Knows.{Knows}

-- the judge knows the beats of a trace, none of which was at fault
abbrev pub KnowsBeats : {w : ℕ} → Bool → TraceJudge w → List Level → Liberties → Trace w → Type 0
KnowsBeats false (OfLinks monitor) levels may t = KnowsUnder monitor levels may t false
KnowsBeats true (OfAll judge) levels may t = Knows judge levels may t false
KnowsBeats _ _ levels may t = ⊥

-- the judge's answer to a beat after a trace: it isn't at fault, and the judge knows the longer trace; or it is
-- for this, and the judge knows the trace as before
abbrev pub JudgesBeat : {w : ℕ} → Bool → TraceJudge w → List Level → Liberties → Trace w → Link × Beat w → Option Fault
    → Type 0
JudgesBeat {w} together new levels may t x None =
    (faults_by together w levels may x t ≡ None) × KnowsBeats together new levels may (x ∷ t)
JudgesBeat {w} together new levels may t x (Some fault) =
    (faults_by together w levels may x t ≡ Some fault) × KnowsBeats together new levels may t

-- the header of a trace that is judged so, or there is none
abbrev pub ReadsHeader : Liberties → List ℕ → Option LinksHeader → Type 0
ReadsHeader allow line None = (width : Width) (may : Liberties) (levels : List Level)
    → ¬ NamesAllowed allow line width may levels
ReadsHeader allow line (Some h) = NamesAllowed allow line h.width h.may h.levels.items
