-- What is known while a trace is judged and gathered.
use Rattle.std.specs.Prelude.{◌≡◌, ℕ, ◌+◌, false, List, [], ◌∷◌, ◌++◌, length, Option, Some, None}
use Rattle.tl_params.specs.declared.level.Level.{Level}
use Rattle.tl_params.specs.declared.liberties.Liberties.{Liberties}
use Rattle.tl_params.specs.declared.width.Width.{Width}
use Rattle.tl_rules.specs.statement.Conformance.{Trace}
use Rattle.tl_rules.specs.statement.History.{held}
use Rattle.tl_rules.specs.statement.Liberties.{held_under}
use Rattle.tl_chart.specs.code.Gathered.{Gathers, drawn_of}
use Rattle.tl_chart.specs.declared.arrow.Arrow.{Arrow}
use Rattle.tl_chart.specs.declared.gatherer.Gatherer.{Gatherer}
use Rattle.tl_chart.specs.statement.Drawn.{Drawn}
use Rattle.tl_explain.specs.statement.Evidence.{next_line}
use Rattle.tl_monitor.specs.statement.Knows.{KnowsUnder}
use Rattle.tl_engine.specs.declared.charting.Charting.{Charting}
use Rattle.tl_engine.specs.declared.charting.ChartJudge.{ChartJudge}
use Rattle.tl_engine.specs.declared.charting.ChartJudge.TheVariants.{Waiting, Four, Eight, Sixteen}
use Rattle.tl_engine.specs.declared.charting.ChartLines.{ChartLines}
use Rattle.tl_lines.specs.declared.fault.Fault.{Fault}
use Rattle.tl_lines.specs.declared.status.Status.{Status}
use Rattle.tl_lines.specs.declared.status.Status.TheVariants.{Broken}
use Rattle.tl_engine.specs.statement.Charted.{Draws, DrawsAfter}
use Rattle.tl_lines.specs.statement.Fault.{fault_text}
use Rattle.tl_lines.specs.statement.Judged.{JudgedAfter, clean_text}
use Rattle.tl_lines.specs.statement.JudgedLinks.{JudgedLinks, faults_by}
use Rattle.tl_lines.specs.statement.LinksHeader.{NamesAllowed}

-- a header of these links has been read, and nothing else
pub record IsBegun {w : ℕ} (c : Charting w) (levels : List Level) (may : Liberties) : Type 0 where
  pub known : KnowsUnder c.monitor levels may [] false
  pub gathers : Gathers {w = w} (held_under may) c.gatherer []
  pub many : length c.gatherer.links.items ≡ length levels
  pub unfaulted : c.fault ≡ None
  pub number : c.count ≡ 1

-- These lines, a header and beats that aren't at fault, are judged with this text so far, if these further liberties
-- are allowed, and drawn so that what follows is drawn after it; their beats are known and gathered.
pub record KnowsCharting {w : ℕ} (allow : Liberties) (c : Charting w) (lines : List (List ℕ)) (text : List ℕ) : Type 0
  where
    pub levels : List Level
    pub may : Liberties
    pub trace : Trace w
    pub known : KnowsUnder c.monitor levels may trace false
    pub gathers : Gathers (held_under may) c.gatherer trace
    pub many : length c.gatherer.links.items ≡ length levels
    pub unfaulted : c.fault ≡ None
    pub number : c.count + 1 ≡ next_line trace
    pub counted : length lines ≡ length trace + 1
    pub before : (more : List (List ℕ)) (rest : List ℕ) (status : Status)
        → JudgedAfter (faults_by false) clean_text levels may trace more rest status
        → JudgedLinks false allow (lines ++ more) (text ++ rest) status
    pub draws : (more : List (List ℕ)) (d : Drawn) (arrow : Option Arrow)
        → DrawsAfter c.gatherer.window levels may trace more d arrow
        → Draws allow c.gatherer.window (lines ++ more) d arrow

-- what was gathered is drawn of these lines
abbrev pub EndsCharting : {w : ℕ} → Liberties → Charting w → List (List ℕ) → Type 0
EndsCharting allow c lines = Draws allow c.gatherer.window lines (drawn_of c.gatherer) c.fault

-- The line of the next beat was read: it isn't at fault, and one line more is known, or it is, whatever follows it, and
-- what was gathered is drawn of these lines.
abbrev pub GathersLine : {w : ℕ} → Liberties → Charting w → Charting w → List ℕ → Option Fault → Type 0
GathersLine allow old new line None =
    (lines : List (List ℕ)) (text : List ℕ) → KnowsCharting allow old lines text
    → KnowsCharting allow new (lines ++ line ∷ []) text
GathersLine allow old new line (Some fault) =
    (lines : List (List ℕ)) (before was : List ℕ) → KnowsCharting allow old lines (before ++ was)
    → (more : List (List ℕ))
    → JudgedLinks false allow (lines ++ line ∷ more) (before ++ (was ++ fault_text (length lines + 1) fault)) Broken
    × EndsCharting allow new (lines ++ line ∷ more)

-- what was gathered, and the beat at fault
abbrev pub gatherer_in : ChartJudge → Gatherer
gatherer_in (Waiting alloc gatherer) = gatherer
gatherer_in (Four c) = c.gatherer
gatherer_in (Eight c) = c.gatherer
gatherer_in (Sixteen c) = c.gatherer

abbrev pub fault_of_chart : ChartJudge → Option Arrow
fault_of_chart (Waiting alloc gatherer) = None
fault_of_chart (Four c) = c.fault
fault_of_chart (Eight c) = c.fault
fault_of_chart (Sixteen c) = c.fault

-- these lines are known with this text
abbrev pub KnowsJudge : Liberties → ChartJudge → List (List ℕ) → List ℕ → Type 0
KnowsJudge allow (Waiting alloc gatherer) lines text = (lines ≡ []) × (text ≡ []) × Gathers {w = 4} held gatherer []
KnowsJudge allow (Four c) lines text = KnowsCharting allow c lines text
KnowsJudge allow (Eight c) lines text = KnowsCharting allow c lines text
KnowsJudge allow (Sixteen c) lines text = KnowsCharting allow c lines text

abbrev pub KnowsChart : ChartLines → List (List ℕ) → List ℕ → Type 0
KnowsChart h lines text = KnowsJudge h.allow h.judge lines text

-- what was gathered is drawn of these lines
abbrev pub EndsJudge : Liberties → ChartJudge → List (List ℕ) → Type 0
EndsJudge allow j lines = Draws allow (gatherer_in j).window lines (drawn_of (gatherer_in j)) (fault_of_chart j)

abbrev pub EndsChart : ChartLines → List (List ℕ) → Type 0
EndsChart h lines = EndsJudge h.allow h.judge lines

-- what the first line begins: a judge that knows the header, or none if it is no header
abbrev pub BeginsChart : Liberties → List ℕ → Option ChartJudge → Type 0
BeginsChart allow line None =
    (width : Width) (may : Liberties) (levels : List Level) → ¬ NamesAllowed allow line width may levels
BeginsChart allow line (Some judge) = KnowsJudge allow judge (line ∷ []) []
