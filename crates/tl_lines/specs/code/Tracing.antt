-- The trace of the lines that were judged, and what a judge says of the next line.
use Rattle.std.specs.Prelude.{◌≡◌, ℕ, Bool, List, [], ◌∷◌, Option}
use Rattle.std.specs.Prelude.{Some, None}
use Rattle.tl_params.specs.declared.level.Level.{Level}
use Rattle.tl_params.specs.declared.liberties.Liberties.{Liberties}
use Rattle.tl_rules.specs.statement.Conformance.{Trace}
use Rattle.tl_lines.specs.code.LinkWatching.{Watches}
use Rattle.tl_lines.specs.code.TraceJudging.{KnowsBeats}
use Rattle.tl_lines.specs.declared.fault.Fault.{Fault}
use Rattle.tl_lines.specs.declared.fault.Fault.TheVariants.{Header}
use Rattle.tl_lines.specs.declared.link_lines.LinkJudge.{LinkJudge}
use Rattle.tl_lines.specs.declared.link_lines.LinkJudge.TheVariants.{Waiting, Four, Eight, Sixteen}
use Rattle.tl_lines.specs.declared.link_lines.LinkLines.{LinkLines}
use Rattle.tl_lines.specs.declared.trace_judge.TraceJudge.{TraceJudge}
use Rattle.tl_lines.specs.statement.SpelledTrace.{SpellsTrace}

-- the judge knows the trace of these lines, if this is allowed in addition to the liberties that their header names
pub record KnowsSpelled {w : ℕ} (together : Bool) (allow : Liberties) (judge : TraceJudge w) (lines : List (List ℕ))
    : Type 0 where
  pub levels : List Level
  pub may : Liberties
  pub trace : Trace w
  pub known : KnowsBeats together judge levels may trace
  pub spelled : SpellsTrace allow lines levels may trace

-- so does a judge that has read a header
abbrev pub TracedBy : Bool → Liberties → LinkJudge → List (List ℕ) → Type 0
TracedBy together allow (Waiting alloc) lines = lines ≡ []
TracedBy together allow (Four judge) lines = KnowsSpelled together allow judge lines
TracedBy together allow (Eight judge) lines = KnowsSpelled together allow judge lines
TracedBy together allow (Sixteen judge) lines = KnowsSpelled together allow judge lines

abbrev pub KnowsTraced : LinkLines → List (List ℕ) → Type 0
KnowsTraced h lines = TracedBy h.together h.allow h.judge lines

-- what a judge says of the next line: the first is a header, or at fault; of another it says so
abbrev pub WatchesBy : Bool → Liberties → LinkJudge → LinkJudge → List ℕ → Option Fault → Type 0
WatchesBy together allow (Waiting alloc) new line None = TracedBy together allow new (line ∷ [])
WatchesBy together allow (Waiting alloc) new line (Some fault) = fault ≡ Header
WatchesBy together allow (Four old) (Four new) line fault = Watches together old new line fault
WatchesBy together allow (Eight old) (Eight new) line fault = Watches together old new line fault
WatchesBy together allow (Sixteen old) (Sixteen new) line fault = Watches together old new line fault
WatchesBy together allow _ _ line fault = ⊥

abbrev pub WatchesLine : LinkLines → LinkLines → List ℕ → Option Fault → Type 0
WatchesLine old new line fault = WatchesBy old.together old.allow old.judge new.judge line fault
