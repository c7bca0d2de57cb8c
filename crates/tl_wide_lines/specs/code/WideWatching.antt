-- What a handler of traces knows whose header may be of any version.
use Rattle.std.specs.Prelude.{◌≡◌, ◌++◌, ℕ, Bool, true, false, List, [], ◌∷◌, length, Option, Some, None, ⊤}
use Rattle.std.specs.declared.alloc.Global.{Global}
use Rattle.tl_lines.specs.code.LinkWatching.{KnowsLines, judged_for}
use Rattle.tl_lines.specs.code.TraceJudging.{KnowsBeats}
use Rattle.tl_lines.specs.declared.fault.Fault.{Fault}
use Rattle.tl_lines.specs.declared.link_lines.LinkJudge.{LinkJudge}
use Rattle.tl_lines.specs.declared.link_lines.LinkJudge.TheVariants.{Waiting}
use Rattle.tl_lines.specs.declared.link_lines.LinkLines.{LinkLines}
use Rattle.tl_params.specs.declared.level.Level.{Level}
use Rattle.tl_params.specs.declared.liberties.Liberties.{Liberties}
use Rattle.tl_wide.specs.declared.width.WideWidth.{WideWidth}
use Rattle.tl_wide.specs.declared.width.WideWidth.TheVariants as width
use Rattle.tl_wide.specs.statement.Naming.{WideTrace}
use Rattle.tl_wide.specs.statement.Narrowing.{Follows}
use Rattle.tl_wide.specs.statement.Width.{part_width, wide_bytes_of}
use Rattle.tl_wide_lines.specs.code.FirstFault.{IsTaken, beats_taken, behind}
use Rattle.tl_wide_lines.specs.code.WideJudging.{JudgesWideLine}
use Rattle.tl_wide_lines.specs.declared.judge.WideJudge.{WideJudge}
use Rattle.tl_wide_lines.specs.declared.lines.TraceLines.{TraceLines}
use Rattle.tl_wide_lines.specs.declared.lines.WideLinks.{WideLinks}
use Rattle.tl_wide_lines.specs.declared.lines.WideLinks.TheVariants.{Four, Eight, Sixteen, ThirtyTwo, SixtyFour}
use Rattle.tl_wide_lines.specs.statement.JudgedTrace.{BeginWith}
use Rattle.tl_wide_lines.specs.statement.WideHeader.{NamesWide}

-- These lines are a header and those of wide beats that aren't at fault, and the judge knows the beats. Nothing has
-- been
-- said.
pub record KnowsWide (wide : WideWidth) (together : Bool) (allow : Liberties)
    (judge : WideJudge (part_width (wide_bytes_of wide))) (lines : List (List ℕ)) (text : List ℕ) : Type 0 where
  pub header : List ℕ
  pub spelled : List (List ℕ)
  pub may : Liberties
  pub levels : List Level
  pub trace : WideTrace (wide_bytes_of wide)
  pub are_lines : lines ≡ header ∷ spelled
  pub named : NamesWide allow header wide may levels
  pub begins : (more : List (List ℕ)) → BeginWith trace (spelled ++ more) more
  pub counted : length spelled ≡ length trace
  pub follows : Follows judge.narrower (behind trace [])
  pub known : KnowsBeats together judge.judge levels may (beats_taken trace)
  pub taken : IsTaken together may levels trace
  pub silent : text ≡ []

abbrev pub KnowsWideLinks : Bool → Liberties → WideLinks → List (List ℕ) → List ℕ → Type 0
KnowsWideLinks together allow (Four judge) lines text = KnowsWide width.Four together allow judge lines text
KnowsWideLinks together allow (Eight judge) lines text = KnowsWide width.Eight together allow judge lines text
KnowsWideLinks together allow (Sixteen judge) lines text = KnowsWide width.Sixteen together allow judge lines text
KnowsWideLinks together allow (ThirtyTwo judge) lines text = KnowsWide width.ThirtyTwo together allow judge lines text
KnowsWideLinks together allow (SixtyFour judge) lines text = KnowsWide width.SixtyFour together allow judge lines text

-- what a judge of each width says of the next line
abbrev pub JudgesLine : WideLinks → WideLinks → List ℕ → Option Fault → Type 0
JudgesLine (Four old) (Four new) line answer = JudgesWideLine 4 old new line answer
JudgesLine (Eight old) (Eight new) line answer = JudgesWideLine 8 old new line answer
JudgesLine (Sixteen old) (Sixteen new) line answer = JudgesWideLine 16 old new line answer
JudgesLine (ThirtyTwo old) (ThirtyTwo new) line answer = JudgesWideLine 32 old new line answer
JudgesLine (SixtyFour old) (SixtyFour new) line answer = JudgesWideLine 64 old new line answer
JudgesLine _ _ line answer = ⊥

-- the first of these lines, if there is one, is no header of wide beats
abbrev pub NoneWide : Liberties → List (List ℕ) → Type 0
NoneWide allow [] = ⊤
NoneWide allow (line ∷ lines) =
    (wide : WideWidth) (may : Liberties) (levels : List Level) → ¬ NamesWide allow line wide may levels

-- what the first line begins: a judge that knows the header, or none if it is no header of wide beats
abbrev pub BeginsWide : Bool → Liberties → List ℕ → Option WideLinks → Type 0
BeginsWide together allow line None = NoneWide allow (line ∷ [])
BeginsWide together allow line (Some links) = KnowsWideLinks together allow links (line ∷ []) []

-- after these lines without a fault, this text has been appended
abbrev pub KnowsBy : LinkLines → Option WideLinks → List (List ℕ) → List ℕ → Type 0
KnowsBy narrow None lines text = KnowsLines narrow lines text × NoneWide narrow.allow lines
KnowsBy narrow (Some links) lines text = KnowsWideLinks narrow.together narrow.allow links lines text

abbrev pub KnowsTraceLines : TraceLines → List (List ℕ) → List ℕ → Type 0
KnowsTraceLines h lines text = KnowsBy h.narrow h.wide lines text

-- no header has been read
abbrev pub is_waiting : LinkJudge → Bool
is_waiting (Waiting alloc) = true
is_waiting _ = false

abbrev pub waits_by : LinkLines → Option WideLinks → Bool
waits_by narrow None = is_waiting narrow.judge
waits_by narrow (Some links) = false

abbrev pub waits : TraceLines → Bool
waits h = waits_by h.narrow h.wide

-- whether the links are judged together, and their further liberties
abbrev pub trace_judged_for : TraceLines → Bool × Liberties
trace_judged_for h = judged_for h.narrow

-- what a line begins after those that a handler has judged: a judge of wide beats, or none, and then it is the header
-- of
-- none if it is the first
abbrev pub BeginsHere : TraceLines → List ℕ → Option WideLinks → Type 0
BeginsHere h line None =
    (text : List ℕ) → KnowsLines h.narrow [] text → BeginsWide h.narrow.together h.narrow.allow line None
BeginsHere h line (Some links) =
    (alloc : Global) × (h.narrow.judge ≡ Waiting alloc)
    × KnowsWideLinks h.narrow.together h.narrow.allow links (line ∷ []) []
