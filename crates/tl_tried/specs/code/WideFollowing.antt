-- What is known while the situations of a trace of any version are counted, line by line.
use Rattle.std.specs.Prelude.{◌≡◌, ◌+◌, ℕ, false, List, [], ◌∷◌, length, map, Option, Some, None}
use Rattle.std.specs.declared.alloc.Global.{Global}
use Rattle.tl_cover.specs.statement.Covers.{Covers, rows_in}
use Rattle.tl_lines.specs.declared.fault.Fault.{Fault}
use Rattle.tl_lines.specs.declared.trace_judge.TraceJudge.TheVariants.{OfLinks}
use Rattle.tl_params.specs.declared.level.Level.{Level}
use Rattle.tl_params.specs.declared.liberties.Liberties.{Liberties}
use Rattle.tl_tried.specs.code.Following.{KnowsLines, found_of_lines}
use Rattle.tl_tried.specs.code.WideCover.{TakesWideLine, wide_found_in}
use Rattle.tl_tried.specs.declared.cover_lines.CoverLines.{CoverLines}
use Rattle.tl_tried.specs.declared.cover_lines.Following.{Following}
use Rattle.tl_tried.specs.declared.cover_lines.Following.TheVariants.{Waiting}
use Rattle.tl_tried.specs.declared.cover_trace.CoverTrace.{CoverTrace}
use Rattle.tl_tried.specs.declared.cover_trace.WideFollowing.{WideFollowing}
use Rattle.tl_tried.specs.declared.cover_trace.WideFollowing.TheVariants.{Four, Eight, Sixteen, ThirtyTwo, SixtyFour}
use Rattle.tl_tried.specs.declared.wide_covering.WideCovering.{WideCovering}
use Rattle.tl_tried.specs.statement.Covered.{Found}
use Rattle.tl_tried.specs.statement.WideCovered.{TraceCovered, at_wide_line}
use Rattle.tl_wide.specs.declared.width.WideWidth.{WideWidth}
use Rattle.tl_wide.specs.declared.width.WideWidth.TheVariants as width
use Rattle.tl_wide.specs.statement.Narrowed.{narrowed}
use Rattle.tl_wide.specs.statement.Width.{part_width, wide_bytes_of}
use Rattle.tl_wide_lines.specs.code.FirstFault.{beats_taken}
use Rattle.tl_wide_lines.specs.code.WideWatching.{KnowsWide, NoneWide}
use Rattle.tl_wide_lines.specs.declared.judge.WideJudge.{WideJudge}
use Rattle.tl_wide_lines.specs.statement.WideHeader.{NamesWide}

-- the judge in a covering of a wide trace
abbrev pub judge_in : {p : ℕ} → WideCovering p → WideJudge p
judge_in c = record { narrower = c.narrower; judge = OfLinks c.covering.monitor }

-- These lines, a header and those of wide beats that aren't at fault, are judged, and the beats that they become are
-- covered. Each row has the line of a wide beat.
pub record KnowsCovering (wide : WideWidth) (allow : Liberties) (c : WideCovering (part_width (wide_bytes_of wide)))
    (lines : List (List ℕ)) (text : List ℕ) : Type 0 where
  pub judged : KnowsWide wide false allow (judge_in c) lines text
  pub covers : Covers c.covering judged.levels judged.may (beats_taken judged.trace) false
  pub rows_are : c.rows.items ≡ map (at_wide_line (narrowed judged.trace)) (rows_in c.covering)
  pub line_is : c.line ≡ length judged.trace + 1

abbrev pub KnowsWideFollowing : Liberties → WideFollowing → List (List ℕ) → List ℕ → Type 0
KnowsWideFollowing allow (Four c) lines text = KnowsCovering width.Four allow c lines text
KnowsWideFollowing allow (Eight c) lines text = KnowsCovering width.Eight allow c lines text
KnowsWideFollowing allow (Sixteen c) lines text = KnowsCovering width.Sixteen allow c lines text
KnowsWideFollowing allow (ThirtyTwo c) lines text = KnowsCovering width.ThirtyTwo allow c lines text
KnowsWideFollowing allow (SixtyFour c) lines text = KnowsCovering width.SixtyFour allow c lines text

-- the situations and the counts of a wide trace, by the width of a beat
abbrev pub wide_found_by : WideFollowing → Found
wide_found_by (Four c) = wide_found_in c
wide_found_by (Eight c) = wide_found_in c
wide_found_by (Sixteen c) = wide_found_in c
wide_found_by (ThirtyTwo c) = wide_found_in c
wide_found_by (SixtyFour c) = wide_found_in c

-- what a covering of each width says of the next line
abbrev pub TakesLine : WideFollowing → WideFollowing → List ℕ → Option Fault → Type 0
TakesLine (Four old) (Four new) line answer = TakesWideLine 4 old new line answer
TakesLine (Eight old) (Eight new) line answer = TakesWideLine 8 old new line answer
TakesLine (Sixteen old) (Sixteen new) line answer = TakesWideLine 16 old new line answer
TakesLine (ThirtyTwo old) (ThirtyTwo new) line answer = TakesWideLine 32 old new line answer
TakesLine (SixtyFour old) (SixtyFour new) line answer = TakesWideLine 64 old new line answer
TakesLine _ _ line answer = ⊥

-- what the first line begins: a covering that knows the header, or none if it is no header of wide beats
abbrev pub BeginsWide : Liberties → List ℕ → Option WideFollowing → Type 0
BeginsWide allow line None =
    (wide : WideWidth) (may : Liberties) (levels : List Level) → ¬ NamesWide allow line wide may levels
BeginsWide allow line (Some following) = KnowsWideFollowing allow following (line ∷ []) []

-- after these lines without a fault, this text has been appended
abbrev pub KnowsBy : CoverLines → Option WideFollowing → List (List ℕ) → List ℕ → Type 0
KnowsBy narrow None lines text = KnowsLines narrow lines text × NoneWide narrow.allow lines
KnowsBy narrow (Some following) lines text = KnowsWideFollowing narrow.allow following lines text

abbrev pub KnowsCover : CoverTrace → List (List ℕ) → List ℕ → Type 0
KnowsCover h lines text = KnowsBy h.narrow h.wide lines text

-- the situations and the counts, if a header was read
abbrev pub found_of_either : CoverLines → Option WideFollowing → Found
found_of_either narrow None = found_of_lines narrow
found_of_either narrow (Some following) = wide_found_by following

abbrev pub found_of_trace : CoverTrace → Found
found_of_trace h = found_of_either h.narrow h.wide

-- the allocator, if no line has been read
abbrev pub waiting_by : Option WideFollowing → Following → Option Global
waiting_by None (Waiting alloc) = Some alloc
waiting_by _ _ = None

abbrev pub waiting_in : CoverTrace → Option Global
waiting_in h = waiting_by h.wide h.narrow.following

-- they are those of these lines
abbrev pub EndsTrace : CoverTrace → List (List ℕ) → Type 0
EndsTrace h lines = TraceCovered h.narrow.allow lines (found_of_trace h)

-- what a line begins after those that a handler has judged: a covering of wide beats, or none; then it is the header of
-- none if it is the first
abbrev pub BeginsHere : CoverTrace → List ℕ → Option WideFollowing → Type 0
BeginsHere h line None = (text : List ℕ) → KnowsLines h.narrow [] text → BeginsWide h.narrow.allow line None
BeginsHere h line (Some following) =
    (alloc : Global) × (h.narrow.following ≡ Waiting alloc)
    × KnowsWideFollowing h.narrow.allow following (line ∷ []) []
