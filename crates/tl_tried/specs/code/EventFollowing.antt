-- What is known while the situations of a trace of any version, with or without commits, are counted, line by line.
use Rattle.std.specs.Prelude.{◌≡◌, ◌+◌, ℕ, false, List, [], ◌∷◌, ◌++◌, length, map, Option, Some, None}
use Rattle.tl_commit_lines.specs.code.EventWatching.{KnowsEventTrace, NoneMarked}
use Rattle.tl_commit_lines.specs.declared.judge.EventJudge.{EventJudge}
use Rattle.tl_commit_lines.specs.declared.judge.EventJudge.TheVariants.{OfLinks}
use Rattle.tl_commit_lines.specs.statement.MarkedHeader.{levels_of}
use Rattle.tl_commits.specs.statement.Events.{beats_of}
use Rattle.tl_cover.specs.statement.Covers.{Covers, rows_in}
use Rattle.tl_lines.specs.declared.fault.Fault.{Fault}
use Rattle.tl_lines.specs.statement.Width.{bytes_of}
use Rattle.tl_params.specs.declared.liberties.Liberties.{Liberties}
use Rattle.tl_params.specs.declared.width.Width.{Width}
use Rattle.tl_params.specs.declared.width.Width.TheVariants as width
use Rattle.tl_tried.specs.code.EventCover.{CoversEvents, ReadsEvent, events_found_in}
use Rattle.tl_tried.specs.code.WideCover.{TakesEventLine, wide_found_in}
use Rattle.tl_tried.specs.code.WideFollowing.{KnowsCover, found_of_trace}
use Rattle.tl_tried.specs.declared.cover_events.CoverEvents.{CoverEvents}
use Rattle.tl_tried.specs.declared.cover_events.EventFollowing.{EventFollowing}
use Rattle.tl_tried.specs.declared.cover_events.EventFollowing.TheVariants.{Four, Eight, Sixteen, WideFour, WideEight}
use Rattle.tl_tried.specs.declared.cover_events.EventFollowing.TheVariants.{WideSixteen, WideSixtyFour, WideThirtyTwo}
use Rattle.tl_tried.specs.declared.cover_trace.CoverTrace.{CoverTrace}
use Rattle.tl_tried.specs.declared.event_covering.EventCovering.{EventCovering}
use Rattle.tl_tried.specs.statement.Covered.{Found}
use Rattle.tl_tried.specs.declared.wide_covering.WideCovering.{WideCovering}
use Rattle.tl_tried.specs.statement.EventCovered.{CoveredEvents}
use Rattle.tl_tried.specs.statement.WideCovered.{at_wide_line}
use Rattle.tl_tried.specs.statement.WideEventCovered.{AnyCovered, CoveredWideEvents, parts_each}
use Rattle.tl_wide.specs.declared.width.WideWidth.{WideWidth}
use Rattle.tl_wide.specs.declared.width.WideWidth.TheVariants as wide_width
use Rattle.tl_wide.specs.statement.Width.{part_width, wide_bytes_of}
use Rattle.tl_wide_event_lines.specs.code.EventWatching.{KnowsWideEvents, NoneWideMarked}
use Rattle.tl_wide_event_lines.specs.declared.judge.WideEventJudge.{WideEventJudge}
use Rattle.tl_wide_events.specs.statement.Narrowed.{narrowed}

-- the judge in a covering of a trace with commits
abbrev pub judge_of : {w : ℕ} → EventCovering w → EventJudge w
judge_of c = OfLinks c.covering.monitor

-- These lines, a header and those of events that aren't at fault, are judged, and covered so that what follows is covered
-- after them.
pub record KnowsEventCovering (wide : Width) (allow : Liberties) (c : EventCovering (bytes_of wide))
    (lines : List (List ℕ)) (text : List ℕ) : Type 0 where
  pub judged : KnowsEventTrace wide false allow (judge_of c) lines text
  pub known : CoversEvents c judged.links judged.may judged.events
  pub before : (more : List (List ℕ)) (found : Found)
      → CoveredEvents judged.links judged.may judged.events more found
      → CoveredEvents {w = bytes_of wide} judged.links judged.may [] (judged.spelled ++ more) found

-- the judge in a covering of a wide trace with commits
abbrev pub event_judge_in : {p : ℕ} → WideCovering p → WideEventJudge p
event_judge_in c = record { narrower = c.narrower; judge = OfLinks c.covering.monitor }

-- The same of a wide trace. The beats that its events become are covered, and each row has the line of a wide event.
pub record KnowsWideEventCovering (wide : WideWidth) (allow : Liberties)
    (c : WideCovering (part_width (wide_bytes_of wide))) (lines : List (List ℕ)) (text : List ℕ) : Type 0 where
  pub judged : KnowsWideEvents wide false allow (event_judge_in c) lines text
  pub covers : Covers c.covering (levels_of judged.links) judged.may (beats_of (narrowed judged.trace)) false
  pub rows_are : c.rows.items ≡ map (at_wide_line (parts_each judged.trace)) (rows_in c.covering)
  pub line_is : c.line ≡ length judged.trace + 1
  pub before : (more : List (List ℕ)) (found : Found)
      → CoveredWideEvents judged.links judged.may judged.trace more found
      → CoveredWideEvents {w = wide_bytes_of wide} judged.links judged.may [] (judged.spelled ++ more) found

abbrev pub KnowsEventFollowing : Liberties → EventFollowing → List (List ℕ) → List ℕ → Type 0
KnowsEventFollowing allow (Four c) lines text = KnowsEventCovering width.Four allow c lines text
KnowsEventFollowing allow (Eight c) lines text = KnowsEventCovering width.Eight allow c lines text
KnowsEventFollowing allow (Sixteen c) lines text = KnowsEventCovering width.Sixteen allow c lines text
KnowsEventFollowing allow (WideFour c) lines text = KnowsWideEventCovering wide_width.Four allow c lines text
KnowsEventFollowing allow (WideEight c) lines text = KnowsWideEventCovering wide_width.Eight allow c lines text
KnowsEventFollowing allow (WideSixteen c) lines text = KnowsWideEventCovering wide_width.Sixteen allow c lines text
KnowsEventFollowing allow (WideThirtyTwo c) lines text = KnowsWideEventCovering wide_width.ThirtyTwo allow c lines text
KnowsEventFollowing allow (WideSixtyFour c) lines text = KnowsWideEventCovering wide_width.SixtyFour allow c lines text

-- the situations and the counts of a trace with commits, by the width of a beat
abbrev pub events_found_by : EventFollowing → Found
events_found_by (Four c) = events_found_in c
events_found_by (Eight c) = events_found_in c
events_found_by (Sixteen c) = events_found_in c
events_found_by (WideFour c) = wide_found_in c
events_found_by (WideEight c) = wide_found_in c
events_found_by (WideSixteen c) = wide_found_in c
events_found_by (WideThirtyTwo c) = wide_found_in c
events_found_by (WideSixtyFour c) = wide_found_in c

-- what a covering of each width says of the next line
abbrev pub ReadsNext : EventFollowing → EventFollowing → List ℕ → Option Fault → Type 0
ReadsNext (Four old) (Four new) line answer = ReadsEvent old new line answer
ReadsNext (Eight old) (Eight new) line answer = ReadsEvent old new line answer
ReadsNext (Sixteen old) (Sixteen new) line answer = ReadsEvent old new line answer
ReadsNext (WideFour old) (WideFour new) line answer = TakesEventLine 4 old new line answer
ReadsNext (WideEight old) (WideEight new) line answer = TakesEventLine 8 old new line answer
ReadsNext (WideSixteen old) (WideSixteen new) line answer = TakesEventLine 16 old new line answer
ReadsNext (WideThirtyTwo old) (WideThirtyTwo new) line answer = TakesEventLine 32 old new line answer
ReadsNext (WideSixtyFour old) (WideSixtyFour new) line answer = TakesEventLine 64 old new line answer
ReadsNext _ _ line answer = ⊥

-- what the first line begins: a covering that knows the header, or none if it is no header of a trace with commits
abbrev pub BeginsEvents : Liberties → List ℕ → Option EventFollowing → Type 0
BeginsEvents allow line None = NoneMarked allow (line ∷ [])
BeginsEvents allow line (Some following) = KnowsEventFollowing allow following (line ∷ []) []

-- the same of a header of a wide trace with commits, and of either
abbrev pub BeginsWideEvents : Liberties → List ℕ → Option EventFollowing → Type 0
BeginsWideEvents allow line None = NoneWideMarked allow (line ∷ [])
BeginsWideEvents allow line (Some following) = KnowsEventFollowing allow following (line ∷ []) []

-- the first of these lines, if there is one, is no header of a trace with commits, narrow or wide
abbrev pub NoneEvents : Liberties → List (List ℕ) → Type 0
NoneEvents allow lines = NoneMarked allow lines × NoneWideMarked allow lines

abbrev pub BeginsAny : Liberties → List ℕ → Option EventFollowing → Type 0
BeginsAny allow line None = NoneEvents allow (line ∷ [])
BeginsAny allow line (Some following) = KnowsEventFollowing allow following (line ∷ []) []

-- after these lines without a fault, this text has been appended
abbrev pub KnowsEither : CoverTrace → Option EventFollowing → List (List ℕ) → List ℕ → Type 0
KnowsEither plain None lines text = KnowsCover plain lines text × NoneEvents plain.narrow.allow lines
KnowsEither plain (Some following) lines text = KnowsEventFollowing plain.narrow.allow following lines text

abbrev pub KnowsCommits : CoverEvents → List (List ℕ) → List ℕ → Type 0
KnowsCommits h lines text = KnowsEither h.plain h.events lines text

-- the situations and the counts, if a header was read
abbrev pub found_with : CoverTrace → Option EventFollowing → Found
found_with plain None = found_of_trace plain
found_with plain (Some following) = events_found_by following

abbrev pub found_of_commits : CoverEvents → Found
found_of_commits h = found_with h.plain h.events

-- they are those of these lines
abbrev pub EndsCommits : CoverEvents → List (List ℕ) → Type 0
EndsCommits h lines = AnyCovered h.plain.narrow.allow lines (found_of_commits h)

-- what a line begins after those that a handler has judged: a covering of events, or none; then it is the header of none
-- if it is the first
abbrev pub BeginsMarked : CoverEvents → List ℕ → Option EventFollowing → Type 0
BeginsMarked h line None = (text : List ℕ) → KnowsCover h.plain [] text → NoneEvents h.plain.narrow.allow (line ∷ [])
BeginsMarked h line (Some following) =
    ((lines : List (List ℕ)) (text : List ℕ) → KnowsCover h.plain lines text → (lines ≡ []) × (text ≡ []))
    × KnowsEventFollowing h.plain.narrow.allow following (line ∷ []) []
