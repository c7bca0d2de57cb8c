-- What a handler of traces knows whose header may be that of a wide trace with commits.
use Rattle.std.specs.Prelude.{◌≡◌, ◌++◌, ℕ, Bool, true, List, [], ◌∷◌, length, Option, Some, None, ⊤}
use Rattle.tl_commit_lines.specs.code.EventWatching.{KnowsEventLines, KnowsEvents, events_judged_for}
use Rattle.tl_commit_lines.specs.declared.lines.EventLines.{EventLines}
use Rattle.tl_lines.specs.declared.fault.Fault.{Fault}
use Rattle.tl_lines.specs.declared.status.Status.{Status}
use Rattle.tl_params.specs.declared.liberties.Liberties.{Liberties}
use Rattle.tl_wide.specs.declared.width.WideWidth.{WideWidth}
use Rattle.tl_wide.specs.declared.width.WideWidth.TheVariants as width
use Rattle.tl_wide.specs.statement.Narrowing.{Follows}
use Rattle.tl_wide.specs.statement.Width.{part_width, wide_bytes_of}
use Rattle.tl_wide_events.specs.statement.Narrowed.{WideEvents, names_of, narrowed}
use Rattle.tl_wide_lines.specs.code.WideWatching.{waits}
use Rattle.tl_commit_lines.specs.statement.MarkedHeader.{MarkedLinks, links_in}
use Rattle.tl_wide_event_lines.specs.code.EventJudging.{JudgesLineOf}
use Rattle.tl_wide_event_lines.specs.declared.header.WideCommitHeader.{WideCommitHeader}
use Rattle.tl_wide_event_lines.specs.declared.judge.WideEventJudge.{WideEventJudge}
use Rattle.tl_wide_event_lines.specs.declared.lines.WideEventLines.{WideEventLines}
use Rattle.tl_wide_event_lines.specs.declared.lines.WideEventLinks.{WideEventLinks}
use Rattle.tl_wide_event_lines.specs.declared.lines.WideEventLinks.TheVariants.{Four, Eight, Sixteen, ThirtyTwo}
use Rattle.tl_wide_event_lines.specs.declared.lines.WideEventLinks.TheVariants.{SixtyFour}
use Rattle.tl_wide_event_lines.specs.statement.JudgedWideEvents.{JudgedWideEvents}
use Rattle.tl_wide_event_lines.specs.statement.WideMarkedHeader.{NamesWideMarked}

-- the header of a wide trace with commits that is judged so, or there is none
abbrev pub ReadsWideMarked : Liberties → List ℕ → Option WideCommitHeader → Type 0
ReadsWideMarked allow line None =
    (width : WideWidth) (may : Liberties) (links : MarkedLinks) → ¬ NamesWideMarked allow line width may links
ReadsWideMarked allow line (Some h) = NamesWideMarked allow line h.width h.narrow.may (links_in h.narrow)

-- ---- lines

-- These lines are a header and those of wide events that aren't at fault, and the judge knows the events. Nothing has been
-- said.
pub record KnowsWideEvents (wide : WideWidth) (together : Bool) (allow : Liberties)
    (judge : WideEventJudge (part_width (wide_bytes_of wide))) (lines : List (List ℕ)) (text : List ℕ) : Type 0 where
  pub header : List ℕ
  pub spelled : List (List ℕ)
  pub may : Liberties
  pub links : MarkedLinks
  pub trace : WideEvents (wide_bytes_of wide)
  pub are_lines : lines ≡ header ∷ spelled
  pub named : NamesWideMarked allow header wide may links
  pub follows : Follows judge.narrower (names_of trace)
  pub known : KnowsEvents together judge.judge links may (narrowed trace)
  pub counted : length spelled ≡ length trace
  pub before : (more : List (List ℕ)) (rest : List ℕ) (status : Status)
      → JudgedWideEvents (wide_bytes_of wide) together links may trace more rest status
      → JudgedWideEvents (wide_bytes_of wide) together links may [] (spelled ++ more) rest status
  pub silent : text ≡ []

abbrev pub KnowsWideLinks : Bool → Liberties → WideEventLinks → List (List ℕ) → List ℕ → Type 0
KnowsWideLinks together allow (Four judge) lines text = KnowsWideEvents width.Four together allow judge lines text
KnowsWideLinks together allow (Eight judge) lines text = KnowsWideEvents width.Eight together allow judge lines text
KnowsWideLinks together allow (Sixteen judge) lines text = KnowsWideEvents width.Sixteen together allow judge lines text
KnowsWideLinks together allow (ThirtyTwo judge) lines text =
    KnowsWideEvents width.ThirtyTwo together allow judge lines text
KnowsWideLinks together allow (SixtyFour judge) lines text =
    KnowsWideEvents width.SixtyFour together allow judge lines text

-- what a judge of each width says of the next line
abbrev pub JudgesLine : WideEventLinks → WideEventLinks → List ℕ → Option Fault → Type 0
JudgesLine (Four old) (Four new) line answer = JudgesLineOf 4 old new line answer
JudgesLine (Eight old) (Eight new) line answer = JudgesLineOf 8 old new line answer
JudgesLine (Sixteen old) (Sixteen new) line answer = JudgesLineOf 16 old new line answer
JudgesLine (ThirtyTwo old) (ThirtyTwo new) line answer = JudgesLineOf 32 old new line answer
JudgesLine (SixtyFour old) (SixtyFour new) line answer = JudgesLineOf 64 old new line answer
JudgesLine _ _ line answer = ⊥

-- the first of these lines, if there is one, is no header of a wide trace with commits
abbrev pub NoneWideMarked : Liberties → List (List ℕ) → Type 0
NoneWideMarked allow [] = ⊤
NoneWideMarked allow (line ∷ lines) =
    (width : WideWidth) (may : Liberties) (links : MarkedLinks) → ¬ NamesWideMarked allow line width may links

-- what the first line begins: a judge that knows the header, or none if it is no such header
abbrev pub BeginsWideMarked : Bool → Liberties → List ℕ → Option WideEventLinks → Type 0
BeginsWideMarked together allow line None = NoneWideMarked allow (line ∷ [])
BeginsWideMarked together allow line (Some links) = KnowsWideLinks together allow links (line ∷ []) []

-- ---- the handler

-- after these lines without a fault, this text has been appended
abbrev pub KnowsAnyBy : Bool → Liberties → EventLines → Option WideEventLinks → List (List ℕ) → List ℕ → Type 0
KnowsAnyBy together allow narrow None lines text =
    KnowsEventLines narrow lines text × (events_judged_for narrow ≡ (together, allow)) × NoneWideMarked allow lines
KnowsAnyBy together allow narrow (Some links) lines text =
    KnowsWideLinks together allow links lines text × (waits narrow.plain ≡ true)

abbrev pub KnowsAnyLines : WideEventLines → List (List ℕ) → List ℕ → Type 0
KnowsAnyLines h lines text = KnowsAnyBy h.together h.allow h.narrow h.wide lines text

-- whether the links are judged together, and their further liberties
abbrev pub any_judged_for : WideEventLines → Bool × Liberties
any_judged_for h = (h.together, h.allow)
