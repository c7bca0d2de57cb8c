-- What is known while the lines of a wide trace with stores and loads are read again, up to the line at fault.
use Rattle.std.specs.Prelude.{◌≡◌, ◌≤◌, ◌+◌, ◌++◌, ◌∷◌, ℕ, true, false, [], List, length, Option, Some, None, IfSome, ⊤}
use Rattle.tl_beat.specs.declared.beat.Link.{Link}
use Rattle.tl_commit_lines.specs.statement.MarkedHeader.{MarkedLinks}
use Rattle.tl_commits.specs.statement.Events.{Events}
use Rattle.tl_lines.specs.declared.fault.Fault.{Fault}
use Rattle.tl_commit_words.specs.statement.CommitWords.{wide_piece_in}
use Rattle.tl_params.specs.declared.liberties.Liberties.{Liberties}
use Rattle.tl_wide.specs.declared.width.WideWidth.{WideWidth}
use Rattle.tl_wide.specs.statement.Width.{wide_bytes_of}
use Rattle.tl_wide_event_lines.specs.code.EventWatching.{KnowsAnyLines}
use Rattle.tl_wide_event_lines.specs.statement.WideMarkedHeader.{NamesWideMarked}
use Rattle.tl_wide_event_story.specs.code.Guiding.{KnowsGuide, TakesWide}
use Rattle.tl_wide_event_story.specs.declared.guide.Guide.{Guide}
use Rattle.tl_wide_event_story.specs.declared.replay.WideEventReplay.{WideEventReplay}
use Rattle.tl_wide_event_story.specs.declared.story.WideEventStory.{WideEventStory}
use Rattle.tl_wide_event_story.specs.statement.WideEventsExplained.{front_text}
use Rattle.tl_wide_event_story.specs.statement.WideGrounds.{AreWideGrounds, AreWideSpelled}
use Rattle.tl_wide_events.specs.declared.commit.WideEvent.{WideEvent}
use Rattle.tl_wide_events.specs.declared.commit.WideEvent.TheVariants as wide
use Rattle.tl_wide_events.specs.statement.Narrowed.{WideEvents}
use Rattle.tl_wide_events.specs.statement.WideEventLine.{SpellsWideEvent}

-- a commit reaches at most 8 bytes
abbrev pub IsSmall : {w : ℕ} → WideEvent w → Type 0
IsSmall (wide.Beat x) = ⊤
IsSmall (wide.Commit x) = (wide_piece_in x).size ≤ 3

-- ---- one line

-- the line is a header of beats of this width, and nothing is known after it
pub record Begins {w p : ℕ} (allow : Liberties) (line : List ℕ) (g : Guide w p) : Type 0 where
  pub width : WideWidth
  pub may : Liberties
  pub links : MarkedLinks
  pub of_width : wide_bytes_of width ≡ w
  pub named : NamesWideMarked allow line width may links
  pub known : KnowsGuide g may links [] (λ q. [])

-- the line spells an event, which was taken
pub record TakesLine {w p : ℕ} (old new : Guide w p) (line : List ℕ) : Type 0 where
  pub link : Link
  pub event : WideEvent w
  pub spells : SpellsWideEvent line link event
  pub takes : TakesWide old new link event

-- what came of the guide at a line: it took the event, or there is none any more
abbrev pub GoesOn : {w p : ℕ} → Option (Guide w p) → Option (Guide w p) → List ℕ → Type 0
GoesOn old None line = ⊤
GoesOn (Some old) (Some new) line = TakesLine old new line
GoesOn None (Some new) line = ⊥

-- only the guide has changed, so
pub record FollowsOn {w p : ℕ} (old new : WideEventReplay w p) (line : List ℕ) : Type 0 where
  pub same : new ≡ record old { guide = new.guide }
  pub goes : GoesOn old.guide new.guide line

-- the line of this number spells an event, and the text has the reasons for its fault
pub record HasReasons {w p : ℕ} (g : Guide w p) (found : Fault) (number : ℕ) (line text : List ℕ) : Type 0 where
  pub link : Link
  pub event : WideEvent w
  pub spells : SpellsWideEvent line link event
  pub says : (may : Liberties) (links : MarkedLinks) (t : WideEvents w) (e : (q : ℕ) → Events q)
      → KnowsGuide g may links t e
      → (grounds : List ℕ) × (text ≡ front_text found number link event ++ grounds)
      × AreWideGrounds found may links t link event grounds

-- ---- all lines

-- the lines are a header and those of wide events, which the guide has followed
pub record AreRetold {w p : ℕ} (allow : Liberties) (lines : List (List ℕ)) (g : Guide w p) : Type 0 where
  pub width : WideWidth
  pub of_width : wide_bytes_of width ≡ w
  pub may : Liberties
  pub links : MarkedLinks
  pub header : List ℕ
  pub spelled : List (List ℕ)
  pub are_lines : lines ≡ header ∷ spelled
  pub named : NamesWideMarked allow header width may links
  pub trace : WideEvents w
  pub are_spelled : AreWideSpelled trace spelled
  pub become : (q : ℕ) → Events q
  pub known : KnowsGuide g may links trace become

-- these lines have been read, before the one at fault
pub record KnowsReplay {w p : ℕ} (r : WideEventReplay w p) (lines : List (List ℕ)) : Type 0 where
  pub untold : r.told ≡ false
  pub counted : r.count ≡ length lines
  pub retold : IfSome r.guide (AreRetold r.allow lines)

-- The line at fault is one of these, and the reasons are for it.
pub record HasTold {w p : ℕ} (r : WideEventReplay w p) (lines : List (List ℕ)) : Type 0 where
  pub width : WideWidth
  pub of_width : wide_bytes_of width ≡ w
  pub may : Liberties
  pub links : MarkedLinks
  pub header : List ℕ
  pub before : List (List ℕ)
  pub line : List ℕ
  pub more : List (List ℕ)
  pub are_lines : lines ≡ (header ∷ before) ++ line ∷ more
  pub named : NamesWideMarked r.allow header width may links
  pub trace : WideEvents w
  pub are_spelled : AreWideSpelled trace before
  pub counted : r.count ≡ length before + 1
  pub link : Link
  pub event : WideEvent w
  pub spells : SpellsWideEvent line link event
  pub grounds : List ℕ
  pub says : r.reasons.items ≡ front_text r.fault (r.count + 1) link event ++ grounds
  pub are : AreWideGrounds r.fault may links trace link event grounds

-- what is known once reading has stopped
abbrev pub EndsReplay : {w p : ℕ} → WideEventReplay w p → List (List ℕ) → Type 0
EndsReplay r lines = r.told ≡ true → HasTold r lines

-- one more line was read, which isn't at fault
abbrev pub ReadsOn : {w p : ℕ} → WideEventReplay w p → WideEventReplay w p → List ℕ → Type 0
ReadsOn old new line = (lines : List (List ℕ)) → KnowsReplay old lines → KnowsReplay new (lines ++ line ∷ [])

-- the line at fault was read
abbrev pub ReadsLast : {w p : ℕ} → WideEventReplay w p → WideEventReplay w p → List ℕ → Type 0
ReadsLast old new line = (lines : List (List ℕ)) → KnowsReplay old lines → (more : List (List ℕ))
    → EndsReplay new (lines ++ line ∷ more)

-- a line was read, which has this fault or none
abbrev pub ReadsLine : {w p : ℕ} → WideEventReplay w p → WideEventReplay w p → List ℕ → Option Fault → Type 0
ReadsLine old new line None = ReadsOn old new line
ReadsLine old new line (Some found) = ReadsLast old new line

-- ---- the handler

-- the lines have been judged, and read again
abbrev pub KnowsStory : {w p : ℕ} → WideEventStory w p → List (List ℕ) → List ℕ → Type 0
KnowsStory h lines text = KnowsAnyLines h.lines lines text × KnowsReplay h.replay lines

abbrev pub EndsStory : {w p : ℕ} → WideEventStory w p → List (List ℕ) → Type 0
EndsStory h lines = EndsReplay h.replay lines
