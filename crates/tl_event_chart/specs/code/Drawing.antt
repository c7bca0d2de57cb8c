-- What is known of a picture while lines are drawn.
use Rattle.std.specs.Prelude.{◌≡◌, ◌⊎◌, ◌≤◌, ◌++◌, ℕ, Bool, true, List, [], ◌∷◌, length}
use Rattle.tl_chart.specs.declared.note.Note.{Note}
use Rattle.tl_chart.specs.declared.window.Window.{Window}
use Rattle.tl_event_chart.specs.declared.canvas.Canvas.{Canvas}
use Rattle.tl_event_chart.specs.declared.lines.ChartedLines.{ChartedLines}
use Rattle.tl_event_chart.specs.statement.Noted.{AreNoted, IsWithin, NotesLine}
use Rattle.tl_wide_event_lines.specs.code.EventWatching.{KnowsAnyLines}

-- the window begins with the same line, and doesn't end later
pub record Narrows (old new : Window) : Type 0 where
  pub first_is : new.first ≡ old.first
  pub last_is : new.last ≤ old.last

-- the notes are those of before, or one more within the window: the commit in the line of this number
abbrev pub MayNote : Canvas → Canvas → ℕ → List ℕ → Type 0
MayNote old new number line =
    (new.notes.items ≡ old.notes.items)
    ⊎ ((note : Note) × (new.notes.items ≡ old.notes.items ++ note ∷ []) × (note.line ≡ number)
    × IsWithin old.gatherer.window note × NotesLine line note)

-- the line of this number was drawn, with no note, or with one
pub record Draws (old new : Canvas) (number : ℕ) (line : List ℕ) : Type 0 where
  pub window_is : Narrows old.gatherer.window new.gatherer.window
  pub notes_are : MayNote old new number line

-- something was drawn, but no note
pub record DrawsBeats (old new : Canvas) : Type 0 where
  pub window_is : Narrows old.gatherer.window new.gatherer.window
  pub notes_are : new.notes ≡ old.notes

-- Nothing was noted, and the window may have changed. If the answer is true, the line of this number was one of it.
pub record FindsPlace (old new : Canvas) (number : ℕ) (place : Bool) : Type 0 where
  pub drawn : DrawsBeats old new
  pub within : place ≡ true → (old.gatherer.window.first ≤ number) × (number ≤ old.gatherer.window.last)

-- these lines have been drawn, in a window that began with the first line and the last of this one
pub record HasNotes (canvas : Canvas) (win : Window) (lines : List (List ℕ)) : Type 0 where
  pub window_is : Narrows win canvas.gatherer.window
  pub noted : AreNoted win lines canvas.notes.items

-- ---- the handler

-- these lines have been drawn
pub record KnowsNotes (h : ChartedLines) (lines : List (List ℕ)) : Type 0 where
  pub counted : h.count ≡ length lines
  pub has : HasNotes h.canvas h.window lines

-- one more line was drawn
abbrev pub DrawsLine : ChartedLines → ChartedLines → List ℕ → Type 0
DrawsLine old new line = (lines : List (List ℕ)) → KnowsNotes old lines → KnowsNotes new (lines ++ line ∷ [])

-- these lines have been judged, with this text so far, and drawn
abbrev pub KnowsCharted : ChartedLines → List (List ℕ) → List ℕ → Type 0
KnowsCharted h lines text = KnowsAnyLines h.lines lines text × KnowsNotes h lines

-- the notes are of these lines
abbrev pub EndsCharted : ChartedLines → List (List ℕ) → Type 0
EndsCharted h lines = HasNotes h.canvas h.window lines
