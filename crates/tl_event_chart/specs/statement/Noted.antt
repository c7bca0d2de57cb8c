-- The notes of a chart: the stores and loads of the trace.
use Rattle.std.specs.Prelude.{◌≡◌, ◌≤◌, ◌⊎◌, ◌+◌, ◌++◌, ℕ, Bool, true, false, List, ◌∷◌, All, length}
use Rattle.tl_beat.specs.statement.Digits.{digits}
use Rattle.tl_chart.specs.declared.note.Note.{Note}
use Rattle.tl_chart.specs.declared.window.Window.{Window}
use Rattle.tl_commit_words.specs.statement.CommitWords.{commit_words, wide_commit_words}
use Rattle.tl_events.specs.declared.commit.Commit.{Commit}
use Rattle.tl_events.specs.declared.commit.Commit.TheVariants as commit
use Rattle.tl_events.specs.statement.CommitLine.{SpellsCommit}
use Rattle.tl_wide_events.specs.declared.commit.WideCommit.{WideCommit}
use Rattle.tl_wide_events.specs.declared.commit.WideCommit.TheVariants as wide
use Rattle.tl_wide_events.specs.statement.WideCommitLine.{SpellsWideCommit}

-- a store, whose mark is full
abbrev pub is_store : Commit → Bool
is_store (commit.Store piece value) = true
is_store _ = false

-- the same in a wide trace
abbrev pub is_wide_store : WideCommit → Bool
is_wide_store (wide.Store piece value) = true
is_wide_store _ = false

-- the note is the commit that this line spells
pub record NotesCommit (line : List ℕ) (note : Note) : Type 0 where
  pub commit : Commit
  pub spells : SpellsCommit line note.link commit
  pub full_is : note.full ≡ is_store commit
  pub words_are : note.words.items ≡ digits 2 note.link.0 ++ commit_words commit

-- the note is the commit of a wide trace that this line spells
pub record NotesWideCommit (line : List ℕ) (note : Note) : Type 0 where
  pub commit : WideCommit
  pub spells : SpellsWideCommit line note.link commit
  pub full_is : note.full ≡ is_wide_store commit
  pub words_are : note.words.items ≡ digits 2 note.link.0 ++ wide_commit_words commit

-- the note is the commit that this line spells, with an address of 32 or of 64 bits
abbrev pub NotesLine : List ℕ → Note → Type 0
NotesLine line note = NotesCommit line note ⊎ NotesWideCommit line note

-- the line of the note is one of the window
abbrev pub IsWithin : Window → Note → Type 0
IsWithin win note = (win.first ≤ note.line) × (note.line ≤ win.last)

-- the note is the commit in its line, which is one of these, and one of the window
pub record IsNoted (win : Window) (lines : List (List ℕ)) (note : Note) : Type 0 where
  pub before : List (List ℕ)
  pub line : List ℕ
  pub more : List (List ℕ)
  pub are_lines : lines ≡ before ++ line ∷ more
  pub number : note.line ≡ length before + 1
  pub of_line : NotesLine line note
  pub within : IsWithin win note

-- so do all of these notes
abbrev pub AreNoted : Window → List (List ℕ) → List Note → Type 0
AreNoted win lines notes = All (IsNoted win lines) notes
