-- The line of an event, a beat or a commit, and the fault of a line that is of neither.
use Rattle.std.specs.Prelude.{ℕ, List, Option, Some}
use Rattle.tl_beat.specs.declared.beat.Link.{Link}
use Rattle.tl_beat.specs.declared.fault.LineFault.{LineFault}
use Rattle.tl_beat.specs.declared.fault.LineFault.TheVariants.{F2}
use Rattle.tl_beat.specs.statement.Line.{Spells, line_fault}
use Rattle.tl_events.specs.declared.commit.Event.{Event}
use Rattle.tl_events.specs.declared.commit.Event.TheVariants as event
use Rattle.tl_events.specs.statement.CommitLine.{SpellsCommit, commit_fault}

-- the line is that of the event on the link
abbrev pub SpellsEvent : {w : ℕ} → List ℕ → Link → Event w → Type 0
SpellsEvent line link (event.Beat x) = Spells line link x
SpellsEvent line link (event.Commit x) = SpellsCommit line link x

-- this fault of a beat's line; if its letter is no channel's, that of a commit's line
abbrev pub unless_letter : Option LineFault → Option LineFault → Option LineFault
unless_letter (Some F2) of_commit = of_commit
unless_letter of_beat of_commit = of_beat

-- the first fault of a line, for beats of w bytes; None if it spells a beat or a commit
abbrev pub event_fault : ℕ → List ℕ → Option LineFault
event_fault w line = unless_letter (line_fault w line) (commit_fault line)
