-- The line of an event of a wide trace, and the fault of a line that is of none.
use Rattle.std.specs.Prelude.{ℕ, List, Option}
use Rattle.tl_beat.specs.declared.beat.Link.{Link}
use Rattle.tl_beat.specs.declared.fault.LineFault.{LineFault}
use Rattle.tl_events.specs.statement.EventLine.{unless_letter}
use Rattle.tl_wide.specs.statement.Line.{WideSpells, wide_line_fault}
use Rattle.tl_wide_events.specs.declared.commit.WideEvent.{WideEvent}
use Rattle.tl_wide_events.specs.declared.commit.WideEvent.TheVariants as wide
use Rattle.tl_wide_events.specs.statement.WideCommitLine.{SpellsWideCommit, wide_commit_fault}

-- the line is that of the event on the link
abbrev pub SpellsWideEvent : {w : ℕ} → List ℕ → Link → WideEvent w → Type 0
SpellsWideEvent line link (wide.Beat x) = WideSpells line link x
SpellsWideEvent line link (wide.Commit x) = SpellsWideCommit line link x

-- The first fault of a line, for beats of w bytes; None if it spells a wide beat or a commit. It is that of a wide beat's
-- line or, if its letter is no channel's, that of a commit's line.
abbrev pub wide_event_fault : ℕ → List ℕ → Option LineFault
wide_event_fault w line = unless_letter (wide_line_fault w line) (wide_commit_fault line)
