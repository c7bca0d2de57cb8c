-- The situations of a trace with commits: those of its beats, with the lines of the trace.
use Rattle.std.specs.Prelude.{◌≡◌, ◌⊎◌, ℕ, false, List, [], ◌∷◌, map, None, reverse}
use Rattle.tl_beat.specs.declared.beat.Link.{Link}
use Rattle.tl_commit_lines.specs.statement.JudgedEvents.{IsEventAtFault, fault_by}
use Rattle.tl_commit_lines.specs.statement.MarkedHeader.{MarkedLinks, NamesMarked, levels_of}
use Rattle.tl_commits.specs.statement.Events.{Events, beats_of}
use Rattle.tl_lines.specs.declared.fault.Fault.{Fault}
use Rattle.tl_lines.specs.statement.Width.{bytes_of}
use Rattle.tl_events.specs.declared.commit.Event.{Event}
use Rattle.tl_events.specs.declared.commit.Event.TheVariants as event
use Rattle.tl_events.specs.statement.EventLine.{SpellsEvent}
use Rattle.tl_params.specs.declared.liberties.Liberties.{Liberties}
use Rattle.tl_params.specs.declared.width.Width.{Width}
use Rattle.tl_rules.specs.statement.Conformance.{Trace}
use Rattle.tl_tried.specs.statement.Covered.{Found, found_of}
use Rattle.tl_tried.specs.statement.WideCovered.{TraceCovered, at_wide_lines}

-- the beat that an event is; none if it is a commit
abbrev pub beats_at : {w : ℕ} → Link × Event w → Trace w
beats_at (link, event.Beat x) = (link, x) ∷ []
beats_at (link, event.Commit x) = []

-- the same of each event of a trace, the oldest first; the newest is the first of e
abbrev pub beats_each : {w : ℕ} → Events w → List (Trace w)
beats_each e = map beats_at (reverse e)

-- The situations and the counts of the beats of a trace. The line in which a situation first came is that of the event
-- which is the beat.
abbrev pub events_found : {w : ℕ} → MarkedLinks → Liberties → Events w → Found
events_found links may e = at_wide_lines (beats_each e) (found_of may (levels_of links) (beats_of e))

-- The situations and counts of these lines after a header and the events of e: those of all beats up to the first line
-- at fault.
unfoldable pub CoveredEvents : {w : ℕ} → MarkedLinks → Liberties → Events w → List (List ℕ) → Found → Type 0
CoveredEvents links may e [] found = found ≡ events_found links may e
CoveredEvents {w} links may e (line ∷ lines) found =
    ((link : Link) × (x : Event w) × SpellsEvent line link x × (fault_by w false links may link x e ≡ None)
    × CoveredEvents links may ((link, x) ∷ e) lines found)
    ⊎ ((fault : Fault) × IsEventAtFault w false links may e line fault × (found ≡ events_found links may e))

-- The situations and counts of a trace with or without commits, on links with the liberties that its header names and
-- those that are allowed. There are none if the first line is no header or is missing.
abbrev pub CommitsCovered : Liberties → List (List ℕ) → Found → Type 0
CommitsCovered allow [] found = TraceCovered allow [] found
CommitsCovered allow (line ∷ lines) found =
    ((width : Width) × (may : Liberties) × (links : MarkedLinks) × NamesMarked allow line width may links
    × CoveredEvents {w = bytes_of width} links may [] lines found)
    ⊎ (((width : Width) (may : Liberties) (links : MarkedLinks) → ¬ NamesMarked allow line width may links)
    × TraceCovered allow (line ∷ lines) found)
