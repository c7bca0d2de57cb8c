-- The situations of a wide trace with commits: those of the beats that it becomes, with the lines of the wide trace.
use Rattle.std.specs.Prelude.{◌≡◌, ◌⊎◌, ◌++◌, ℕ, false, if◌then◌else◌, List, [], ◌∷◌, Some, None}
use Rattle.tl_beat.specs.declared.beat.Link.{Link}
use Rattle.tl_beat.specs.declared.fault.LineFault.{LineFault}
use Rattle.tl_commit_lines.specs.statement.MarkedHeader.{MarkedLinks, levels_of}
use Rattle.tl_commits.specs.statement.Events.{Events, beats_of}
use Rattle.tl_lines.specs.declared.fault.Fault.{Fault}
use Rattle.tl_events.specs.declared.commit.Event.{Event}
use Rattle.tl_params.specs.declared.liberties.Liberties.{Liberties}
use Rattle.tl_rules.specs.statement.Conformance.{Trace}
use Rattle.tl_tried.specs.statement.Covered.{Found, found_of}
use Rattle.tl_tried.specs.statement.EventCovered.{CommitsCovered, beats_at}
use Rattle.tl_tried.specs.statement.WideCovered.{at_wide_lines}
use Rattle.tl_wide.specs.declared.width.WideWidth.{WideWidth}
use Rattle.tl_wide.specs.statement.Naming.{is_beyond}
use Rattle.tl_wide.specs.statement.Width.{part_width, wide_bytes_of}
use Rattle.tl_wide_event_lines.specs.statement.EventFaults.{events_taken, wide_fault_by}
use Rattle.tl_wide_event_lines.specs.statement.WideMarkedHeader.{NamesWideMarked}
use Rattle.tl_wide_events.specs.declared.commit.WideEvent.{WideEvent}
use Rattle.tl_wide_events.specs.statement.Narrowed.{WideEvents, events_of, names_of, narrowed}
use Rattle.tl_wide_events.specs.statement.WideEventLine.{SpellsWideEvent, wide_event_fault}

-- ---- the situations

-- the beats among these events of a link, the oldest first
unfoldable pub beats_among : {w : ℕ} → Link → List (Event w) → Trace w
beats_among link [] = []
beats_among link (x ∷ events) = beats_at (link, x) ++ beats_among link events

-- the beats that each event of a wide trace becomes, the oldest event first; the newest is the first of t
unfoldable pub parts_each : {w : ℕ} → WideEvents w → List (Trace (part_width w))
parts_each [] = []
parts_each (x ∷ t) = parts_each t ++ beats_among x.0 (events_of x.0 x.1 (names_of (x ∷ t))) ∷ []

-- The situations and the counts of the beats of e, events that a wide trace becomes. The line in which a situation first
-- came is that of the wide beat whose part began the message.
abbrev pub found_among : {w : ℕ} → MarkedLinks → Liberties → WideEvents w → Events (part_width w) → Found
found_among links may t e = at_wide_lines (parts_each t) (found_of may (levels_of links) (beats_of e))

-- those of all events of a wide trace
abbrev pub wide_events_found : {w : ℕ} → MarkedLinks → Liberties → WideEvents w → Found
wide_events_found links may t = found_among links may t (narrowed t)

-- those before the first fault of the next event: of a wide beat the parts before the first at fault count too
abbrev pub found_at_fault : {w : ℕ} → MarkedLinks → Liberties → Link → WideEvent w → WideEvents w → Found
found_at_fault links may link x t =
    if is_beyond link (names_of ((link, x) ∷ t)) then wide_events_found links may t
    else found_among links may ((link, x) ∷ t)
    (events_taken false links may link (events_of link x (names_of ((link, x) ∷ t))) (narrowed t))

-- ---- lines

-- The situations and counts of these lines after a header and the wide events of t: those of all events up to the first
-- line at fault.
unfoldable pub CoveredWideEvents : {w : ℕ} → MarkedLinks → Liberties → WideEvents w → List (List ℕ) → Found → Type 0
CoveredWideEvents links may t [] found = found ≡ wide_events_found links may t
CoveredWideEvents {w} links may t (line ∷ lines) found =
    ((link : Link) × (x : WideEvent w) × SpellsWideEvent line link x
    × (wide_fault_by w false links may link x t ≡ None) × CoveredWideEvents links may ((link, x) ∷ t) lines found)
    ⊎ ((link : Link) × (x : WideEvent w) × SpellsWideEvent line link x × (fault : Fault)
    × (wide_fault_by w false links may link x t ≡ Some fault) × (found ≡ found_at_fault links may link x t))
    ⊎ ((fault : LineFault) × (wide_event_fault w line ≡ Some fault) × (found ≡ wide_events_found links may t))

-- The situations and counts of a trace with any header, on links with the liberties that its header names and those that
-- are allowed. There are none if the first line is no header or is missing.
abbrev pub AnyCovered : Liberties → List (List ℕ) → Found → Type 0
AnyCovered allow [] found = CommitsCovered allow [] found
AnyCovered allow (line ∷ lines) found =
    ((width : WideWidth) × (may : Liberties) × (links : MarkedLinks) × NamesWideMarked allow line width may links
    × CoveredWideEvents {w = wide_bytes_of width} links may [] lines found)
    ⊎ (((width : WideWidth) (may : Liberties) (links : MarkedLinks) → ¬ NamesWideMarked allow line width may links)
    × CommitsCovered allow (line ∷ lines) found)
