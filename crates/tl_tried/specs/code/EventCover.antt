-- What a covering of a trace with commits answers of an event, and of a line.
use Rattle.std.specs.Prelude.{◌≡◌, ◌+◌, ℕ, false, List, ◌∷◌, length, map, Option, Some, None}
use Rattle.tl_beat.specs.declared.beat.Link.{Link}
use Rattle.tl_commit_lines.specs.statement.JudgedEvents.{IsEventAtFault, fault_by}
use Rattle.tl_commit_lines.specs.statement.MarkedHeader.{MarkedLinks, levels_of}
use Rattle.tl_commits.specs.statement.Events.{Events, beats_of}
use Rattle.tl_cover.specs.declared.covering.Covering.{Covering}
use Rattle.tl_cover.specs.statement.Covered.{covered}
use Rattle.tl_cover.specs.statement.Covers.{Covers, cells_in}
use Rattle.tl_lines.specs.declared.fault.Fault.{Fault}
use Rattle.tl_events.specs.declared.commit.Event.{Event}
use Rattle.tl_events.specs.statement.EventLine.{SpellsEvent}
use Rattle.tl_params.specs.declared.liberties.Liberties.{Liberties}
use Rattle.tl_tried.specs.code.Following.{found_in}
use Rattle.tl_tried.specs.declared.event_covering.EventCovering.{EventCovering}
use Rattle.tl_tried.specs.statement.Covered.{Found, found_of}
use Rattle.tl_tried.specs.statement.EventCovered.{beats_each, events_found}
use Rattle.tl_tried.specs.statement.WideCovered.{at_wide_line}

-- the situations and the counts of a trace with commits
abbrev pub events_found_in : {w : ℕ} → EventCovering w → Found
events_found_in c = (c.rows.items, cells_in c.covering)

-- a covering covers the beats of these events
abbrev pub CoversBeats : {w : ℕ} → Covering w → MarkedLinks → Liberties → Events w → Type 0
CoversBeats c links may e = Covers c (levels_of links) may (beats_of e) false

-- It has taken these events, none of which is at fault. Each row has the line of an event.
pub record CoversEvents {w : ℕ} (c : EventCovering w) (links : MarkedLinks) (may : Liberties) (e : Events w)
    : Type 0 where
  pub covers : CoversBeats c.covering links may e
  pub rows_are : c.rows.items ≡ map (at_wide_line (beats_each e)) (covered may (length (levels_of links)) (beats_of e))
  pub line_is : c.line ≡ length e + 1

-- the beat of an event was taken, if it is one, or it is at fault, and the situations are those before it
abbrev pub TakesBeatOf : {w : ℕ} → Covering w → Covering w → Link → Event w → Option Fault → Type 0
TakesBeatOf {w} old new link x None =
    (links : MarkedLinks) (may : Liberties) (e : Events w) → CoversBeats old links may e
    → (fault_by w false links may link x e ≡ None) × CoversBeats new links may ((link, x) ∷ e)
TakesBeatOf {w} old new link x (Some fault) =
    (links : MarkedLinks) (may : Liberties) (e : Events w) → CoversBeats old links may e
    → (fault_by w false links may link x e ≡ Some fault)
    × (found_in new ≡ found_of may (levels_of links) (beats_of e))

-- the event was taken, or it is at fault, and the situations are those before it
abbrev pub TakesEvent : {w : ℕ} → EventCovering w → EventCovering w → Link → Event w → Option Fault → Type 0
TakesEvent {w} old new link x None =
    (links : MarkedLinks) (may : Liberties) (e : Events w) → CoversEvents old links may e
    → (fault_by w false links may link x e ≡ None) × CoversEvents new links may ((link, x) ∷ e)
TakesEvent {w} old new link x (Some fault) =
    (links : MarkedLinks) (may : Liberties) (e : Events w) → CoversEvents old links may e
    → (fault_by w false links may link x e ≡ Some fault) × (events_found_in new ≡ events_found links may e)

-- the next line spells an event that isn't at fault, and that was taken; or it is at fault, and the situations are those
-- before it
abbrev pub ReadsEvent : {w : ℕ} → EventCovering w → EventCovering w → List ℕ → Option Fault → Type 0
ReadsEvent {w} old new line None =
    (links : MarkedLinks) (may : Liberties) (e : Events w) → CoversEvents old links may e
    → (link : Link) × (x : Event w) × SpellsEvent line link x × (fault_by w false links may link x e ≡ None)
    × CoversEvents new links may ((link, x) ∷ e)
ReadsEvent {w} old new line (Some fault) =
    (links : MarkedLinks) (may : Liberties) (e : Events w) → CoversEvents old links may e
    → IsEventAtFault w false links may e line fault × (events_found_in new ≡ events_found links may e)
