-- The fault of a wide event, and the events that are taken of those that it becomes.
use Rattle.std.specs.Prelude.{ℕ, Bool, if◌then◌else◌, List, [], ◌∷◌, Option, Some, None}
use Rattle.tl_beat.specs.declared.beat.Link.{Link}
use Rattle.tl_commit_lines.specs.statement.MarkedHeader.{MarkedLinks}
use Rattle.tl_commit_lines.specs.statement.JudgedEvents.{fault_by}
use Rattle.tl_commits.specs.statement.Events.{Events}
use Rattle.tl_lines.specs.declared.fault.Fault.{Fault}
use Rattle.tl_lines.specs.declared.fault.Fault.TheVariants.{Beyond}
use Rattle.tl_events.specs.declared.commit.Event.{Event}
use Rattle.tl_params.specs.declared.liberties.Liberties.{Liberties}
use Rattle.tl_wide.specs.statement.Naming.{is_beyond}
use Rattle.tl_wide_events.specs.declared.commit.WideEvent.{WideEvent}
use Rattle.tl_wide_events.specs.statement.Narrowed.{WideEvents, events_of, names_of, narrowed}
use Rattle.tl_wide_lines.specs.statement.PartFaults.{or_fault}

-- the fault of the first of these events of a link that is at fault, after the events of e
unfoldable pub first_fault : {w : ℕ} → Bool → MarkedLinks → Liberties → Link → List (Event w) → Events w
    → Option Fault
first_fault together links may link [] e = None
first_fault {w} together links may link (x ∷ events) e =
    or_fault (fault_by w together links may link x e) (first_fault together links may link events ((link, x) ∷ e))

-- these events if there is a fault, or else the others
abbrev pub unless_fault : {w : ℕ} → Option Fault → Events w → Events w → Events w
unless_fault None e more = more
unless_fault (Some found) e more = e

-- the events of e, and after them those before the first of these that is at fault
unfoldable pub events_taken : {w : ℕ} → Bool → MarkedLinks → Liberties → Link → List (Event w) → Events w
    → Events w
events_taken together links may link [] e = e
events_taken {w} together links may link (x ∷ events) e =
    unless_fault (fault_by w together links may link x e) e
    (events_taken together links may link events ((link, x) ∷ e))

-- The fault of a wide event after those of t, the newest first: no number is left for one of its names, or one of the
-- events that it becomes is at fault after the trace that t becomes.
abbrev pub wide_fault_by : (w : ℕ) → Bool → MarkedLinks → Liberties → Link → WideEvent w → WideEvents w
    → Option Fault
wide_fault_by w together links may link x t =
    if is_beyond link (names_of ((link, x) ∷ t)) then Some Beyond
    else first_fault together links may link (events_of link x (names_of ((link, x) ∷ t))) (narrowed t)
