-- What a judge of wide events answers of an event, and of a line.
use Rattle.std.specs.Prelude.{◌≡◌, ◌⊎◌, ◌∷◌, ℕ, Bool, true, false, List, [], Option, Some, ⊤}
use Rattle.tl_beat.specs.declared.beat.Link.{Link}
use Rattle.tl_beat.specs.declared.fault.LineFault.{LineFault}
use Rattle.tl_commit_lines.specs.code.EventWatching.{KnowsEvents}
use Rattle.tl_commit_lines.specs.declared.judge.EventJudge.{EventJudge}
use Rattle.tl_commits.specs.statement.Events.{Events}
use Rattle.tl_lines.specs.declared.fault.Fault.{Fault}
use Rattle.tl_lines.specs.declared.fault.Fault.TheVariants.{Beyond, Line}
use Rattle.tl_events.specs.declared.commit.Event.{Event}
use Rattle.tl_params.specs.declared.liberties.Liberties.{Liberties}
use Rattle.tl_wide.specs.statement.Naming.{is_beyond}
use Rattle.tl_wide.specs.statement.Narrowing.{Follows}
use Rattle.tl_wide.specs.statement.Width.{part_width}
use Rattle.tl_wide_events.specs.declared.commit.WideEvent.{WideEvent}
use Rattle.tl_wide_events.specs.declared.commit.WideEvent.TheVariants as wide
use Rattle.tl_wide_events.specs.statement.Narrowed.{WideEvents, events_of, names_of}
use Rattle.tl_wide_events.specs.statement.WideCommitLine.{IsWideCommit}
use Rattle.tl_wide_events.specs.statement.WideEventLine.{SpellsWideEvent, wide_event_fault}
use Rattle.tl_commit_lines.specs.statement.MarkedHeader.{MarkedLinks}
use Rattle.tl_wide_event_lines.specs.declared.judge.WideEventJudge.{WideEventJudge}
use Rattle.tl_wide_event_lines.specs.statement.EventFaults.{events_taken, first_fault}

-- a commit is of a piece that a line can spell
abbrev pub IsValid : {w : ℕ} → WideEvent w → Type 0
IsValid (wide.Beat x) = ⊤
IsValid (wide.Commit x) = IsWideCommit x

-- what a judge answers of these events, and what it has taken of them
abbrev pub JudgesEvents : {p : ℕ} → EventJudge p → EventJudge p → Link → List (Event p) → Option Fault → Type 0
JudgesEvents {p} old new link events answer =
    (together : Bool) (links : MarkedLinks) (may : Liberties) (e : Events p)
    → KnowsEvents together old links may e
    → (first_fault together links may link events e ≡ answer)
    × KnowsEvents together new links may (events_taken together links may link events e)

-- the events that are left of these have the same fault, after those that were taken
abbrev pub EventsLeft : {p : ℕ} → EventJudge p → EventJudge p → Link → List (Event p) → List (Event p) → Type 0
EventsLeft {p} old now link events left =
    (together : Bool) (links : MarkedLinks) (may : Liberties) (e : Events p)
    → KnowsEvents together old links may e
    → (u : Events p) × KnowsEvents together now links may u
    × (first_fault together links may link events e ≡ first_fault together links may link left u)
    × (events_taken together links may link events e ≡ events_taken together links may link left u)

-- What a judge answers of a wide event: what it answers of the events that it becomes, whatever the bytes of their beats,
-- or its names are too many.
abbrev pub JudgesWideEvent : {w p : ℕ} → WideEventJudge p → WideEventJudge p → Link → WideEvent w → Option Fault
    → Type 0
JudgesWideEvent {w} {p} old new link x answer =
    ((events : (q : ℕ) → List (Event q)) × JudgesEvents old.judge new.judge link (events p) answer
    × ((t : WideEvents w) → Follows old.narrower (names_of t) → (is_beyond link (names_of ((link, x) ∷ t)) ≡ false)
    × (events (part_width w) ≡ events_of link x (names_of ((link, x) ∷ t)))
    × Follows new.narrower (names_of ((link, x) ∷ t))))
    ⊎ ((answer ≡ Some Beyond) × (new.judge ≡ old.judge)
    × ((t : WideEvents w) → Follows old.narrower (names_of t) → (is_beyond link (names_of ((link, x) ∷ t)) ≡ true)
    × Follows new.narrower (names_of t)))

-- what it answers of a line: the line spells no event, or one of which it answers
abbrev pub JudgesLineOf : {p : ℕ} → ℕ → WideEventJudge p → WideEventJudge p → List ℕ → Option Fault → Type 0
JudgesLineOf w old new line answer =
    ((of_line : LineFault) × (wide_event_fault w line ≡ Some of_line) × (answer ≡ Some (Line of_line)))
    ⊎ ((link : Link) × (x : WideEvent w) × SpellsWideEvent line link x × JudgesWideEvent old new link x answer)

-- a judge of these links that has seen no event, of whatever width
abbrev pub KnowsNone : {p : ℕ} → Bool → MarkedLinks → Liberties → WideEventJudge p → Type 0
KnowsNone together links may judge =
    ((w : ℕ) → Follows {w = w} judge.narrower []) × KnowsEvents together judge.judge links may []
