-- The events that a wide event becomes, judged one after another.
use Rattle.std.proofs.Common.{◌≡◌, ◌∙◌, ℕ, Bool, false, List, [], ◌∷◌, ap, refl, subst, sym}
use Rattle.std.specs.Prelude.{Option, Some, None}
use Rattle.tl_beat.specs.declared.beat.Link.{Link}
use Rattle.tl_commit_lines.specs.code.EventWatching.{JudgesEvent, KnowsEvents}
use Rattle.tl_commit_lines.specs.declared.judge.EventJudge.{EventJudge}
use Rattle.tl_commit_lines.specs.statement.MarkedHeader.{MarkedLinks}
use Rattle.tl_commit_lines.specs.statement.JudgedEvents.{fault_by}
use Rattle.tl_commits.specs.statement.Events.{Events}
use Rattle.tl_lines.specs.declared.fault.Fault.{Fault}
use Rattle.tl_events.specs.declared.commit.Event.{Event}
use Rattle.tl_params.specs.declared.liberties.Liberties.{Liberties}
use Rattle.tl_events.specs.declared.commit.Commit.{Commit}
use Rattle.tl_events.specs.declared.commit.Event.TheVariants as event
use Rattle.tl_beat.specs.declared.beat.Beat.{Beat}
use Rattle.tl_wide.specs.declared.beat.WideBeat.{WideBeat}
use Rattle.tl_wide.specs.statement.Naming.{is_beyond, narrow_address}
use Rattle.tl_wide.specs.statement.Narrowed.{beats_of}
use Rattle.tl_wide.specs.statement.Width.{part_width}
use Rattle.tl_wide_events.specs.declared.commit.WideCommit.{WideCommit}
use Rattle.tl_wide_events.specs.declared.commit.WideEvent.{WideEvent}
use Rattle.tl_wide_events.specs.declared.commit.WideEvent.TheVariants as wide
use Rattle.tl_wide_events.specs.statement.Narrowed.{WideEvents, address_of, as_events, commit_at, events_of, names_of, with_events}
use Rattle.tl_wide_events.specs.statement.WideEventLine.{SpellsWideEvent}
use Rattle.tl_wide_event_lines.specs.code.EventJudging.{EventsLeft, IsValid, JudgesEvents}
use Rattle.tl_wide_event_lines.specs.statement.EventFaults.{events_taken, first_fault, unless_fault}
use Rattle.tl_wide_lines.specs.statement.PartFaults.{or_fault}

-- what a judge says of one event after what it knows
abbrev pub JudgesOne : {p : ℕ} → EventJudge p → EventJudge p → Link → Event p → Option Fault → Type 0
JudgesOne {p} old new link x answer =
    (together : Bool) (links : MarkedLinks) (may : Liberties) (e : Events p)
    → KnowsEvents together old links may e → JudgesEvent together new links may e link x answer

-- nothing has been judged
pub none-judged : {p : ℕ} (judge : EventJudge p) (link : Link) (events : List (Event p))
    → EventsLeft judge judge link events events
none-judged judge link events = λ together links may e known. (e, known, refl, refl)

module _ {p : ℕ} (old now : EventJudge p) (link : Link) (events : List (Event p)) where
  -- an event is taken
  pub event_taken : (new : EventJudge p) (x : Event p) (left more : List (Event p)) → left ≡ x ∷ more
      → EventsLeft old now link events left → JudgesOne now new link x None → EventsLeft old new link events more
  unfolding first_fault events_taken
  event_taken new x left more is so_far judged = λ together links may e known.
      let (u, knows, same, taken) = (rw is at so_far) together links may e known in
      let (good, known_more) = judged together links may u knows in (
        (link, x) ∷ u,
        known_more,
        same ∙ ap (λ (o : Option Fault). or_fault o (first_fault together links may link more ((link, x) ∷ u))) good,
        taken ∙ ap (λ (o : Option Fault). unless_fault o u (events_taken together links may link more ((link, x) ∷ u)))
            good,
      )

  -- an event is at fault
  pub event_bad : (new : EventJudge p) (x : Event p) (left more : List (Event p)) (found : Fault) → left ≡ x ∷ more
      → EventsLeft old now link events left → JudgesOne now new link x (Some found)
      → JudgesEvents old new link events (Some found)
  unfolding first_fault events_taken
  event_bad new x left more found is so_far judged = λ together links may e known.
      let (u, knows, same, taken) = (rw is at so_far) together links may e known in
      let (bad, kept) = judged together links may u knows in (
        same ∙ ap (λ (o : Option Fault). or_fault o (first_fault together links may link more ((link, x) ∷ u))) bad,
        subst (λ (v : Events p). KnowsEvents together new links may v)
            (sym (taken ∙ ap (λ (o : Option Fault). unless_fault o u (events_taken together links may link more
            ((link, x) ∷ u))) bad)) kept,
      )

  -- no event is left
  pub events_good : (left : List (Event p)) → left ≡ [] → EventsLeft old now link events left
      → JudgesEvents old now link events None
  unfolding first_fault events_taken
  events_good left is so_far = λ together links may e known.
      let (u, knows, same, taken) = (rw is at so_far) together links may e known in
      (same, subst (λ (v : Events p). KnowsEvents together now links may v) (sym taken) knows)

-- one event alone
pub one-judged : {p : ℕ} (old new : EventJudge p) (link : Link) (x : Event p) (answer : Option Fault)
    → JudgesOne old new link x answer → JudgesEvents old new link (x ∷ []) answer
one-judged old new link x None h =
    events_good old new link (x ∷ []) [] refl
    (event_taken old old link (x ∷ []) new x (x ∷ []) [] refl (none-judged old link (x ∷ [])) h)
one-judged old new link x (Some found) h =
    event_bad old old link (x ∷ []) new x (x ∷ []) [] found refl (none-judged old link (x ∷ [])) h

-- where no event is at fault all are taken
pub all-taken : {p : ℕ} (together : Bool) (links : MarkedLinks) (may : Liberties) (link : Link)
    (events : List (Event p)) (e : Events p) → first_fault together links may link events e ≡ None
    → events_taken together links may link events e ≡ with_events link events e
unfolding first_fault events_taken with_events
all-taken together links may link [] e good = refl
all-taken {p} together links may link (x ∷ events) e good =
    go (fault_by p together links may link x e) (all-taken together links may link events ((link, x) ∷ e)) good
  where
    go : (o : Option Fault)
        → (first_fault together links may link events ((link, x) ∷ e) ≡ None
        → events_taken together links may link events ((link, x) ∷ e) ≡ with_events link events ((link, x) ∷ e))
        → or_fault o (first_fault together links may link events ((link, x) ∷ e)) ≡ None
        → unless_fault o e (events_taken together links may link events ((link, x) ∷ e))
        ≡ with_events link events ((link, x) ∷ e)
    go None all good = all good
    go (Some found) all good = absurd cc

-- ---- what becomes of an event

-- a commit that a line spells has a valid piece
pub event-valid : {w : ℕ} (line : List ℕ) (link : Link) (x : WideEvent w) → SpellsWideEvent line link x → IsValid x
event-valid line link (wide.Beat x) spells = tt
event-valid line link (wide.Commit x) spells = spells.is_commit

-- what a beat becomes, with each part as an event
pub beat-becomes : {w : ℕ} {A : Type 0} (link : Link) (x : WideBeat w) (t : WideEvents w)
    (parts : List (Beat (part_width w)))
    → (is_beyond link (names_of ((link, wide.Beat x) ∷ t)) ≡ false)
    × (parts ≡ beats_of link x (names_of ((link, wide.Beat x) ∷ t))) × A
    → (is_beyond link (names_of ((link, wide.Beat x) ∷ t)) ≡ false)
    × (as_events parts ≡ events_of link (wide.Beat x) (names_of ((link, wide.Beat x) ∷ t))) × A
beat-becomes {w} link x t parts (within, same, known) =
    (within, ap (λ (p : List (Beat (part_width w))). as_events p) same, known)

-- what a commit becomes, as an event alone
pub commit-becomes : {w : ℕ} {A : Type 0} (link : Link) (x : WideCommit) (t : WideEvents w) (narrowed : Commit)
    → (is_beyond link (names_of ((link, wide.Commit x) ∷ t)) ≡ false)
    × (narrowed ≡ commit_at x (narrow_address (names_of ((link, wide.Commit x) ∷ t)) (address_of x))) × A
    → (is_beyond link (names_of ((link, wide.Commit x) ∷ t)) ≡ false)
    × (event.Commit narrowed ∷ [] ≡ events_of {w = w} link (wide.Commit x) (names_of ((link, wide.Commit x) ∷ t))) × A
commit-becomes link x t narrowed (within, same, known) =
    (within, ap (λ (c : Commit). event.Commit c ∷ []) same, known)
