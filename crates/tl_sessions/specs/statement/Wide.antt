-- The answer of a monitor or a judge of wide beats to a beat or a commit, and its knowledge afterwards.
use Rattle.std.specs.Prelude.{ℕ, Bool, true, false, ◌≡◌, ◌⊎◌, List, [], ◌∷◌, option_map, Option, Some, None, ⊤}
use Rattle.std.specs.Prelude.{if◌then◌else◌}
use Rattle.tl_beat.specs.declared.beat.Beat.{Beat}
use Rattle.tl_beat.specs.declared.beat.Link.{Link}
use Rattle.tl_commits.specs.declared.rule.CommitBreach.{CommitBreach}
use Rattle.tl_commits.specs.declared.rule.CommitBreach.TheVariants.{OfBeats}
use Rattle.tl_commits.specs.statement.Completeness.{Completeness}
use Rattle.tl_commits.specs.statement.Breaches.{broken_event}
use Rattle.tl_commits.specs.statement.Events.{Events, beats_of}
use Rattle.tl_commits.specs.statement.Knows.{KnowsCommits}
use Rattle.tl_events.specs.declared.commit.Event.{Event}
use Rattle.tl_events.specs.declared.commit.Event.TheVariants as narrow
use Rattle.tl_events.specs.statement.CommitLine.{IsCommit}
use Rattle.tl_monitor.specs.statement.Knows.{KnowsUnder}
use Rattle.tl_monitor.specs.statement.Numbers.{AnyMore, numbers_under}
use Rattle.tl_params.specs.declared.level.Level.{Level}
use Rattle.tl_params.specs.declared.liberties.Liberties.{Liberties}
use Rattle.tl_params.specs.declared.rule.Rule.{Rule}
use Rattle.tl_rules.specs.statement.Conformance.{on_link}
use Rattle.tl_rules.specs.statement.Liberties.{broken_on_link_under}
use Rattle.tl_together.specs.declared.breach.Breach.TheVariants.{OfLink}
use Rattle.tl_together.specs.statement.Coherence.{broken_together}
use Rattle.tl_together.specs.statement.Knows as together
use Rattle.tl_pictures.specs.declared.answer.Answer.{Answer}
use Rattle.tl_pictures.specs.statement.Answer.{breaks_commits, closed, no_memory, ok, too_many, IsBad}
use Rattle.tl_pictures.specs.statement.Codes.{link_at}
use Rattle.tl_pictures.specs.statement.CommitPicture.{wide_commit_shown}
use Rattle.tl_pictures.specs.statement.WidePicture.{shown_wide}
use Rattle.tl_wide.specs.statement.Naming.{is_beyond}
use Rattle.tl_wide.specs.statement.Narrowing.{Follows}
use Rattle.tl_wide.specs.statement.Pieces.{left_of}
use Rattle.tl_wide.specs.statement.Verdict.{WideFault, Breaks, Beyond}
use Rattle.tl_wide.specs.statement.Width.{part_width}
use Rattle.tl_wide_events.specs.declared.commit.WideEvent.{WideEvent}
use Rattle.tl_wide_events.specs.declared.commit.WideEvent.TheVariants as wide
use Rattle.tl_wide_events.specs.statement.Narrowed.{WideEvents, as_events, events_of, names_of, narrowed, with_events}
use Rattle.tl_sessions.specs.declared.part_judge.Left.{Left}
use Rattle.tl_sessions.specs.declared.part_judge.Left.TheVariants as left
use Rattle.tl_sessions.specs.declared.part_judge.PartJudge.{PartJudge}
use Rattle.tl_sessions.specs.declared.part_judge.PartJudge.TheVariants.{OfLinks, OfAll, OfEvents}
use Rattle.tl_sessions.specs.declared.shown.Shown.{Shown}
use Rattle.tl_sessions.specs.declared.shown.Shown.TheVariants as fields
use Rattle.tl_sessions.specs.declared.wide.Begun.{Begun}
use Rattle.tl_sessions.specs.declared.wide.WideJudge.{WideJudge}

-- ---- the fault of a wide event, which is a beat or a commit

-- How links are judged: each by itself, all together, or all together with the commits of their cores. Then it is
-- known how complete the trace is.
pub data Judging : Type 0 where
  Alone : Judging
  Together : Judging
  WithCommits : Completeness → Judging

-- the rule that a beat breaks; a commit breaks none
abbrev pub of_beat : {w : ℕ} {A : Type 0} → (Beat w → Option A) → Event w → Option A
of_beat rule (narrow.Beat x) = rule x
of_beat rule (narrow.Commit x) = None

-- a rule of a link
abbrev pub of_link : Rule → CommitBreach
of_link rule = OfBeats (OfLink rule)

-- The first rule that an event breaks after a trace, whose newest event is first: of its link, or, if all links are
-- judged together, also of memory, or of stores and loads. Commits are judged only with the commits of cores.
abbrev pub breach_of : {w : ℕ} → Judging → List Level → Liberties → Link → Event w → Events w → Option CommitBreach
breach_of Alone levels l link x e =
    option_map of_link (of_beat (λ y. broken_on_link_under l levels (link, y) (beats_of e)) x)
breach_of Together levels l link x e =
    option_map OfBeats (of_beat (λ y. broken_together levels l (link, y) (beats_of e)) x)
breach_of (WithCommits complete) levels l link x e = broken_event levels complete l link x e

-- this rule, or else the other
abbrev pub or_breach : Option CommitBreach → Option CommitBreach → Option CommitBreach
or_breach None other = other
or_breach (Some found) other = Some found

-- the rule that the first of these events at fault breaks, each after the events before it
unfoldable pub part_breach : {w : ℕ} → Judging → List Level → Liberties → Link → List (Event w) → Events w
    → Option CommitBreach
part_breach judging levels l link [] e = None
part_breach judging levels l link (x ∷ events) e =
    or_breach (breach_of judging levels l link x e) (part_breach judging levels l link events ((link, x) ∷ e))

-- The fault of a wide event after a wide trace: that of the first event at fault of those that it becomes, or that it
-- names a block, a source or a sink for which no number is left.
abbrev pub wide_fault : {w : ℕ} → Judging → List Level → Liberties → Link × WideEvent w → WideEvents w
    → Option (WideFault CommitBreach)
wide_fault judging levels l x t =
    if is_beyond x.0 (names_of (x ∷ t)) then Some Beyond
    else option_map Breaks (part_breach judging levels l x.0 (events_of x.0 x.1 (names_of (x ∷ t))) (narrowed t))

-- ---- knowledge

-- The judge of the events that wide events become knows a trace of them. A monitor, and a judge of beats, know its beats.
abbrev pub KnowsParts : {p : ℕ} → Judging → PartJudge p → List Level → Liberties → Events p → Type 0
KnowsParts Alone (OfLinks m) levels l e = KnowsUnder m levels l (beats_of e) false
KnowsParts Together (OfAll j) levels l e = together.Knows j levels l (beats_of e) false
KnowsParts (WithCommits complete) (OfEvents j) levels l e = KnowsCommits j levels complete l e
KnowsParts _ _ levels l e = ⊥

-- a beat or a commit in C: the number of its link, and its fields
abbrev pub Pushed : Type 0
Pushed = ℕ × Shown

-- the wide event with these fields, if there is one
abbrev pub event_shown : (w : ℕ) → Shown → Option (WideEvent w)
event_shown w (fields.Beat x) = option_map wide.Beat (shown_wide w x)
event_shown w (fields.Commit x) = option_map wide.Commit (wide_commit_shown x)

-- the events that are left of a wide event: parts of a beat, or the commit that a commit becomes
abbrev pub events_left : {w p : ℕ} → Left → WideEvent w → List (Event p)
events_left (left.Commit commit) x = narrow.Commit commit ∷ []
events_left (left.Parts parts) (wide.Beat x) = as_events (left_of x parts)
events_left (left.Parts parts) (wide.Commit x) = []

-- a commit that is left is of a piece that a line can spell
abbrev pub IsValidLeft : Left → Type 0
IsValidLeft (left.Parts parts) = ⊤
IsValidLeft (left.Commit commit) = IsCommit commit

-- the event that was begun is the one with these fields, on the link with this number
abbrev pub IsOf : Begun → ℕ → Shown → Type 0
IsOf begun code x = (begun.link ≡ code) × (begun.shown ≡ x)

-- This is left of the event x after the trace t. The other events that it becomes were taken after t, and none was at
-- fault.
pub record HasLeft {w : ℕ} (s : WideJudge (part_width w)) (judging : Judging) (levels : List Level) (l : Liberties)
    (t : WideEvents w) (x : Link × WideEvent w) (rest : Left) : Type 0 where
  pub within : is_beyond x.0 (names_of (x ∷ t)) ≡ false
  pub follows : Follows s.narrower.value (names_of (x ∷ t))
  pub valid : IsValidLeft rest
  pub taken : Events (part_width w)
  pub knows : KnowsParts judging s.judge levels l taken
  pub fault_is : part_breach judging levels l x.0 (events_of x.0 x.1 (names_of (x ∷ t))) (narrowed t)
      ≡ part_breach judging levels l x.0 (events_left rest x.1) taken
  pub trace_is : with_events x.0 (events_of x.0 x.1 (names_of (x ∷ t))) (narrowed t)
      ≡ with_events x.0 (events_left rest x.1) taken

-- the event with these fields was begun after the trace t, and is kept with the rest of it
pub record HasBegun {w : ℕ} (s : WideJudge (part_width w)) (judging : Judging) (levels : List Level) (l : Liberties)
    (t : WideEvents w) (pushed : Pushed) : Type 0 where
  pub begun : Begun
  pub event : Link × WideEvent w
  pub kept : s.begun ≡ Some begun
  pub same : IsOf begun pushed.0 pushed.1
  pub link_is : Some event.0 ≡ link_at pushed.0
  pub event_is : Some event.1 ≡ event_shown w pushed.1
  pub rest : HasLeft s judging levels l t event begun.rest

-- the trace t was taken, and an event was begun after it, if there is one
abbrev pub KnowsOpen : {w : ℕ} → WideJudge (part_width w) → Judging → List Level → Liberties → WideEvents w
    → Option Pushed → Type 0
KnowsOpen s judging levels l t None =
    (s.begun ≡ None) × Follows s.narrower.value (names_of t) × KnowsParts judging s.judge levels l (narrowed t)
KnowsOpen s judging levels l t (Some x) = HasBegun s judging levels l t x

-- the same unless it is closed; it is closed after a broken rule
abbrev pub KnowsWide : {w : ℕ} → WideJudge (part_width w) → Judging → List Level → Liberties → WideEvents w
    → Option Pushed → Bool → Type 0
KnowsWide s judging levels l t begun true = s.closed ≡ true
KnowsWide s judging levels l t begun false = (s.closed ≡ false) × KnowsOpen s judging levels l t begun

-- ---- the answer to an event

-- the event may be pushed: none was begun, or this one was
abbrev pub MayPush : Option Pushed → Pushed → Type 0
MayPush None x = ⊤
MayPush (Some begun) x = begun ≡ x

-- another event was begun
abbrev pub IsOther : Option Pushed → Pushed → Type 0
IsOther None x = ⊥
IsOther (Some begun) x = ¬ (begun ≡ x)

-- Memory ran out at this event after a trace. Of links that are judged each by itself, it is a beat that breaks no rule,
-- and makes a number of pending keys, or that of held blocks, grow. Of links that are judged together nothing is said.
abbrev pub RunsOutAtEvent : {w : ℕ} → Judging → List Level → Liberties → Link → Event w → Events w → Type 0
RunsOutAtEvent Alone levels l link (narrow.Beat x) e =
    (breach_of Alone levels l link (narrow.Beat x) e ≡ None)
    × AnyMore (numbers_under l (on_link link.0 (beats_of e))) (numbers_under l (x ∷ on_link link.0 (beats_of e)))
RunsOutAtEvent Alone levels l link (narrow.Commit x) e = ⊥
RunsOutAtEvent Together levels l link x e = ⊤
RunsOutAtEvent (WithCommits complete) levels l link x e = ⊤

-- memory ran out at the next of these events
abbrev pub RunsOutAt : {w : ℕ} → Judging → List Level → Liberties → Link → List (Event w) → Events w → Type 0
RunsOutAt judging levels l link [] e = ⊥
RunsOutAt judging levels l link (x ∷ events) e = RunsOutAtEvent judging levels l link x e

-- the event was begun, and memory ran out at the next of those that it becomes
abbrev pub StopsAtPart : {w : ℕ} → WideJudge (part_width w) → Judging → List Level → Liberties → WideEvents w → Pushed
    → Type 0
StopsAtPart {w} new judging levels l t x =
    (new.closed ≡ false) × (has : HasBegun new judging levels l t x)
    × RunsOutAt judging levels l has.event.0 (events_left {p = part_width w} has.begun.rest has.event.1) has.rest.taken

-- Without memory the event isn't taken. If it wasn't begun, there may be no memory for its names, and then it isn't
-- begun either. Otherwise memory ran out at the next event of those that it becomes.
abbrev pub RunsOut : {w : ℕ} → WideJudge (part_width w) → Judging → List Level → Liberties → WideEvents w → Option Pushed
    → Pushed → Type 0
RunsOut new judging levels l t None x =
    KnowsWide new judging levels l t None false ⊎ StopsAtPart new judging levels l t x
RunsOut new judging levels l t (Some begun) x = StopsAtPart new judging levels l t x

-- the answer to an event that has this fault, or none
abbrev pub AnswersFault : {w : ℕ} → WideJudge (part_width w) → Judging → List Level → Liberties → WideEvents w
    → Option Pushed → Link × WideEvent w → Option (WideFault CommitBreach) → Answer → Type 0
AnswersFault new judging levels l t begun x None answer =
    (answer ≡ ok) × KnowsWide new judging levels l (x ∷ t) None false
AnswersFault new judging levels l t begun x (Some Beyond) answer =
    (answer ≡ too_many) × KnowsWide new judging levels l t begun false
AnswersFault new judging levels l t begun x (Some (Breaks breach)) answer =
    (answer ≡ breaks_commits breach) × (new.closed ≡ true)

-- the answer to an event, by whether an earlier one broke a rule, and another one was begun
abbrev pub AnswersWide : {w : ℕ} → WideJudge (part_width w) → WideJudge (part_width w) → Judging → List Level → Liberties
    → WideEvents w → Option Pushed → Bool → Pushed → Link × WideEvent w → Answer → Type 0
AnswersWide old new judging levels l t begun true pushed x answer = (answer ≡ closed) × (new ≡ old)
AnswersWide old new judging levels l t begun false pushed x answer =
    (IsOther begun pushed × IsBad answer old new)
    ⊎ (MayPush begun pushed × (answer ≡ no_memory) × RunsOut new judging levels l t begun pushed)
    ⊎ (MayPush begun pushed
    × AnswersFault new judging levels l t begun x (wide_fault judging levels l x t) answer)

-- the answer to an event on a link, after any wide trace that is known
abbrev pub JudgedWide : {w : ℕ} → WideJudge (part_width w) → WideJudge (part_width w) → Pushed → Link × WideEvent w
    → Answer → Type 0
JudgedWide {w} old new pushed x answer =
    (judging : Judging) (levels : List Level) (l : Liberties) (t : WideEvents w) (begun : Option Pushed) (closed : Bool)
    → KnowsWide old judging levels l t begun closed
    → AnswersWide old new judging levels l t begun closed pushed x answer

-- the answer to an event on a link; None of either is bad input
abbrev pub ToldOfWideEvent : {w : ℕ} → WideJudge (part_width w) → WideJudge (part_width w) → Pushed → Option Link
    → Option (WideEvent w) → Answer → Type 0
ToldOfWideEvent old new pushed (Some link) (Some event) answer = JudgedWide old new pushed (link, event) answer
ToldOfWideEvent old new pushed _ _ answer = IsBad answer old new

-- the answer to the wide beat or the commit with these fields, on the link with this number, 0 to 15
abbrev pub ToldWide : (w : ℕ) → WideJudge (part_width w) → WideJudge (part_width w) → ℕ → Shown → Answer → Type 0
ToldWide w old new link x answer = ToldOfWideEvent old new (link, x) (link_at link) (event_shown w x) answer
