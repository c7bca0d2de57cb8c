-- What a judge of wide beats and commits has taken, event by event.
use Rattle.std.proofs.Common.{◌≡◌, ◌∙◌, ℕ, List, [], ◌∷◌, ap, inl, inr, refl, subst, sym}
use Rattle.std.specs.Prelude.{false, Option, Some, None}
use Rattle.tl_beat.specs.declared.beat.Link.{Link}
use Rattle.tl_commit_lines.specs.code.EventWatching.{KnowsEvents}
use Rattle.tl_lines.specs.declared.fault.Fault.{Fault}
use Rattle.tl_events.specs.declared.commit.Event.{Event}
use Rattle.tl_report.specs.code.Taking.{TakesItem}
use Rattle.tl_report.specs.code.WideEventJudging.{KnowsWideEvents, wide_event_takings}
use Rattle.tl_report.specs.declared.wide_events.SpelledEvent.{SpelledEvent}
use Rattle.tl_report.specs.declared.wide_events.WideEventTaker.{WideEventTaker}
use Rattle.tl_report.specs.statement.Form.{EventTerms}
use Rattle.tl_wide.specs.statement.Naming.{is_beyond}
use Rattle.tl_wide.specs.statement.Narrowing.{Follows}
use Rattle.tl_wide.specs.statement.Width.{part_width}
use Rattle.tl_wide_event_lines.proofs.EventsJudged.{all-taken}
use Rattle.tl_wide_event_lines.proofs.JudgedLines.{fault-beyond, fault-within}
use Rattle.tl_wide_event_lines.specs.code.EventJudging.{JudgesWideEvent, KnowsNone}
use Rattle.tl_wide_event_lines.specs.declared.judge.WideEventJudge.{WideEventJudge}
use Rattle.tl_wide_event_lines.specs.statement.EventFaults.{events_taken, first_fault, wide_fault_by}
use Rattle.tl_wide_events.specs.declared.commit.WideEvent.{WideEvent}
use Rattle.tl_wide_events.specs.statement.Narrowed.{WideEvents, events_of, names_of, narrowed, with_events}

-- a judge that has seen no event has taken none
pub takes-none : (w p : ℕ) (terms : EventTerms) (judge : WideEventJudge p)
    → KnowsNone terms.together terms.links terms.may judge → KnowsWideEvents {w = w} terms judge []
unfolding narrowed
takes-none w p terms judge (follows, known) = record {
  events = λ q. [];
  are_events = refl;
  follows = follows w;
  known = known;
}

module _ {w p : ℕ} (width : p ≡ part_width w) (terms : EventTerms) (old new : WideEventJudge p) (link : Link)
    (x : WideEvent w) (t : WideEvents w) (k : KnowsWideEvents terms old t) where
  -- the events that it becomes, as events of beats of any width
  module _ (events : (q : ℕ) → List (Event q))
      (same : events (part_width w) ≡ events_of link x (names_of ((link, x) ∷ t))) where
    fault-is : (answer : Option Fault)
        → first_fault terms.together terms.links terms.may link (events p) (k.events p) ≡ answer
        → first_fault terms.together terms.links terms.may link (events_of link x (names_of ((link, x) ∷ t))) (narrowed t)
        ≡ answer
    fault-is answer is =
        rw (same, k.are_events) at
        (subst (λ q. first_fault terms.together terms.links terms.may link (events q) (k.events q) ≡ answer) width is)

    takes-it : first_fault terms.together terms.links terms.may link (events p) (k.events p) ≡ None
        → KnowsEvents terms.together new.judge terms.links terms.may
        (events_taken terms.together terms.links terms.may link (events p) (k.events p))
        → Follows new.narrower (names_of ((link, x) ∷ t)) → KnowsWideEvents terms new ((link, x) ∷ t)
    unfolding narrowed
    takes-it good known follows = record {
      events = λ q. with_events link (events q) (k.events q);
      are_events = ap (λ l. with_events link l (k.events (part_width w))) same
          ∙ ap (λ u. with_events link (events_of link x (names_of ((link, x) ∷ t))) u) k.are_events;
      follows = follows;
      known = subst (λ u. KnowsEvents terms.together new.judge terms.links terms.may u)
          (all-taken terms.together terms.links terms.may link (events p) (k.events p) good) known;
    }

  -- what a judge answers of the next event
  abbrev AnswersNext : Option Fault → Type 0
  AnswersNext None =
      (wide_fault_by w terms.together terms.links terms.may link x t ≡ None) × KnowsWideEvents terms new ((link, x) ∷ t)
  AnswersNext (Some fault) = wide_fault_by w terms.together terms.links terms.may link x t ≡ Some fault

  within : (answer : Option Fault) → is_beyond link (names_of ((link, x) ∷ t)) ≡ false
      → first_fault terms.together terms.links terms.may link (events_of link x (names_of ((link, x) ∷ t))) (narrowed t)
      ≡ answer → wide_fault_by w terms.together terms.links terms.may link x t ≡ answer
  within answer inside is = fault-within w terms.together terms.links terms.may link x t inside ∙ is

  pub next-answered : (answer : Option Fault) → JudgesWideEvent old new link x answer → AnswersNext answer
  next-answered None (inl (events, judged, becomes)) =
      let (inside, same, follows) = becomes t k.follows in
      let (good, known) = judged terms.together terms.links terms.may (k.events p) k.known in
      (within None inside (fault-is events same None good), takes-it events same good known follows)
  next-answered (Some fault) (inl (events, judged, becomes)) =
      let (inside, same, follows) = becomes t k.follows in
      let (bad, known) = judged terms.together terms.links terms.may (k.events p) k.known in
      within (Some fault) inside (fault-is events same (Some fault) bad)
  next-answered None (inr (is, kept, past)) = absurd cc
  next-answered (Some fault) (inr (is, kept, past)) =
      fault-beyond w terms.together terms.links terms.may link x t (past t k.follows).0 ∙ sym is

-- a judge takes the next event if it isn't at fault
pub takes-event : {w p : ℕ} → p ≡ part_width w → (old new : WideEventTaker w p) (item : SpelledEvent w)
    (answer : Option Fault) → JudgesWideEvent old.judge new.judge item.link item.event answer
    → TakesItem (wide_event_takings w p) old new item answer
takes-event width old new item None judged = λ terms t k.
    next-answered width terms old.judge new.judge item.link item.event t k None judged
takes-event width old new item (Some fault) judged = λ terms t k.
    next-answered width terms old.judge new.judge item.link item.event t k (Some fault) judged
