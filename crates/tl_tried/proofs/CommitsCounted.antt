-- What a handler of traces of any version, with and without commits, says, and the situations that it has.
use Rattle.std.proofs.Common.{◌≡◌, ◌∙◌, ◌+◌, ◌-◌, ℕ, false, List, [], ◌∷◌, ◌++◌, length, ap, sym, subst, arith, append_assoc}
use Rattle.std.proofs.Common.{inl, inr, refl}
use Rattle.std.proofs.lemmas.List.{append-nil}
use Rattle.std.specs.Prelude.{IfOk, Option, Some, None, Result, Ok, Err}
use Rattle.std.specs.declared.alloc.Global.{Global}
use Rattle.tl_beat.specs.declared.fault.LineFault.TheVariants.{F1}
use Rattle.tl_commit_lines.proofs.EventsJudged.{trace-judged}
use Rattle.tl_commit_lines.proofs.JudgedLines.{line-stops, lines-end, open-event}
use Rattle.tl_commit_lines.proofs.MarkedHeaders.{open_marked}
use Rattle.tl_commit_lines.specs.code.EventWatching.{KnowsEventTrace}
use Rattle.tl_commit_lines.specs.declared.judge.EventJudge.{EventJudge}
use Rattle.tl_lines.proofs.Judged.{said_at_end}
use Rattle.tl_lines.specs.code.Judging.{Ends, EndsHere, Finishes, Judges, Stops}
use Rattle.tl_lines.specs.code.Progress.{HasAll}
use Rattle.tl_lines.specs.code.Watching.{end_by}
use Rattle.tl_lines.specs.declared.fault.Fault.{Fault}
use Rattle.tl_lines.specs.declared.fault.Fault.TheVariants.{Line}
use Rattle.tl_lines.specs.declared.status.Status.{Status}
use Rattle.tl_lines.specs.declared.status.Status.TheVariants.{Clean, Broken}
use Rattle.tl_lines.specs.statement.Fault.{fault_text}
use Rattle.tl_lines.specs.statement.JudgedSo.{said_by}
use Rattle.tl_lines.specs.statement.Lines.{IsOpen}
use Rattle.tl_lines.specs.statement.Width.{bytes_of}
use Rattle.tl_params.specs.declared.liberties.Liberties.{Liberties}
use Rattle.tl_params.specs.declared.width.Width.{Width}
use Rattle.tl_tried.proofs.EventCounted.{all-counted, line-counted, open-counted}
use Rattle.tl_tried.proofs.TraceCounted.{counted-so-far, waits-first, waits-not}
use Rattle.tl_tried.proofs.WideEventCounted.{all-counted as wide-all-counted, line-counted as wide-line-counted}
use Rattle.tl_tried.proofs.WideEventCounted.{open-counted as wide-open-counted}
use Rattle.tl_tried.specs.code.EventCover.{ReadsEvent, events_found_in}
use Rattle.tl_tried.specs.code.EventFollowing.{BeginsAny, BeginsMarked, EndsCommits, KnowsCommits, KnowsEither}
use Rattle.tl_tried.specs.code.EventFollowing.{KnowsEventCovering, KnowsEventFollowing, NoneEvents, ReadsNext}
use Rattle.tl_tried.specs.code.EventFollowing.{event_judge_in, events_found_by, found_of_commits, found_with, judge_of}
use Rattle.tl_tried.specs.code.WideFollowing.{EndsTrace, KnowsCover, waiting_in}
use Rattle.tl_tried.specs.declared.cover_events.CoverEvents.{CoverEvents}
use Rattle.tl_tried.specs.declared.cover_events.EventFollowing.{EventFollowing}
use Rattle.tl_tried.specs.declared.cover_events.EventFollowing.TheVariants.{Four, Eight, Sixteen, WideFour, WideEight}
use Rattle.tl_tried.specs.declared.cover_events.EventFollowing.TheVariants.{WideSixteen, WideSixtyFour, WideThirtyTwo}
use Rattle.tl_tried.specs.declared.cover_trace.CoverTrace.{CoverTrace}
use Rattle.tl_tried.specs.declared.event_covering.EventCovering.{EventCovering}
use Rattle.tl_tried.specs.statement.Covered.{Found}
use Rattle.tl_tried.specs.statement.EventCovered.{CommitsCovered}
use Rattle.tl_tried.specs.statement.WideCovered.{TraceCovered}
use Rattle.tl_tried.specs.statement.WideEventCovered.{AnyCovered}
use Rattle.tl_wide_event_lines.proofs.AsBefore.{marked-apart}
use Rattle.tl_wide_event_lines.proofs.JudgedLines.{line-stops as wide-line-stops, lines-end as wide-lines-end}
use Rattle.tl_wide_event_lines.proofs.JudgedLines.{open-event as wide-open-event}
use Rattle.tl_wide_event_lines.proofs.TraceJudged.{narrow-judged}
use Rattle.tl_wide_event_lines.proofs.WideMarkedHeaders.{open_wide}
use Rattle.tl_wide_event_lines.specs.code.EventWatching.{NoneWideMarked}
use Rattle.tl_wide_event_lines.specs.statement.JudgedWideEvents.{JudgedAny}
use Rattle.tl_wide_lines.specs.statement.JudgedTrace.{JudgedTrace}

-- ---- a trace whose header isn't that of a wide trace with commits

module _ (allow : Liberties) where
  any-covered : (lines : List (List ℕ)) (found : Found) → NoneWideMarked allow lines → CommitsCovered allow lines found
      → AnyCovered allow lines found
  any-covered [] found none covers = covers
  any-covered (line ∷ lines) found none covers = inr (none, covers)

  -- a narrow trace with commits has another header
  marked-first : {wide : Width} (judge : EventJudge (bytes_of wide)) (lines : List (List ℕ)) (text : List ℕ)
      → KnowsEventTrace wide false allow judge lines text → (more : List (List ℕ)) → NoneWideMarked allow (lines ++ more)
  marked-first {wide} judge lines text k more =
      rw k.are_lines (λ other may links named.
      marked-apart k.header wide other k.named.0 named.0 k.links links k.named.1 named.1)

-- ---- events, by width

module _ (allow : Liberties) (lines : List (List ℕ)) (text : List ℕ) where
  -- what is said of a line at fault, and what is found with it
  abbrev StopsSo : List ℕ → Fault → Found → Type 0
  StopsSo line fault found = ((more : List (List ℕ))
      → JudgedAny false allow (lines ++ line ∷ more) (text ++ fault_text (length lines + 1) fault) Broken)
      × ((more : List (List ℕ)) → AnyCovered allow (lines ++ line ∷ more) found)

  module _ {wide : Width} (c : EventCovering (bytes_of wide)) (k : KnowsEventCovering wide allow c lines text) where
    -- no line is the header of a wide trace with commits
    other : (more : List (List ℕ)) → NoneWideMarked allow (lines ++ more)
    other more = marked-first allow (judge_of c) lines text k.judged more

    alone : NoneWideMarked allow lines
    alone = subst (λ (l : List (List ℕ)). NoneWideMarked allow l) (append-nil lines) (other [])

    narrow-stops : (new : EventCovering (bytes_of wide)) (line : List ℕ) (fault : Fault)
        → ReadsEvent c new line (Some fault) → StopsSo line fault (events_found_in new)
    narrow-stops new line fault reads =
        let (judged, covers) = line-counted allow c lines text k new line (Some fault) reads in (
          λ more. narrow-judged false allow (lines ++ line ∷ more) _ Broken (other (line ∷ more)) (judged more),
          λ more. any-covered allow (lines ++ line ∷ more) _ (other (line ∷ more)) (covers more),
        )

    narrow-open : (line : List ℕ) → IsOpen line → StopsSo line (Line F1) (events_found_in c)
    narrow-open line is = (
      λ more. narrow-judged false allow (lines ++ line ∷ more) _ Broken (other (line ∷ more))
          (line-stops false allow (judge_of c) lines text k.judged line (Line F1)
          (inl (F1, open-event (bytes_of wide) line is, refl)) more),
      λ more. any-covered allow (lines ++ line ∷ more) _ (other (line ∷ more))
          (open-counted allow c lines text k line is more),
    )

    narrow-end : JudgedAny false allow lines (text ++ said_by false (length lines - 1)) Clean
    narrow-end = narrow-judged false allow lines _ Clean alone (lines-end false allow (judge_of c) lines text k.judged)

    narrow-counted : AnyCovered allow lines (events_found_in c)
    narrow-counted = any-covered allow lines _ alone (all-counted allow c lines text k)

  -- what a handler says of the next line, where it knows events
  abbrev EventSays : EventFollowing → List ℕ → Option Fault → Type 0
  EventSays new line None = KnowsEventFollowing allow new (lines ++ line ∷ []) text
  EventSays new line (Some fault) = StopsSo line fault (events_found_by new)

  event-says : (line : List ℕ) (old new : EventFollowing) (answer : Option Fault) → ReadsNext old new line answer
      → KnowsEventFollowing allow old lines text → EventSays new line answer
  event-says line (Four old) (Four new) None reads k = line-counted allow old lines text k new line None reads
  event-says line (Four old) (Four new) (Some x) reads k = narrow-stops old k new line x reads
  event-says line (Eight old) (Eight new) None reads k = line-counted allow old lines text k new line None reads
  event-says line (Eight old) (Eight new) (Some x) reads k = narrow-stops old k new line x reads
  event-says line (Sixteen old) (Sixteen new) None reads k = line-counted allow old lines text k new line None reads
  event-says line (Sixteen old) (Sixteen new) (Some x) reads k = narrow-stops old k new line x reads
  event-says line (WideFour old) (WideFour new) None reads k =
      wide-line-counted allow old lines text k new line None reads
  event-says line (WideFour old) (WideFour new) (Some x) reads k =
      wide-line-counted allow old lines text k new line (Some x) reads
  event-says line (WideEight old) (WideEight new) None reads k =
      wide-line-counted allow old lines text k new line None reads
  event-says line (WideEight old) (WideEight new) (Some x) reads k =
      wide-line-counted allow old lines text k new line (Some x) reads
  event-says line (WideSixteen old) (WideSixteen new) None reads k =
      wide-line-counted allow old lines text k new line None reads
  event-says line (WideSixteen old) (WideSixteen new) (Some x) reads k =
      wide-line-counted allow old lines text k new line (Some x) reads
  event-says line (WideThirtyTwo old) (WideThirtyTwo new) None reads k =
      wide-line-counted allow old lines text k new line None reads
  event-says line (WideThirtyTwo old) (WideThirtyTwo new) (Some x) reads k =
      wide-line-counted allow old lines text k new line (Some x) reads
  event-says line (WideSixtyFour old) (WideSixtyFour new) None reads k =
      wide-line-counted allow old lines text k new line None reads
  event-says line (WideSixtyFour old) (WideSixtyFour new) (Some x) reads k =
      wide-line-counted allow old lines text k new line (Some x) reads
  event-says line old new answer reads k = absurd reads

  -- of a line that has no LF, or is too long
  event-open-says : (line : List ℕ) → IsOpen line → (f : EventFollowing) → KnowsEventFollowing allow f lines text
      → StopsSo line (Line F1) (events_found_by f)
  event-open-says line is (Four c) k = narrow-open c k line is
  event-open-says line is (Eight c) k = narrow-open c k line is
  event-open-says line is (Sixteen c) k = narrow-open c k line is
  event-open-says line is (WideFour c) k = (
    wide-line-stops false allow (event_judge_in c) lines text k.judged line (Line F1)
        (inl (F1, wide-open-event 4 line is, refl)),
    wide-open-counted allow c lines text k line is,
  )
  event-open-says line is (WideEight c) k = (
    wide-line-stops false allow (event_judge_in c) lines text k.judged line (Line F1)
        (inl (F1, wide-open-event 8 line is, refl)),
    wide-open-counted allow c lines text k line is,
  )
  event-open-says line is (WideSixteen c) k = (
    wide-line-stops false allow (event_judge_in c) lines text k.judged line (Line F1)
        (inl (F1, wide-open-event 16 line is, refl)),
    wide-open-counted allow c lines text k line is,
  )
  event-open-says line is (WideThirtyTwo c) k = (
    wide-line-stops false allow (event_judge_in c) lines text k.judged line (Line F1)
        (inl (F1, wide-open-event 32 line is, refl)),
    wide-open-counted allow c lines text k line is,
  )
  event-open-says line is (WideSixtyFour c) k = (
    wide-line-stops false allow (event_judge_in c) lines text k.judged line (Line F1)
        (inl (F1, wide-open-event 64 line is, refl)),
    wide-open-counted allow c lines text k line is,
  )

  -- of the end of the input
  event-end-says : (f : EventFollowing) → KnowsEventFollowing allow f lines text
      → JudgedAny false allow lines (text ++ said_by false (length lines - 1)) Clean
  event-end-says (Four c) k = narrow-end c k
  event-end-says (Eight c) k = narrow-end c k
  event-end-says (Sixteen c) k = narrow-end c k
  event-end-says (WideFour c) k = wide-lines-end false allow (event_judge_in c) lines text k.judged
  event-end-says (WideEight c) k = wide-lines-end false allow (event_judge_in c) lines text k.judged
  event-end-says (WideSixteen c) k = wide-lines-end false allow (event_judge_in c) lines text k.judged
  event-end-says (WideThirtyTwo c) k = wide-lines-end false allow (event_judge_in c) lines text k.judged
  event-end-says (WideSixtyFour c) k = wide-lines-end false allow (event_judge_in c) lines text k.judged

  event-counted : (f : EventFollowing) → KnowsEventFollowing allow f lines text
      → AnyCovered allow lines (events_found_by f)
  event-counted (Four c) k = narrow-counted c k
  event-counted (Eight c) k = narrow-counted c k
  event-counted (Sixteen c) k = narrow-counted c k
  event-counted (WideFour c) k = wide-all-counted allow c lines text k
  event-counted (WideEight c) k = wide-all-counted allow c lines text k
  event-counted (WideSixteen c) k = wide-all-counted allow c lines text k
  event-counted (WideThirtyTwo c) k = wide-all-counted allow c lines text k
  event-counted (WideSixtyFour c) k = wide-all-counted allow c lines text k

-- ---- a trace without commits

-- the situations of lines of which the first is no header of a trace with commits
plain-covered : (allow : Liberties) (lines : List (List ℕ)) (found : Found) → NoneEvents allow lines
    → TraceCovered allow lines found → AnyCovered allow lines found
plain-covered allow [] found none covers = covers
plain-covered allow (line ∷ lines) found none covers = inr (none.1, inr (none.0, covers))

-- the same of what is said of them
plain-said : (allow : Liberties) (lines : List (List ℕ)) (text : List ℕ) (status : Status) → NoneEvents allow lines
    → JudgedTrace false allow lines text status → JudgedAny false allow lines text status
plain-said allow lines text status none judged =
    narrow-judged false allow lines text status none.1 (trace-judged false allow lines text status none.0 judged)

none-first : (allow : Liberties) (lines : List (List ℕ)) (line : List ℕ) (more : List (List ℕ))
    → NoneEvents allow lines → (lines ≡ [] → NoneEvents allow (line ∷ [])) → NoneEvents allow (lines ++ line ∷ more)
none-first allow [] line more none first = first refl
none-first allow (l ∷ lines) line more none first = none

-- ---- the handler

pub begins-marked : {E : Type 0} (h : CoverEvents) (alloc : Global) (line : List ℕ) (r : Result (Option EventFollowing) E)
    → Some alloc ≡ waiting_in h.plain → IfOk r (BeginsAny h.plain.narrow.allow line) → IfOk r (BeginsMarked h line)
begins-marked h alloc line (Err e) waits begins = tt
begins-marked h alloc line (Ok None) waits none = λ text known. none
begins-marked h alloc line (Ok (Some f)) waits known = (waits-first h.plain alloc waits, known)

pub begins-none : (h : CoverEvents) (line : List ℕ) → None ≡ waiting_in h.plain → BeginsMarked h line None
begins-none h line reads = λ text known. absurd (waits-not h.plain reads text known)

-- a text behind what was written already
said-so : (allow : Liberties) (lines : List (List ℕ)) (before was text : List ℕ) (status : Status)
    → JudgedAny false allow lines ((before ++ was) ++ text) status
    → JudgedAny false allow lines (before ++ (was ++ text)) status
said-so allow lines before was text status =
    subst (λ (x : List ℕ). JudgedAny false allow lines x status) (append_assoc before was text)

module _ (old new : CoverEvents) (line : List ℕ) where
  -- what is said behind what was written already
  abbrev JudgesSo : List ℕ → List ℕ → Option Fault → Type 0
  JudgesSo = Judges KnowsCommits (JudgedAny false old.plain.narrow.allow) old new line

  -- what is had at a fault
  abbrev EndsSo : {E : Type 0} → Result (Option Fault) E → Type 0
  EndsSo r = (fault : Fault) → r ≡ Ok (Some fault) → Ends KnowsCommits EndsCommits old new line

  module _ (f g : EventFollowing) (is : old.events ≡ Some f) (also : new.events ≡ Some g) (kept : new.plain ≡ old.plain)
    where
      -- a line of an event
      pub event-judged : {E : Type 0} (was : List ℕ) (r : Result (Option Fault) E) → IfOk r (ReadsNext f g line)
          → IfOk r (JudgesSo was was)
      event-judged was (Err e) reads = tt
      event-judged was (Ok None) reads = λ lines before known.
          let k : KnowsEither old.plain (Some f) lines (before ++ was) = rw is at known in
          rw (also, kept) (event-says old.plain.narrow.allow lines (before ++ was) line f g None reads k)
      event-judged was (Ok (Some fault)) reads = λ lines before known more.
          let k : KnowsEither old.plain (Some f) lines (before ++ was) = rw is at known in
          said-so old.plain.narrow.allow (lines ++ line ∷ more) before was (fault_text (length lines + 1) fault) Broken
          ((event-says old.plain.narrow.allow lines (before ++ was) line f g (Some fault) reads k).0 more)

      pub event-ended : {E : Type 0} (r : Result (Option Fault) E) → IfOk r (ReadsNext f g line) → EndsSo r
      event-ended (Err e) reads fault same = absurd cc
      event-ended (Ok None) reads fault same = absurd cc
      event-ended (Ok (Some other)) reads fault same = λ lines text known more.
          let k : KnowsEither old.plain (Some f) lines text = rw is at known in
          rw (also, kept) ((event-says old.plain.narrow.allow lines text line f g (Some other) reads k).1 more)

  -- the header of a trace with commits
  pub event-begun : (was : List ℕ) (f : EventFollowing) → old.events ≡ None → new.events ≡ Some f
      → new.plain ≡ old.plain → BeginsMarked old line (Some f) → JudgesSo was was None
  event-begun was f is also kept (first, begun) = λ lines before known.
      let k : KnowsEither old.plain None lines (before ++ was) = rw is at known in
      let (empty, silent) = first lines (before ++ was) k.0 in
      rw (also, kept, empty, silent) begun

  module _ (is : old.events ≡ None) (also : new.events ≡ None) (none : BeginsMarked old line None) where
    none-among : (lines : List (List ℕ)) (text : List ℕ) → KnowsEither old.plain None lines text
        → (more : List (List ℕ)) → NoneEvents old.plain.narrow.allow (lines ++ line ∷ more)
    none-among lines text k more =
        none-first old.plain.narrow.allow lines line more k.1 (λ empty. none text (rw empty at k.0))

    -- another line
    pub plain-judged : {E : Type 0} (was now : List ℕ) (r : Result (Option Fault) E)
        → IfOk r (Judges KnowsCover (JudgedTrace false old.plain.narrow.allow) old.plain new.plain line was now)
        → IfOk r (λ _. new.plain.narrow.allow ≡ old.plain.narrow.allow) → IfOk r (JudgesSo was now)
    plain-judged was now (Err e) judged same = tt
    plain-judged was now (Ok None) judged same = λ lines before known.
        let k : KnowsEither old.plain None lines (before ++ was) = rw is at known in
        rw also (
          judged lines before k.0,
          subst (λ (l : Liberties). NoneEvents l (lines ++ line ∷ [])) (sym same)
              (none-among lines (before ++ was) k []),
        )
    plain-judged was now (Ok (Some fault)) judged same = λ lines before known more.
        let k : KnowsEither old.plain None lines (before ++ was) = rw is at known in
        plain-said old.plain.narrow.allow (lines ++ line ∷ more) _ Broken
        (none-among lines (before ++ was) k more) (judged lines before k.0 more)

    pub plain-ended : {E : Type 0} (r : Result (Option Fault) E)
        → ((fault : Fault) → r ≡ Ok (Some fault) → Ends KnowsCover EndsTrace old.plain new.plain line)
        → IfOk r (λ _. new.plain.narrow.allow ≡ old.plain.narrow.allow) → EndsSo r
    plain-ended (Err e) ends same fault found = absurd cc
    plain-ended (Ok answer) ends same fault found = λ lines text known more.
        let k : KnowsEither old.plain None lines text = rw is at known in
        rw also (plain-covered new.plain.narrow.allow (lines ++ line ∷ more) _
        (subst (λ (l : Liberties). NoneEvents l (lines ++ line ∷ more)) (sym same) (none-among lines text k more))
        (ends fault found lines text k.0 more))

-- a line that has no LF, or is too long
module _ (h : CoverEvents) (line : List ℕ) (is_open : IsOpen line) where
  pub event-open : (said : List ℕ) (f : EventFollowing) → h.events ≡ Some f
      → Stops KnowsCommits (JudgedAny false h.plain.narrow.allow) h line said said (Line F1)
  event-open said f is = λ lines before known more.
      let k : KnowsEither h.plain (Some f) lines (before ++ said) = rw is at known in
      said-so h.plain.narrow.allow (lines ++ line ∷ more) before said (fault_text (length lines + 1) (Line F1)) Broken
      ((event-open-says h.plain.narrow.allow lines (before ++ said) line is_open f k).0 more)

  pub event-open-ended : (f : EventFollowing) → h.events ≡ Some f → Ends KnowsCommits EndsCommits h h line
  event-open-ended f is = λ lines text known more.
      let k : KnowsEither h.plain (Some f) lines text = rw is at known in
      rw is ((event-open-says h.plain.narrow.allow lines text line is_open f k).1 more)

  none-open : (lines : List (List ℕ)) → NoneEvents h.plain.narrow.allow lines → (more : List (List ℕ))
      → NoneEvents h.plain.narrow.allow (lines ++ line ∷ more)
  none-open lines none more =
      none-first h.plain.narrow.allow lines line more none
      (λ empty. (open_marked h.plain.narrow.allow line is_open, open_wide h.plain.narrow.allow line is_open))

  pub plain-open : (said : List ℕ) (fault : Fault) → h.events ≡ None
      → Stops KnowsCover (JudgedTrace false h.plain.narrow.allow) h.plain line said said fault
      → Stops KnowsCommits (JudgedAny false h.plain.narrow.allow) h line said said fault
  plain-open said fault is stops = λ lines before known more.
      let k : KnowsEither h.plain None lines (before ++ said) = rw is at known in
      plain-said h.plain.narrow.allow (lines ++ line ∷ more) _ Broken (none-open lines k.1 more)
      (stops lines before k.0 more)

  pub plain-open-ended : h.events ≡ None → Ends KnowsCover EndsTrace h.plain h.plain line
      → Ends KnowsCommits EndsCommits h h line
  plain-open-ended is ends = λ lines text known more.
      let k : KnowsEither h.plain None lines text = rw is at known in
      rw is (plain-covered h.plain.narrow.allow (lines ++ line ∷ more) _ (none-open lines k.1 more)
      (ends lines text k.0 more))

-- the end of the input
module _ (h : CoverEvents) where
  pub event-end : (count : ℕ) (was now : List ℕ) (f : EventFollowing) → h.events ≡ Some f
      → now ≡ was ++ end_by false (count - 1)
      → Finishes KnowsCommits (JudgedAny false h.plain.narrow.allow) h count was now None
  event-end count was now f is says = λ lines before known counted.
      let k : KnowsEither h.plain (Some f) lines (before ++ was) = rw is at known in
      let number : count - 1 ≡ length lines - 1 = omega (arith, counted) in
      let text : was ++ said_by false (length lines - 1) ≡ now =
      ap (λ (x : List ℕ). was ++ x) (ap (said_by false) (sym number) ∙ sym (said_at_end false (count - 1)))
      ∙ sym says in
      subst (λ (x : List ℕ). JudgedAny false h.plain.narrow.allow lines (before ++ x) Clean) text
      (said-so h.plain.narrow.allow lines before was (said_by false (length lines - 1)) Clean
      (event-end-says h.plain.narrow.allow lines (before ++ was) f k))

  pub plain-end : {E : Type 0} (count : ℕ) (was now : List ℕ) (r : Result (Option Fault) E) → h.events ≡ None
      → IfOk r (Finishes KnowsCover (JudgedTrace false h.plain.narrow.allow) h.plain count was now)
      → IfOk r (Finishes KnowsCommits (JudgedAny false h.plain.narrow.allow) h count was now)
  plain-end count was now (Err e) is ends = tt
  plain-end count was now (Ok None) is ends = λ lines before known counted.
      let k : KnowsEither h.plain None lines (before ++ was) = rw is at known in
      plain-said h.plain.narrow.allow lines (before ++ now) Clean k.1 (ends lines before k.0 counted)
  plain-end count was now (Ok (Some fault)) is ends = λ lines before known counted.
      let k : KnowsEither h.plain None lines (before ++ was) = rw is at known in
      plain-said h.plain.narrow.allow lines _ Broken k.1 (ends lines before k.0 counted)

  pub plain-end-ended : h.events ≡ None → EndsHere KnowsCover EndsTrace h.plain → EndsHere KnowsCommits EndsCommits h
  plain-end-ended is ends = λ lines text known.
      let k : KnowsEither h.plain None lines text = rw is at known in
      rw is (plain-covered h.plain.narrow.allow lines _ k.1 (ends lines text k.0))

counted-by : (plain : CoverTrace) (events : Option EventFollowing) (lines : List (List ℕ)) (text : List ℕ)
    → KnowsEither plain events lines text → AnyCovered plain.narrow.allow lines (found_with plain events)
counted-by plain None lines text k =
    plain-covered plain.narrow.allow lines _ k.1 (counted-so-far plain lines text k.0)
counted-by plain (Some f) lines text k = event-counted plain.narrow.allow lines text f k

-- what a handler has of all lines are their situations
pub counted-at-end : (h : CoverEvents) (lines : List (List ℕ)) (status : Status)
    → HasAll KnowsCommits EndsCommits h lines status → AnyCovered h.plain.narrow.allow lines (found_of_commits h)
counted-at-end h lines Clean (text, k) = counted-by h.plain h.events lines text k
counted-at-end h lines Broken has = has
