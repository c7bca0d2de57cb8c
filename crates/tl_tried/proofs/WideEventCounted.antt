-- The situations of a wide trace with commits, line by line.
use Rattle.std.proofs.Common.{◌≡◌, ◌≤◌, ◌+◌, ◌∙◌, ℕ, Bool, false, true, List, [], ◌∷◌, ◌++◌, length, map, ap, refl, subst, sym, arith}
use Rattle.std.proofs.Common.{append_assoc, cond, inl, inr, length-append}
use Rattle.std.proofs.lemmas.List.{append-nil}
use Rattle.std.specs.Prelude.{Option, Some, None}
use Rattle.tl_beat.specs.declared.beat.Beat.{Beat}
use Rattle.tl_beat.specs.declared.beat.Link.{Link}
use Rattle.tl_beat.specs.declared.fault.LineFault.TheVariants.{F1}
use Rattle.tl_commit_lines.specs.statement.JudgedEvents.{fault_by}
use Rattle.tl_commit_lines.specs.statement.MarkedHeader.{MarkedLinks, levels_of}
use Rattle.tl_commits.specs.statement.Events.{Events, beats_of}
use Rattle.tl_cover.specs.declared.row.Row.{Row}
use Rattle.tl_cover.specs.statement.Covered.{covered}
use Rattle.tl_cover.specs.statement.Covers.{Covers, rows_in}
use Rattle.tl_lines.specs.declared.fault.Fault.{Fault}
use Rattle.tl_lines.specs.declared.fault.Fault.TheVariants.{Beyond, Line}
use Rattle.tl_lines.specs.declared.status.Status.TheVariants.{Broken}
use Rattle.tl_lines.specs.statement.Fault.{fault_text}
use Rattle.tl_lines.specs.statement.Lines.{IsOpen}
use Rattle.tl_events.specs.declared.commit.Event.{Event}
use Rattle.tl_events.specs.declared.commit.Event.TheVariants as narrow
use Rattle.tl_params.specs.declared.liberties.Liberties.{Liberties}
use Rattle.tl_rules.specs.statement.Conformance.{Trace}
use Rattle.tl_tried.proofs.Covered.{found_are}
use Rattle.tl_tried.proofs.EventRows.{joined-more, so-many}
use Rattle.tl_tried.proofs.WideCounted.{by_rows}
use Rattle.tl_tried.proofs.WideParts.{taken-first}
use Rattle.tl_tried.proofs.WideRowed.{rows-begun, rows-followed}
use Rattle.tl_tried.specs.code.EventFollowing.{KnowsWideEventCovering, event_judge_in}
use Rattle.tl_tried.specs.code.Following.{found_in}
use Rattle.tl_tried.specs.code.WideCover.{CoversNone, RowsFollow, TakesEventLine, TakesWideEvent, wide_found_in}
use Rattle.tl_tried.specs.code.WideRows.{first_in, followed}
use Rattle.tl_tried.specs.declared.wide_covering.WideCovering.{WideCovering}
use Rattle.tl_tried.specs.statement.Covered.{Found, found_of}
use Rattle.tl_tried.specs.statement.EventCovered.{beats_at}
use Rattle.tl_tried.specs.statement.Sums.{with_each}
use Rattle.tl_tried.specs.statement.WideCovered.{at_wide_line, at_wide_lines}
use Rattle.tl_tried.specs.statement.WideEventCovered.{AnyCovered, CoveredWideEvents, beats_among, found_among, found_at_fault}
use Rattle.tl_tried.specs.statement.WideEventCovered.{parts_each, wide_events_found}
use Rattle.tl_wide.specs.declared.beat.WideBeat.{WideBeat}
use Rattle.tl_wide.specs.declared.width.WideWidth.{WideWidth}
use Rattle.tl_wide.specs.statement.Naming.{is_beyond}
use Rattle.tl_wide.specs.statement.Narrowed.{beats_of as parts_of, on_one_link}
use Rattle.tl_wide.specs.statement.Narrowing.{Follows}
use Rattle.tl_wide.specs.statement.Verdict.{joined}
use Rattle.tl_wide.specs.statement.Width.{part_width, wide_bytes_of}
use Rattle.tl_wide_event_lines.proofs.EventsJudged.{all-taken}
use Rattle.tl_wide_event_lines.proofs.JudgedLines.{fault-beyond, fault-within, header-known, line-stops, line-taken, open-event}
use Rattle.tl_wide_event_lines.specs.statement.EventFaults.{events_taken, first_fault, unless_fault as unless_event_fault, wide_fault_by}
use Rattle.tl_wide_event_lines.specs.statement.JudgedWideEvents.{JudgedAny}
use Rattle.tl_wide_event_lines.specs.statement.WideMarkedHeader.{NamesWideMarked}
use Rattle.tl_wide_events.specs.declared.commit.WideCommit.{WideCommit}
use Rattle.tl_wide_events.specs.declared.commit.WideEvent.{WideEvent}
use Rattle.tl_wide_events.specs.declared.commit.WideEvent.TheVariants as event
use Rattle.tl_wide_events.specs.statement.Narrowed.{WideEvents, as_events, events_of, names_of, narrowed, with_events}
use Rattle.tl_wide_events.specs.statement.WideEventLine.{SpellsWideEvent}
use Rattle.tl_wide_lines.specs.code.FirstFault.{behind}
use Rattle.tl_wide_lines.specs.statement.PartFaults.{or_fault, part_fault, parts_taken, unless_fault}

-- ---- parts as events

module _ {p : ℕ} (links : MarkedLinks) (may : Liberties) (link : Link) where
  -- the fault of parts is that of the events which they are
  parts-fault : (parts : List (Beat p)) (e : Events p) → first_fault false links may link (as_events parts) e
      ≡ part_fault false (levels_of links) may link parts (beats_of e)
  unfolding first_fault part_fault beats_of
  parts-fault [] e = refl
  parts-fault (x ∷ parts) e =
      ap (or_fault (fault_by p false links may link (narrow.Beat x) e)) (parts-fault parts ((link, narrow.Beat x) ∷ e))

  -- those that are taken are the beats of the events that are taken
  parts-taken : (parts : List (Beat p)) (e : Events p)
      → beats_of (events_taken false links may link (as_events parts) e)
      ≡ parts_taken false (levels_of links) may link parts (beats_of e)
  unfolding events_taken parts_taken beats_of
  parts-taken [] e = refl
  parts-taken (x ∷ parts) e =
      go (fault_by p false links may link (narrow.Beat x) e) (parts-taken parts ((link, narrow.Beat x) ∷ e))
    where
      go : (o : Option Fault)
          → beats_of (events_taken false links may link (as_events parts) ((link, narrow.Beat x) ∷ e))
          ≡ parts_taken false (levels_of links) may link parts ((link, x) ∷ beats_of e)
          → beats_of (unless_event_fault o e
          (events_taken false links may link (as_events parts) ((link, narrow.Beat x) ∷ e)))
          ≡ unless_fault o (beats_of e) (parts_taken false (levels_of links) may link parts ((link, x) ∷ beats_of e))
      go None rest = rest
      go (Some fault) rest = refl

-- the beats among parts as events are the parts
among-parts : {p : ℕ} (link : Link) (parts : List (Beat p)) → beats_among link (as_events parts) ≡ on_one_link link parts
unfolding beats_among
among-parts link [] = refl
among-parts {p} link (x ∷ parts) = ap (λ (beats : Trace p). (link, x) ∷ beats) (among-parts link parts)

-- ---- the beats of the events

with-many : {p : ℕ} (link : Link) (events : List (Event p)) (e : Events p)
    → length (beats_of (with_events link events e)) ≡ length (beats_of e) + length (beats_among link events)
unfolding with_events beats_among
with-many link [] e = omega arith
with-many link (x ∷ events) e = omega (
  arith,
  with-many link events ((link, x) ∷ e),
  so-many (link, x) e,
  length-append (beats_at (link, x)) (beats_among link events),
)

all-joined : {w : ℕ} (t : WideEvents w) → length (joined (parts_each t)) ≡ length (beats_of (narrowed t))
unfolding joined parts_each narrowed beats_of
all-joined [] = refl
all-joined (x ∷ t) = omega (
  arith,
  joined-more (parts_each t) (beats_among x.0 (events_of x.0 x.1 (names_of (x ∷ t)))),
  all-joined t,
  with-many x.0 (events_of x.0 x.1 (names_of (x ∷ t))) (narrowed t),
)

each-one : {w : ℕ} (t : WideEvents w) → length (parts_each t) ≡ length t
unfolding parts_each
each-one [] = refl
each-one (x ∷ t) = omega (
  arith,
  length-append (parts_each t) (beats_among x.0 (events_of x.0 x.1 (names_of (x ∷ t))) ∷ []),
  each-one t,
)

-- ---- the rows

module _ {w : ℕ} (may : Liberties) (n : ℕ) (t : WideEvents w) (link : Link) (x : WideEvent w)
    (old new : WideCovering (part_width w)) (follow : RowsFollow old new) (at : old.line ≡ length t + 1)
    (had : old.rows.items ≡ map (at_wide_line (parts_each t)) (covered may n (beats_of (narrowed t)))) where
  -- the rows follow the beats of one more event, up to the first at fault
  rows-next : (beats : Trace (part_width w))
      → length beats ≤ length (beats_among link (events_of link x (names_of ((link, x) ∷ t))))
      → rows_in new.covering ≡ covered may n (behind beats (beats_of (narrowed t)))
      → new.rows.items ≡ map (at_wide_line (parts_each ((link, x) ∷ t))) (rows_in new.covering)
  unfolding parts_each
  rows-next beats few are =
      follow.rows_are
      ∙ ap (λ (rs : List Row). with_each (followed new.line) (first_in new.line) rs (rows_in new.covering)) had
      ∙ ap (with_each (followed new.line) (first_in new.line)
      (map (at_wide_line (parts_each t)) (covered may n (beats_of (narrowed t))))) are
      ∙ rows-followed (parts_each t) (beats_among link (events_of link x (names_of ((link, x) ∷ t)))) new.line
      (length (beats_of (narrowed t))) (all-joined t) (omega (arith, follow.line_is, at, each-one t)) may n
      (beats_of (narrowed t)) beats refl few
      ∙ ap (map (at_wide_line (parts_each ((link, x) ∷ t)))) (sym are)

-- ---- a handler that knows wide events

module _ {wide : WideWidth} (allow : Liberties) (old : WideCovering (part_width (wide_bytes_of wide)))
    (lines : List (List ℕ)) (text : List ℕ) (k : KnowsWideEventCovering wide allow old lines text) where
  -- the situations of the events that the lines spell are those of the lines
  told : (more : List (List ℕ)) (found : Found)
      → CoveredWideEvents k.judged.links k.judged.may k.judged.trace more found → AnyCovered allow (lines ++ more) found
  told more found covers =
      rw k.judged.are_lines (inl (wide, k.judged.may, k.judged.links, k.judged.named, k.before more found covers))

  found-so : wide_found_in old ≡ wide_events_found k.judged.links k.judged.may k.judged.trace
  found-so =
      by_rows old (parts_each k.judged.trace) k.rows_are
      ∙ ap (at_wide_lines (parts_each k.judged.trace))
      (found_are old.covering (levels_of k.judged.links) k.judged.may (beats_of (narrowed k.judged.trace)) false k.covers)

  -- no line follows
  pub all-counted : AnyCovered allow lines (wide_found_in old)
  unfolding CoveredWideEvents
  all-counted =
      subst (λ (l : List (List ℕ)). AnyCovered allow l (wide_found_in old)) (append-nil lines)
      (told [] (wide_found_in old) found-so)

  -- one follows that has no LF, or is too long
  pub open-counted : (line : List ℕ) → IsOpen line → (more : List (List ℕ))
      → AnyCovered allow (lines ++ line ∷ more) (wide_found_in old)
  unfolding CoveredWideEvents
  open-counted line is more =
      told (line ∷ more) (wide_found_in old) (inr (inr (F1, open-event (wide_bytes_of wide) line is, found-so)))

  -- the rows are those of the beats
  had : old.rows.items ≡ map (at_wide_line (parts_each k.judged.trace))
      (covered k.judged.may (length (levels_of k.judged.links)) (beats_of (narrowed k.judged.trace)))
  had = k.rows_are ∙ ap (map (at_wide_line (parts_each k.judged.trace))) k.covers.follows.rows_are

  module _ (new : WideCovering (part_width (wide_bytes_of wide))) (line : List ℕ) where
    -- what a handler says of the next line
    abbrev pub Says : Option Fault → Type 0
    Says None = KnowsWideEventCovering wide allow new (lines ++ line ∷ []) text
    Says (Some fault) = ((more : List (List ℕ))
        → JudgedAny false allow (lines ++ line ∷ more) (text ++ fault_text (length lines + 1) fault) Broken)
        × ((more : List (List ℕ)) → AnyCovered allow (lines ++ line ∷ more) (wide_found_in new))

    module _ (link : Link) (x : WideEvent (wide_bytes_of wide)) (spells : SpellsWideEvent line link x) where
      abbrev becomes : List (Event (part_width (wide_bytes_of wide)))
      becomes = events_of link x (names_of ((link, x) ∷ k.judged.trace))

      -- the event is at fault
      event-ends : (fault : Fault)
          → wide_fault_by (wide_bytes_of wide) false k.judged.links k.judged.may link x k.judged.trace ≡ Some fault
          → wide_found_in new ≡ found_at_fault k.judged.links k.judged.may link x k.judged.trace → Says (Some fault)
      unfolding CoveredWideEvents
      event-ends fault bad found = (
        line-stops false allow (event_judge_in old) lines text k.judged line fault (inr (link, x, spells, bad)),
        λ more. told (line ∷ more) (wide_found_in new) (inr (inl (link, x, spells, fault, bad, found))),
      )

      -- its names are too many
      event-beyond : is_beyond link (names_of ((link, x) ∷ k.judged.trace)) ≡ true
          → wide_found_in new ≡ wide_found_in old → Says (Some Beyond)
      event-beyond past kept =
          event-ends Beyond
          (fault-beyond (wide_bytes_of wide) false k.judged.links k.judged.may link x k.judged.trace past)
          (kept ∙ found-so ∙ sym (ap (λ (b : Bool). cond b
          (wide_events_found k.judged.links k.judged.may k.judged.trace)
          (found_among k.judged.links k.judged.may ((link, x) ∷ k.judged.trace)
          (events_taken false k.judged.links k.judged.may link becomes (narrowed k.judged.trace)))) past))

      module _ (within : is_beyond link (names_of ((link, x) ∷ k.judged.trace)) ≡ false) (follow : RowsFollow old new)
        where
          -- the beats that the covering has are those of the events that were taken
          event-found : (beats : Trace (part_width (wide_bytes_of wide))) → length beats ≤ length (beats_among link becomes)
              → behind beats (beats_of (narrowed k.judged.trace))
              ≡ beats_of (events_taken false k.judged.links k.judged.may link becomes (narrowed k.judged.trace))
              → found_in new.covering ≡ found_of k.judged.may (levels_of k.judged.links)
              (behind beats (beats_of (narrowed k.judged.trace)))
              → wide_found_in new ≡ found_at_fault k.judged.links k.judged.may link x k.judged.trace
          event-found beats few same found =
              by_rows new (parts_each ((link, x) ∷ k.judged.trace))
              (rows-next k.judged.may (length (levels_of k.judged.links)) k.judged.trace link x old new follow k.line_is
              had beats few (ap (λ (f : Found). f.0) found))
              ∙ ap (at_wide_lines (parts_each ((link, x) ∷ k.judged.trace)))
              (found ∙ ap (found_of k.judged.may (levels_of k.judged.links)) same)
              ∙ sym (ap (λ (b : Bool). cond b
              (wide_events_found k.judged.links k.judged.may k.judged.trace)
              (found_among k.judged.links k.judged.may ((link, x) ∷ k.judged.trace)
              (events_taken false k.judged.links k.judged.may link becomes (narrowed k.judged.trace)))) within)

          -- no event that it becomes is at fault
          event-taken : (beats : Trace (part_width (wide_bytes_of wide))) → length beats ≤ length (beats_among link becomes)
              → behind beats (beats_of (narrowed k.judged.trace)) ≡ beats_of (narrowed ((link, x) ∷ k.judged.trace))
              → first_fault false k.judged.links k.judged.may link becomes (narrowed k.judged.trace) ≡ None
              → Covers new.covering (levels_of k.judged.links) k.judged.may
              (behind beats (beats_of (narrowed k.judged.trace))) false
              → Follows new.narrower (names_of ((link, x) ∷ k.judged.trace)) → Says None
          unfolding line-taken CoveredWideEvents
          event-taken beats few same good covers follows =
              let fine = fault-within (wide_bytes_of wide) false k.judged.links k.judged.may link x k.judged.trace within
              ∙ good in
              let all : Covers new.covering (levels_of k.judged.links) k.judged.may
              (beats_of (narrowed ((link, x) ∷ k.judged.trace))) false =
              subst (λ t. Covers new.covering (levels_of k.judged.links) k.judged.may t false) same covers in
              record {
                judged = line-taken false allow (event_judge_in old) lines text k.judged (event_judge_in new) line link x
                    spells fine follows all.knows;
                covers = all;
                rows_are = rows-next k.judged.may (length (levels_of k.judged.links)) k.judged.trace link x old new follow
                    k.line_is had beats few covers.follows.rows_are;
                line_is = omega (arith, follow.line_is, k.line_is);
                before = λ more found after. rw (append_assoc k.judged.spelled (line ∷ []) more)
                    (k.before (line ∷ more) found (inl (link, x, spells, fine, after)));
              }

    -- ---- a beat

    module _ (link : Link) (x : WideBeat (wide_bytes_of wide)) (spells : SpellsWideEvent line link (event.Beat x)) where
      abbrev its_parts : List (Beat (part_width (wide_bytes_of wide)))
      its_parts = parts_of link x (names_of ((link, event.Beat x) ∷ k.judged.trace))

      abbrev first_of : Type 0
      first_of =
          (first : Trace (part_width (wide_bytes_of wide)))
          × (parts_taken false (levels_of k.judged.links) k.judged.may link its_parts (beats_of (narrowed k.judged.trace))
          ≡ behind first (beats_of (narrowed k.judged.trace)))
          × (length first ≤ length (on_one_link link its_parts))

      -- the parts that were taken
      first-parts : first_of
      first-parts =
          taken-first (levels_of k.judged.links) k.judged.may link its_parts (beats_of (narrowed k.judged.trace))

      few-parts : (first : Trace (part_width (wide_bytes_of wide))) → length first ≤ length (on_one_link link its_parts)
          → length first ≤ length (beats_among link (as_events its_parts))
      few-parts first few = rw (among-parts link its_parts) few

      beat-says : (answer : Option Fault) → TakesWideEvent old new link (event.Beat x) answer → Says answer
      unfolding narrowed
      beat-says None (inl (parts, takes, follow, narrows)) =
          let (within, same, follows) = narrows (names_of k.judged.trace) k.judged.follows in
          let (good, covers) = (rw same at takes) (levels_of k.judged.links) k.judged.may
          (beats_of (narrowed k.judged.trace)) k.covers in
          let (first, are, few) = first-parts in
          let fine = parts-fault k.judged.links k.judged.may link its_parts (narrowed k.judged.trace) ∙ good in
          event-taken link (event.Beat x) spells within follow first (few-parts first few)
          (sym are ∙ sym (parts-taken k.judged.links k.judged.may link its_parts (narrowed k.judged.trace))
          ∙ ap (λ (e : Events (part_width (wide_bytes_of wide))). beats_of e)
          (all-taken false k.judged.links k.judged.may link (as_events its_parts) (narrowed k.judged.trace) fine))
          fine
          (subst (λ t. Covers new.covering (levels_of k.judged.links) k.judged.may t false) are covers) follows
      beat-says (Some fault) (inl (parts, takes, follow, narrows)) =
          let (within, same, follows) = narrows (names_of k.judged.trace) k.judged.follows in
          let (bad, found) = (rw same at takes) (levels_of k.judged.links) k.judged.may
          (beats_of (narrowed k.judged.trace)) k.covers in
          let (first, are, few) = first-parts in
          event-ends link (event.Beat x) spells fault
          (fault-within (wide_bytes_of wide) false k.judged.links k.judged.may link (event.Beat x) k.judged.trace within
          ∙ parts-fault k.judged.links k.judged.may link its_parts (narrowed k.judged.trace) ∙ bad)
          (event-found link (event.Beat x) spells within follow first (few-parts first few)
          (sym are ∙ sym (parts-taken k.judged.links k.judged.may link its_parts (narrowed k.judged.trace)))
          (found ∙ ap (found_of k.judged.may (levels_of k.judged.links)) are))
      beat-says answer (inr (is, kept, past)) =
          rw is (event-beyond link (event.Beat x) spells (past (names_of k.judged.trace) k.judged.follows) kept)

    -- ---- a commit

    module _ (link : Link) (x : WideCommit) (spells : SpellsWideEvent {w = wide_bytes_of wide} line link (event.Commit x))
      where
        commit-says : (answer : Option Fault)
            → TakesWideEvent {w = wide_bytes_of wide} old new link (event.Commit x) answer → Says answer
        unfolding narrowed first_fault with_events beats_of behind
        commit-says answer (inl (is, same, follow, narrows)) =
            let (within, follows) = narrows (wide_bytes_of wide) (names_of k.judged.trace) k.judged.follows in
            rw is (event-taken link (event.Commit x) spells within follow [] (omega arith) refl refl
            (rw same k.covers) follows)
        commit-says answer (inr (is, kept, past)) =
            rw is (event-beyond link (event.Commit x) spells
            (past (wide_bytes_of wide) (names_of k.judged.trace) k.judged.follows) kept)

    event-says : (link : Link) (x : WideEvent (wide_bytes_of wide)) (answer : Option Fault)
        → SpellsWideEvent line link x → TakesWideEvent old new link x answer → Says answer
    event-says link (event.Beat x) answer spells takes = beat-says link x spells answer takes
    event-says link (event.Commit x) answer spells takes = commit-says link x spells answer takes

    pub line-counted : (answer : Option Fault) → TakesEventLine (wide_bytes_of wide) old new line answer → Says answer
    unfolding CoveredWideEvents
    line-counted answer (inl (of_line, bad, is, kept)) = rw is (
      line-stops false allow (event_judge_in old) lines text k.judged line (Line of_line) (inl (of_line, bad, refl)),
      λ more. told (line ∷ more) (wide_found_in new) (inr (inr (of_line, bad, kept ∙ found-so))),
    )
    line-counted answer (inr (link, x, spells, takes)) = event-says link x answer spells takes

-- what its header begins
pub header-counted : (wide : WideWidth) (allow : Liberties) (line : List ℕ) (may : Liberties) (links : MarkedLinks)
    (c : WideCovering (part_width (wide_bytes_of wide))) → NamesWideMarked allow line wide may links
    → CoversNone (levels_of links) may c → KnowsWideEventCovering wide allow c (line ∷ []) []
unfolding header-known narrowed beats_of parts_each
header-counted wide allow line may links c named none = record {
  judged = header-known wide false allow line may links (event_judge_in c) named none.follows none.covers.knows;
  covers = none.covers;
  rows_are = none.rows_are ∙ ap (map (first_in 1)) none.covers.follows.rows_are
      ∙ rows-begun may (length (levels_of links)) 1 [] ∙ sym (ap (map (at_wide_line [])) none.covers.follows.rows_are);
  line_is = none.line_is;
  before = λ more found covers. covers;
}
