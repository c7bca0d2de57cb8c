-- The rows of a trace with commits, with one more event.
use Rattle.std.proofs.Common.{◌≡◌, ◌+◌, ◌∙◌, ℕ, false, List, [], ◌∷◌, ◌++◌, length, map, ap, ap₂, refl, arith, length-append, sym, subst}
use Rattle.std.proofs.lemmas.Grind.{reverse_onto}
use Rattle.std.proofs.lemmas.List.{length-map, length-reverse, map-append}
use Rattle.std.specs.Prelude.{IfOk, Option, Some, None, Result, Ok, Err, reverse}
use Rattle.tl_beat.specs.declared.beat.Beat.{Beat}
use Rattle.tl_beat.specs.declared.beat.Link.{Link}
use Rattle.tl_commit_lines.specs.statement.MarkedHeader.{MarkedLinks, levels_of}
use Rattle.tl_commits.specs.statement.Events.{Events, beats_of}
use Rattle.tl_cover.specs.declared.covering.Covering.{Covering}
use Rattle.tl_cover.specs.declared.row.Row.{Row}
use Rattle.tl_cover.specs.statement.Covered.{covered}
use Rattle.tl_cover.specs.statement.Covers.{Covers, cells_in, rows_in}
use Rattle.tl_lines.specs.declared.fault.Fault.{Fault}
use Rattle.tl_events.specs.declared.commit.Commit.{Commit}
use Rattle.tl_events.specs.declared.commit.Event.{Event}
use Rattle.tl_events.specs.declared.commit.Event.TheVariants as event
use Rattle.tl_params.specs.declared.level.Level.{Level}
use Rattle.tl_params.specs.declared.liberties.Liberties.{Liberties}
use Rattle.tl_rules.specs.statement.Conformance.{Trace}
use Rattle.tl_tried.proofs.Covered.{found_are}
use Rattle.tl_tried.proofs.WideRowed.{rows-begun, rows-followed}
use Rattle.tl_tried.specs.code.EventCover.{CoversEvents, TakesBeatOf, TakesEvent, events_found_in}
use Rattle.tl_tried.specs.code.Following.{TakesBeat}
use Rattle.tl_tried.specs.code.WideRows.{first_in, followed}
use Rattle.tl_tried.specs.declared.event_covering.EventCovering.{EventCovering}
use Rattle.tl_tried.specs.statement.Covered.{Found, found_of}
use Rattle.tl_tried.specs.statement.EventCovered.{beats_at, beats_each, events_found}
use Rattle.tl_tried.specs.statement.Sums.{with_each}
use Rattle.tl_tried.specs.statement.WideCovered.{at_wide_line}
use Rattle.tl_wide.specs.statement.Verdict.{joined}
use Rattle.tl_wide_lines.specs.code.FirstFault.{behind}

-- ---- the beats of the events

-- those of one more event are the last
beats-more : {w : ℕ} (x : Link × Event w) (e : Events w) → beats_each (x ∷ e) ≡ beats_each e ++ beats_at x ∷ []
beats-more x e = ap (map beats_at) (reverse_onto e x []) ∙ map-append beats_at (reverse e) (x ∷ [])

pub joined-more : {w : ℕ} (parts : List (Trace w)) (last : Trace w)
    → length (joined (parts ++ last ∷ [])) ≡ length (joined parts) + length last
unfolding joined
joined-more [] last = omega (arith, length-append last [])
joined-more (first ∷ parts) last = omega (
  arith,
  length-append first (joined (parts ++ last ∷ [])),
  length-append first (joined parts),
  joined-more parts last,
)

-- all of them are the beats of the trace
behind-it : {w : ℕ} (x : Link × Event w) (e : Events w) → behind (beats_at x) (beats_of e) ≡ beats_of (x ∷ e)
unfolding behind beats_of
behind-it (link, event.Beat x) e = refl
behind-it (link, event.Commit x) e = refl

pub so-many : {w : ℕ} (x : Link × Event w) (e : Events w)
    → length (beats_of (x ∷ e)) ≡ length (beats_of e) + length (beats_at x)
unfolding beats_of
so-many (link, event.Beat x) e = omega arith
so-many (link, event.Commit x) e = omega arith

all-joined : {w : ℕ} (e : Events w) → length (joined (beats_each e)) ≡ length (beats_of e)
unfolding joined beats_of
all-joined [] = refl
all-joined (x ∷ e) =
    let one = ap (λ parts. length (joined parts)) (beats-more x e) in
    omega (arith, one, joined-more (beats_each e) (beats_at x), all-joined e, so-many x e)

each-one : {w : ℕ} (e : Events w) → length (beats_each e) ≡ length e
each-one e = length-map (reverse e) beats_at ∙ length-reverse e

-- ---- the covering

-- the situations of a covering are those of its events
pub found-so : {w : ℕ} (c : EventCovering w) (links : MarkedLinks) (may : Liberties) (e : Events w)
    → CoversEvents c links may e → events_found_in c ≡ events_found links may e
found-so c links may e k =
    let counts = ap (λ (found : Found). found.1) (found_are c.covering (levels_of links) may (beats_of e) false k.covers) in
    ap₂ (λ (rows : List Row) (cells : List (Option ℕ)). (rows, cells)) k.rows_are counts

-- a covering that has seen no event
pub none-covered : {w : ℕ} (c : EventCovering w) (links : MarkedLinks) (levels : List Level) (may : Liberties)
    (before rows : List Row) → levels ≡ levels_of links → Covers c.covering levels may [] false
    → rows ≡ rows_in c.covering → before ≡ [] → c.rows.items ≡ with_each (followed 1) (first_in 1) before rows
    → c.line ≡ 1 → CoversEvents c links may []
unfolding beats_of
none-covered {w} c links levels may before rows is covers said empty are line =
    let covers_so = subst (λ (l : List Level). Covers c.covering l may [] false) is covers in
    record {
      covers = covers_so;
      rows_are = are ∙ ap (λ (had : List Row). with_each (followed 1) (first_in 1) had rows) empty
          ∙ ap (map (first_in 1)) (said ∙ covers_so.follows.rows_are)
          ∙ rows-begun {p = w} may (length (levels_of links)) 1 [];
      line_is = line;
    }

-- ---- an event

module _ {w : ℕ} (old new : Covering w) (link : Link) (x : Event w) where
  -- it is a beat
  pub beat-of : {E : Type 0} (beat : Beat w) (r : Result (Option Fault) E) → x ≡ event.Beat beat
      → IfOk r (TakesBeat old new link beat) → IfOk r (TakesBeatOf old new link x)
  unfolding beats_of
  beat-of beat (Err e) is takes = tt
  beat-of beat (Ok None) is takes = λ links may e covers. rw is (takes (levels_of links) may (beats_of e) covers)
  beat-of beat (Ok (Some fault)) is takes = λ links may e covers.
      rw is (takes (levels_of links) may (beats_of e) covers)

  -- it is a commit
  pub commit-of : (commit : Commit) → x ≡ event.Commit commit → TakesBeatOf old old link x None
  unfolding beats_of
  commit-of commit is = λ links may e covers. rw is (refl, covers)

module _ {w : ℕ} (old new : EventCovering w) (link : Link) (x : Event w) where
  -- it is taken
  pub event-taken : (rows : List Row) → TakesBeatOf old.covering new.covering link x None → new.line ≡ old.line + 1
      → rows ≡ rows_in new.covering
      → new.rows.items ≡ with_each (followed new.line) (first_in new.line) old.rows.items rows
      → TakesEvent old new link x None
  event-taken rows takes next said are = λ links may e k.
      let (good, covers) = takes links may e k.covers in
      let n = length (levels_of links) in
      let after : rows_in new.covering ≡ covered may n (behind (beats_at (link, x)) (beats_of e)) =
      covers.follows.rows_are ∙ ap (covered may n) (sym (behind-it (link, x) e)) in (
        good,
        record {
          covers = covers;
          rows_are = are
              ∙ ap (with_each (followed new.line) (first_in new.line) old.rows.items) (said ∙ after)
              ∙ ap (λ (before : List Row). with_each (followed new.line) (first_in new.line) before
              (covered may n (behind (beats_at (link, x)) (beats_of e)))) k.rows_are
              ∙ rows-followed (beats_each e) (beats_at (link, x)) new.line (length (beats_of e)) (all-joined e)
              (omega (arith, next, k.line_is, each-one e)) may n (beats_of e) (beats_at (link, x)) refl (omega arith)
              ∙ ap (λ parts. map (at_wide_line parts) (covered may n (behind (beats_at (link, x)) (beats_of e))))
              (sym (beats-more (link, x) e))
              ∙ ap (λ (t : Trace w). map (at_wide_line (beats_each ((link, x) ∷ e))) (covered may n t))
              (behind-it (link, x) e);
          line_is = omega (arith, next, k.line_is);
        },
      )

  -- it is at fault
  pub event-bad : (fault : Fault) → TakesBeatOf old.covering new.covering link x (Some fault)
      → new.rows.items ≡ old.rows.items
      → TakesEvent old new link x (Some fault)
  event-bad fault takes kept = λ links may e k.
      let (bad, found) = takes links may e k.covers in
      let counts : cells_in new.covering ≡ (found_of may (levels_of links) (beats_of e)).1 =
      ap (λ (f : Found). f.1) found in
      (bad, ap₂ (λ (rows : List Row) (cells : List (Option ℕ)). (rows, cells)) (kept ∙ k.rows_are) counts)
