-- The situations of a trace with commits, line by line.
use Rattle.std.proofs.Common.{◌≡◌, ◌+◌, ℕ, false, List, [], ◌∷◌, ◌++◌, append_assoc, inl, inr, length, refl, subst}
use Rattle.std.proofs.lemmas.List.{append-nil}
use Rattle.std.specs.Prelude.{IfOk, Option, Some, None, Result, Ok, Err}
use Rattle.tl_beat.specs.declared.beat.Link.{Link}
use Rattle.tl_beat.specs.declared.fault.LineFault.{LineFault}
use Rattle.tl_beat.specs.declared.fault.LineFault.TheVariants.{F1}
use Rattle.tl_commit_lines.proofs.JudgedLines.{header-known, line-stops, line-taken, open-event}
use Rattle.tl_commit_lines.specs.statement.JudgedEvents.{JudgedCommits}
use Rattle.tl_commit_lines.specs.statement.MarkedHeader.{MarkedLinks, NamesMarked}
use Rattle.tl_lines.specs.declared.fault.Fault.{Fault}
use Rattle.tl_lines.specs.declared.fault.Fault.TheVariants.{Line}
use Rattle.tl_lines.specs.declared.status.Status.TheVariants.{Broken}
use Rattle.tl_lines.specs.statement.Fault.{fault_text}
use Rattle.tl_lines.specs.statement.Lines.{IsOpen}
use Rattle.tl_lines.specs.statement.Width.{bytes_of}
use Rattle.tl_events.specs.declared.commit.Event.{Event}
use Rattle.tl_events.specs.statement.EventLine.{SpellsEvent, event_fault}
use Rattle.tl_params.specs.declared.liberties.Liberties.{Liberties}
use Rattle.tl_params.specs.declared.width.Width.{Width}
use Rattle.tl_tried.proofs.EventRows.{found-so}
use Rattle.tl_tried.specs.code.EventCover.{CoversEvents, ReadsEvent, TakesEvent, events_found_in}
use Rattle.tl_tried.specs.code.EventFollowing.{KnowsEventCovering, judge_of}
use Rattle.tl_tried.specs.declared.event_covering.EventCovering.{EventCovering}
use Rattle.tl_tried.specs.statement.Covered.{Found}
use Rattle.tl_tried.specs.statement.EventCovered.{CommitsCovered, CoveredEvents}

-- ---- a line

-- it spells an event
pub line-read : {w : ℕ} {E : Type 0} (old new : EventCovering w) (line : List ℕ) (link : Link) (x : Event w)
    (r : Result (Option Fault) E) → SpellsEvent line link x → IfOk r (TakesEvent old new link x)
    → IfOk r (ReadsEvent old new line)
line-read old new line link x (Err e) spells takes = tt
line-read old new line link x (Ok None) spells takes = λ links may e k.
    let (good, covers) = takes links may e k in
    (link, x, spells, good, covers)
line-read old new line link x (Ok (Some fault)) spells takes = λ links may e k.
    let (bad, found) = takes links may e k in
    (inr (link, x, spells, bad), found)

-- it spells none
pub line-unread : {w : ℕ} (c : EventCovering w) (line : List ℕ) (fault : LineFault) → event_fault w line ≡ Some fault
    → ReadsEvent c c line (Some (Line fault))
line-unread c line fault is = λ links may e k. (inl (fault, is, refl), found-so c links may e k)

-- ---- a handler that knows events

module _ {wide : Width} (allow : Liberties) (old : EventCovering (bytes_of wide)) (lines : List (List ℕ))
    (text : List ℕ) (k : KnowsEventCovering wide allow old lines text) where
  -- the situations of the events that the lines spell are those of the lines
  told : (more : List (List ℕ)) (found : Found)
      → CoveredEvents k.judged.links k.judged.may k.judged.events more found → CommitsCovered allow (lines ++ more) found
  told more found covers =
      rw k.judged.are_lines (inl (wide, k.judged.may, k.judged.links, k.judged.named, k.before more found covers))

  -- no line follows
  pub all-counted : CommitsCovered allow lines (events_found_in old)
  unfolding CoveredEvents
  all-counted =
      subst (λ (l : List (List ℕ)). CommitsCovered allow l (events_found_in old)) (append-nil lines)
      (told [] (events_found_in old) (found-so old k.judged.links k.judged.may k.judged.events k.known))

  -- one follows that has no LF, or is too long
  pub open-counted : (line : List ℕ) → IsOpen line → (more : List (List ℕ))
      → CommitsCovered allow (lines ++ line ∷ more) (events_found_in old)
  unfolding CoveredEvents
  open-counted line is more = told (line ∷ more) (events_found_in old) (inr (
    Line F1,
    inl (F1, open-event (bytes_of wide) line is, refl),
    found-so old k.judged.links k.judged.may k.judged.events k.known,
  ))

  module _ (new : EventCovering (bytes_of wide)) (line : List ℕ) where
    -- what a handler says of the next line
    abbrev pub Says : Option Fault → Type 0
    Says None = KnowsEventCovering wide allow new (lines ++ line ∷ []) text
    Says (Some fault) = ((more : List (List ℕ))
        → JudgedCommits false allow (lines ++ line ∷ more) (text ++ fault_text (length lines + 1) fault) Broken)
        × ((more : List (List ℕ)) → CommitsCovered allow (lines ++ line ∷ more) (events_found_in new))

    pub line-counted : (answer : Option Fault) → ReadsEvent old new line answer → Says answer
    unfolding line-taken CoveredEvents
    line-counted None reads =
        let (link, x, spells, good, covers) = reads k.judged.links k.judged.may k.judged.events k.known in
        record {
          judged = line-taken false allow (judge_of old) lines text k.judged (judge_of new) line link x spells good
              covers.covers.knows;
          known = covers;
          before = λ more found after. rw (append_assoc k.judged.spelled (line ∷ []) more)
              (k.before (line ∷ more) found (inl (link, x, spells, good, after)));
        }
    line-counted (Some fault) reads =
        let (bad, found) = reads k.judged.links k.judged.may k.judged.events k.known in (
          line-stops false allow (judge_of old) lines text k.judged line fault bad,
          λ more. told (line ∷ more) (events_found_in new) (inr (fault, bad, found)),
        )

-- what its header begins
pub header-counted : (wide : Width) (allow : Liberties) (line : List ℕ) (may : Liberties) (links : MarkedLinks)
    (c : EventCovering (bytes_of wide)) → NamesMarked allow line wide may links → CoversEvents c links may []
    → KnowsEventCovering wide allow c (line ∷ []) []
header-counted wide allow line may links c named none = record {
  judged = header-known wide false allow line may links (judge_of c) named none.covers.knows;
  known = none;
  before = λ more found covers. covers;
}
