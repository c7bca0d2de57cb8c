-- What is said of the lines of a wide trace with commits.
use Rattle.std.proofs.Common.{◌≡◌, ◌∙◌, ◌+◌, ◌-◌, ℕ, Bool, true, false, List, [], ◌∷◌, ◌++◌, length, refl, ap, subst}
use Rattle.std.proofs.Common.{append_assoc, arith, cond, inl, inr, length-append}
use Rattle.std.proofs.lemmas.List.{append-nil}
use Rattle.std.specs.Prelude.{◌⊎◌, Option, Some, None}
use Rattle.tl_beat.specs.declared.beat.Link.{Link}
use Rattle.tl_beat.specs.declared.fault.LineFault.TheVariants.{F1}
use Rattle.tl_commit_lines.specs.code.EventWatching.{KnowsEvents}
use Rattle.tl_commits.specs.statement.Events.{Events}
use Rattle.tl_lines.specs.declared.fault.Fault.{Fault}
use Rattle.tl_lines.specs.declared.fault.Fault.TheVariants.{Beyond, Line}
use Rattle.tl_lines.specs.declared.status.Status.{Status}
use Rattle.tl_lines.specs.declared.status.Status.TheVariants.{Clean, Broken}
use Rattle.tl_lines.specs.statement.Fault.{fault_text}
use Rattle.tl_lines.specs.statement.JudgedSo.{said_by}
use Rattle.tl_lines.specs.statement.Lines.{IsOpen}
use Rattle.tl_params.specs.declared.liberties.Liberties.{Liberties}
use Rattle.tl_wide.specs.declared.width.WideWidth.{WideWidth}
use Rattle.tl_wide.specs.statement.Naming.{is_beyond}
use Rattle.tl_wide.specs.statement.Narrowing.{Follows}
use Rattle.tl_wide.specs.statement.Width.{IsWideWidth, part_width, wide_bytes_of}
use Rattle.tl_wide_events.proofs.EventLines.{EventOrFault, event-or-fault}
use Rattle.tl_wide_events.specs.declared.commit.WideEvent.{WideEvent}
use Rattle.tl_wide_events.specs.statement.Narrowed.{WideEvents, events_of, names_of, narrowed, with_events}
use Rattle.tl_wide_events.specs.statement.WideEventLine.{SpellsWideEvent, wide_event_fault}
use Rattle.tl_wide_lines.proofs.JudgedLines.{open-fault}
use Rattle.tl_commit_lines.specs.statement.MarkedHeader.{MarkedLinks}
use Rattle.tl_wide_event_lines.proofs.EventsJudged.{all-taken}
use Rattle.tl_wide_event_lines.specs.code.EventJudging.{JudgesLineOf, JudgesWideEvent}
use Rattle.tl_wide_event_lines.specs.code.EventWatching.{KnowsWideEvents}
use Rattle.tl_wide_event_lines.specs.declared.judge.WideEventJudge.{WideEventJudge}
use Rattle.tl_wide_event_lines.specs.statement.EventFaults.{first_fault, wide_fault_by}
use Rattle.tl_wide_event_lines.specs.statement.JudgedWideEvents.{IsWideAtFault, JudgedAny, JudgedWideEvents}
use Rattle.tl_wide_event_lines.specs.statement.WideMarkedHeader.{NamesWideMarked}

-- a line that has no LF, or is too long, spells no event
pub open-event : (w : ℕ) (line : List ℕ) → IsOpen line → wide_event_fault w line ≡ Some F1
open-event w line is = rw (open-fault w line is) refl

-- ---- the fault of an event

module _ (w : ℕ) (together : Bool) (links : MarkedLinks) (may : Liberties) (link : Link) (x : WideEvent w)
    (t : WideEvents w) where
  -- what becomes of it
  abbrev parts_fault : Option Fault
  parts_fault = first_fault together links may link (events_of link x (names_of ((link, x) ∷ t))) (narrowed t)

  pub fault-beyond : is_beyond link (names_of ((link, x) ∷ t)) ≡ true
      → wide_fault_by w together links may link x t ≡ Some Beyond
  fault-beyond is = ap (λ (b : Bool). cond b (Some Beyond) parts_fault) is

  pub fault-within : is_beyond link (names_of ((link, x) ∷ t)) ≡ false
      → wide_fault_by w together links may link x t ≡ parts_fault
  fault-within is = ap (λ (b : Bool). cond b (Some Beyond) parts_fault) is

-- ---- the lines of events have a text

module _ (w : ℕ) (width : IsWideWidth w) (together : Bool) (links : MarkedLinks) (may : Liberties) where
  -- the line spells an event that isn't at fault, or it is at fault
  abbrev GoodOrBad : WideEvents w → List ℕ → Type 0
  GoodOrBad t line =
      ((link : Link) × (x : WideEvent w) × SpellsWideEvent line link x
      × (wide_fault_by w together links may link x t ≡ None))
      ⊎ ((found : Fault) × IsWideAtFault w together links may t line found)

  good-or-bad : (t : WideEvents w) (line : List ℕ) → GoodOrBad t line
  good-or-bad t line = go (event-or-fault w line width)
    where
      at-event : (link : Link) (x : WideEvent w) → SpellsWideEvent line link x → (o : Option Fault)
          → wide_fault_by w together links may link x t ≡ o → GoodOrBad t line
      at-event link x spells None is = inl (link, x, spells, is)
      at-event link x spells (Some found) is = inr (found, inr (link, x, spells, is))

      go : EventOrFault w line → GoodOrBad t line
      go (inl (link, x, spells)) = at-event link x spells (wide_fault_by w together links may link x t) refl
      go (inr (of_line, is)) = inr (Line of_line, inl (of_line, is, refl))

  abbrev HasText : WideEvents w → List (List ℕ) → Type 0
  HasText t lines = (text : List ℕ) × (status : Status) × JudgedWideEvents w together links may t lines text status

  pub events-total : (t : WideEvents w) (lines : List (List ℕ))
      → (text : List ℕ) × (status : Status) × JudgedWideEvents w together links may t lines text status
  unfolding JudgedWideEvents
  events-total t [] = (said_by together (length t), Clean, (refl, refl))
  events-total t (line ∷ lines) = go (good-or-bad t line) (λ link x. events-total ((link, x) ∷ t) lines)
    where
      go : GoodOrBad t line → ((link : Link) (x : WideEvent w) → HasText ((link, x) ∷ t) lines) → HasText t (line ∷ lines)
      go (inl (link, x, spells, good)) more =
          let (text, status, judged) = more link x in
          (text, status, inl (link, x, spells, good, judged))
      go (inr (found, is)) more = (fault_text (length t + 2) found, Broken, inr (found, is, refl, refl))

-- ---- a handler that knows wide events

module _ {wide : WideWidth} (together : Bool) (allow : Liberties)
    (old : WideEventJudge (part_width (wide_bytes_of wide))) (lines : List (List ℕ)) (text : List ℕ)
    (k : KnowsWideEvents wide together allow old lines text) where
  so-many : length lines ≡ length k.trace + 1
  so-many = let many = ap (λ (l : List (List ℕ)). length l) k.are_lines in omega (arith, many, k.counted)

  -- the text of all that was said, and of a fault
  fault-said : (found : Fault) → text ++ fault_text (length lines + 1) found ≡ fault_text (length k.trace + 2) found
  fault-said found =
      let number : length lines + 1 ≡ length k.trace + 2 = omega (arith, so-many) in
      ap (λ (x : List ℕ). x ++ fault_text (length lines + 1) found) k.silent ∙ ap (λ n. fault_text n found) number

  -- what is said of the events that the lines spell is said of the lines
  told : (more : List (List ℕ)) (said : List ℕ) (status : Status)
      → JudgedWideEvents (wide_bytes_of wide) together k.links k.may k.trace more said status
      → JudgedAny together allow (lines ++ more) said status
  told more said status judged =
      rw k.are_lines (inl (wide, k.may, k.links, k.named, k.before more said status judged))

  -- the next line is at fault
  pub line-stops : (line : List ℕ) (found : Fault)
      → IsWideAtFault (wide_bytes_of wide) together k.links k.may k.trace line found → (more : List (List ℕ))
      → JudgedAny together allow (lines ++ line ∷ more) (text ++ fault_text (length lines + 1) found) Broken
  unfolding JudgedWideEvents
  line-stops line found is more = told (line ∷ more) _ Broken (inr (found, is, fault-said found, refl))

  -- no line follows
  pub lines-end : JudgedAny together allow lines (text ++ said_by together (length lines - 1)) Clean
  unfolding JudgedWideEvents
  lines-end =
      let number : length lines - 1 ≡ length k.trace = omega (arith, so-many) in
      let said : text ++ said_by together (length lines - 1) ≡ said_by together (length k.trace) =
      ap (λ (x : List ℕ). x ++ said_by together (length lines - 1)) k.silent ∙ ap (said_by together) number in
      subst (λ (l : List (List ℕ)). JudgedAny together allow l (text ++ said_by together (length lines - 1)) Clean)
      (append-nil lines) (told [] (text ++ said_by together (length lines - 1)) Clean (said, refl))

  -- whatever lines follow
  pub lines-more : IsWideWidth (wide_bytes_of wide) → (more : List (List ℕ)) → (rest : List ℕ) × (status : Status)
      × JudgedAny together allow (lines ++ more) (text ++ rest) status
  lines-more width more =
      let (rest, status, judged) = events-total (wide_bytes_of wide) width together k.links k.may k.trace more in
      (rest, status, rw k.silent (told more rest status judged))

  module _ (new : WideEventJudge (part_width (wide_bytes_of wide))) (line : List ℕ) where
    -- what a handler says of the next line
    abbrev pub Says : Option Fault → Type 0
    Says None = KnowsWideEvents wide together allow new (lines ++ line ∷ []) text
    Says (Some found) = (more : List (List ℕ))
        → JudgedAny together allow (lines ++ line ∷ more) (text ++ fault_text (length lines + 1) found) Broken

    unfoldable pub line-taken : (link : Link) (x : WideEvent (wide_bytes_of wide)) → SpellsWideEvent line link x
        → wide_fault_by (wide_bytes_of wide) together k.links k.may link x k.trace ≡ None
        → Follows new.narrower (names_of ((link, x) ∷ k.trace))
        → KnowsEvents together new.judge k.links k.may (narrowed ((link, x) ∷ k.trace))
        → KnowsWideEvents wide together allow new (lines ++ line ∷ []) text
    unfolding JudgedWideEvents
    line-taken link x spells good follows known = record {
      header = k.header;
      spelled = k.spelled ++ line ∷ [];
      may = k.may;
      links = k.links;
      trace = (link, x) ∷ k.trace;
      are_lines = ap (λ (l : List (List ℕ)). l ++ line ∷ []) k.are_lines;
      named = k.named;
      follows = follows;
      known = known;
      counted = omega (arith, k.counted, length-append k.spelled (line ∷ []));
      before = λ more rest status judged. rw (append_assoc k.spelled (line ∷ []) more)
          (k.before (line ∷ more) rest status (inl (link, x, spells, good, judged)));
      silent = k.silent;
    }

    -- all events that it becomes are taken
    becomes-taken : (link : Link) (x : WideEvent (wide_bytes_of wide)) → (e : Events (part_width (wide_bytes_of wide)))
        → e ≡ with_events link (events_of link x (names_of ((link, x) ∷ k.trace))) (narrowed k.trace)
        → KnowsEvents together new.judge k.links k.may e
        → KnowsEvents together new.judge k.links k.may (narrowed ((link, x) ∷ k.trace))
    unfolding narrowed
    becomes-taken link x e is known = subst (λ v. KnowsEvents together new.judge k.links k.may v) is known

    event-says : (link : Link) (x : WideEvent (wide_bytes_of wide)) (answer : Option Fault)
        → SpellsWideEvent line link x → JudgesWideEvent old new link x answer → Says answer
    event-says link x None spells (inl (events, judged, becomes)) =
        let (within, same, follows) = becomes k.trace k.follows in
        let (good, known) = (rw same at judged) together k.links k.may (narrowed k.trace) k.known in
        line-taken link x spells
        (fault-within (wide_bytes_of wide) together k.links k.may link x k.trace within ∙ good) follows
        (becomes-taken link x _ (all-taken together k.links k.may link (events_of link x (names_of ((link, x) ∷ k.trace)))
        (narrowed k.trace) good) known)
    event-says link x (Some found) spells (inl (events, judged, becomes)) =
        let (within, same, follows) = becomes k.trace k.follows in
        let (bad, known) = (rw same at judged) together k.links k.may (narrowed k.trace) k.known in
        line-stops line found (inr (
          link,
          x,
          spells,
          fault-within (wide_bytes_of wide) together k.links k.may link x k.trace within ∙ bad,
        ))
    event-says link x answer spells (inr (is, kept, past)) =
        rw is (line-stops line Beyond (inr (
          link,
          x,
          spells,
          fault-beyond (wide_bytes_of wide) together k.links k.may link x k.trace (past k.trace k.follows).0,
        )))

    pub line-says : (answer : Option Fault) → JudgesLineOf (wide_bytes_of wide) old new line answer → Says answer
    line-says answer (inl (of_line, bad, is)) = rw is (line-stops line (Line of_line) (inl (of_line, bad, refl)))
    line-says answer (inr (link, x, spells, judged)) = event-says link x answer spells judged

-- what its header begins
unfoldable pub header-known : (wide : WideWidth) (together : Bool) (allow : Liberties) (line : List ℕ) (may : Liberties)
    (links : MarkedLinks) (judge : WideEventJudge (part_width (wide_bytes_of wide)))
    → NamesWideMarked allow line wide may links → ((w : ℕ) → Follows {w = w} judge.narrower [])
    → KnowsEvents together judge.judge links may [] → KnowsWideEvents wide together allow judge (line ∷ []) []
unfolding narrowed
header-known wide together allow line may links judge named follows known = record {
  header = line;
  spelled = [];
  may = may;
  links = links;
  trace = [];
  are_lines = refl;
  named = named;
  follows = follows (wide_bytes_of wide);
  known = known;
  counted = refl;
  before = λ more rest status judged. judged;
  silent = refl;
}
