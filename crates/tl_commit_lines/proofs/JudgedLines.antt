-- What is said of the lines of a trace with commits.
use Rattle.std.proofs.Common.{◌≡◌, ◌∙◌, ◌+◌, ◌-◌, ℕ, Bool, List, [], ◌∷◌, ◌++◌, length, refl, ap, subst, arith}
use Rattle.std.proofs.Common.{append_assoc, inl, inr, length-append}
use Rattle.std.proofs.lemmas.List.{append-nil}
use Rattle.std.specs.Prelude.{◌⊎◌, Option, Some, None}
use Rattle.tl_beat.specs.declared.beat.Link.{Link}
use Rattle.tl_beat.specs.declared.fault.LineFault.TheVariants.{F1}
use Rattle.tl_beat.specs.statement.Width.{IsWidth}
use Rattle.tl_commits.specs.statement.Events.{Events}
use Rattle.tl_lines.proofs.Decoded.{open_fault}
use Rattle.tl_lines.specs.declared.fault.Fault.{Fault}
use Rattle.tl_lines.specs.declared.fault.Fault.TheVariants.{Line}
use Rattle.tl_lines.specs.declared.status.Status.{Status}
use Rattle.tl_lines.specs.declared.status.Status.TheVariants.{Clean, Broken}
use Rattle.tl_lines.specs.statement.Fault.{fault_text}
use Rattle.tl_lines.specs.statement.JudgedSo.{said_by}
use Rattle.tl_lines.specs.statement.Lines.{IsOpen}
use Rattle.tl_lines.specs.statement.Width.{bytes_of}
use Rattle.tl_events.proofs.EventLines.{EventOrFault, event-or-fault}
use Rattle.tl_events.specs.declared.commit.Event.{Event}
use Rattle.tl_events.specs.statement.EventLine.{SpellsEvent, event_fault}
use Rattle.tl_params.specs.declared.liberties.Liberties.{Liberties}
use Rattle.tl_params.specs.declared.width.Width.{Width}
use Rattle.tl_commit_lines.specs.code.EventWatching.{KnowsEventTrace, KnowsEvents, WatchesEvent}
use Rattle.tl_commit_lines.specs.declared.judge.EventJudge.{EventJudge}
use Rattle.tl_commit_lines.specs.statement.JudgedEvents.{IsEventAtFault, JudgedCommits, JudgedEvents, fault_by}
use Rattle.tl_commit_lines.specs.statement.MarkedHeader.{MarkedLinks, NamesMarked}

-- a line that has no LF, or is too long, spells no event
pub open-event : (w : ℕ) (line : List ℕ) → IsOpen line → event_fault w line ≡ Some F1
open-event w line is = rw (open_fault w line is) refl

-- ---- the lines of events have a text

module _ (w : ℕ) (width : IsWidth w) (together : Bool) (links : MarkedLinks) (may : Liberties) where
  -- the line spells an event that isn't at fault, or it is at fault
  abbrev GoodOrBad : Events w → List ℕ → Type 0
  GoodOrBad e line =
      ((link : Link) × (x : Event w) × SpellsEvent line link x × (fault_by w together links may link x e ≡ None))
      ⊎ ((found : Fault) × IsEventAtFault w together links may e line found)

  good-or-bad : (e : Events w) (line : List ℕ) → GoodOrBad e line
  good-or-bad e line = go (event-or-fault w line width)
    where
      at-event : (link : Link) (x : Event w) → SpellsEvent line link x → (o : Option Fault)
          → fault_by w together links may link x e ≡ o → GoodOrBad e line
      at-event link x spells None is = inl (link, x, spells, is)
      at-event link x spells (Some found) is = inr (found, inr (link, x, spells, is))

      go : EventOrFault w line → GoodOrBad e line
      go (inl (link, x, spells)) = at-event link x spells (fault_by w together links may link x e) refl
      go (inr (of_line, is)) = inr (Line of_line, inl (of_line, is, refl))

  abbrev HasText : Events w → List (List ℕ) → Type 0
  HasText e lines = (text : List ℕ) × (status : Status) × JudgedEvents w together links may e lines text status

  pub events-total : (e : Events w) (lines : List (List ℕ))
      → (text : List ℕ) × (status : Status) × JudgedEvents w together links may e lines text status
  unfolding JudgedEvents
  events-total e [] = (said_by together (length e), Clean, (refl, refl))
  events-total e (line ∷ lines) = go (good-or-bad e line) (λ link x. events-total ((link, x) ∷ e) lines)
    where
      go : GoodOrBad e line → ((link : Link) (x : Event w) → HasText ((link, x) ∷ e) lines) → HasText e (line ∷ lines)
      go (inl (link, x, spells, good)) more =
          let (text, status, judged) = more link x in
          (text, status, inl (link, x, spells, good, judged))
      go (inr (found, is)) more = (fault_text (length e + 2) found, Broken, inr (found, is, refl, refl))

-- ---- a handler that knows events

module _ {wide : Width} (together : Bool) (allow : Liberties) (old : EventJudge (bytes_of wide))
    (lines : List (List ℕ)) (text : List ℕ) (k : KnowsEventTrace wide together allow old lines text) where
  so-many : length lines ≡ length k.events + 1
  so-many = let many = ap (λ (l : List (List ℕ)). length l) k.are_lines in omega (arith, many, k.counted)

  -- the text of all that was said, and of a fault
  fault-said : (found : Fault) → text ++ fault_text (length lines + 1) found ≡ fault_text (length k.events + 2) found
  fault-said found =
      let number : length lines + 1 ≡ length k.events + 2 = omega (arith, so-many) in
      ap (λ (x : List ℕ). x ++ fault_text (length lines + 1) found) k.silent ∙ ap (λ n. fault_text n found) number

  -- what is said of the events that the lines spell is said of the lines
  told : (more : List (List ℕ)) (said : List ℕ) (status : Status)
      → JudgedEvents (bytes_of wide) together k.links k.may k.events more said status
      → JudgedCommits together allow (lines ++ more) said status
  told more said status judged =
      rw k.are_lines (inl (wide, k.may, k.links, k.named, k.before more said status judged))

  -- the next line is at fault
  pub line-stops : (line : List ℕ) (found : Fault)
      → IsEventAtFault (bytes_of wide) together k.links k.may k.events line found → (more : List (List ℕ))
      → JudgedCommits together allow (lines ++ line ∷ more) (text ++ fault_text (length lines + 1) found) Broken
  unfolding JudgedEvents
  line-stops line found is more = told (line ∷ more) _ Broken (inr (found, is, fault-said found, refl))

  -- no line follows
  pub lines-end : JudgedCommits together allow lines (text ++ said_by together (length lines - 1)) Clean
  unfolding JudgedEvents
  lines-end =
      let number : length lines - 1 ≡ length k.events = omega (arith, so-many) in
      let said : text ++ said_by together (length lines - 1) ≡ said_by together (length k.events) =
      ap (λ (x : List ℕ). x ++ said_by together (length lines - 1)) k.silent ∙ ap (said_by together) number in
      subst (λ (l : List (List ℕ)). JudgedCommits together allow l (text ++ said_by together (length lines - 1)) Clean)
      (append-nil lines) (told [] (text ++ said_by together (length lines - 1)) Clean (said, refl))

  -- whatever lines follow
  pub lines-more : IsWidth (bytes_of wide) → (more : List (List ℕ)) → (rest : List ℕ) × (status : Status)
      × JudgedCommits together allow (lines ++ more) (text ++ rest) status
  lines-more width more =
      let (rest, status, judged) = events-total (bytes_of wide) width together k.links k.may k.events more in
      (rest, status, rw k.silent (told more rest status judged))

  module _ (new : EventJudge (bytes_of wide)) (line : List ℕ) where
    unfoldable pub line-taken : (link : Link) (x : Event (bytes_of wide)) → SpellsEvent line link x
        → fault_by (bytes_of wide) together k.links k.may link x k.events ≡ None
        → KnowsEvents together new k.links k.may ((link, x) ∷ k.events)
        → KnowsEventTrace wide together allow new (lines ++ line ∷ []) text
    unfolding JudgedEvents
    line-taken link x spells good known = record {
      header = k.header;
      spelled = k.spelled ++ line ∷ [];
      may = k.may;
      links = k.links;
      events = (link, x) ∷ k.events;
      are_lines = ap (λ (l : List (List ℕ)). l ++ line ∷ []) k.are_lines;
      named = k.named;
      known = known;
      counted = omega (arith, k.counted, length-append k.spelled (line ∷ []));
      before = λ more rest status judged. rw (append_assoc k.spelled (line ∷ []) more)
          (k.before (line ∷ more) rest status (inl (link, x, spells, good, judged)));
      silent = k.silent;
    }

    -- what a handler says of the next line
    abbrev pub Says : Option Fault → Type 0
    Says None = KnowsEventTrace wide together allow new (lines ++ line ∷ []) text
    Says (Some found) = (more : List (List ℕ))
        → JudgedCommits together allow (lines ++ line ∷ more) (text ++ fault_text (length lines + 1) found) Broken

    pub line-says : (answer : Option Fault) → WatchesEvent together old new line answer → Says answer
    line-says None watches =
        let (link, x, spells, good, known) = watches k.links k.may k.events k.known in
        line-taken link x spells good known
    line-says (Some found) watches = line-stops line found (watches k.links k.may k.events k.known)

-- what its header begins
abbrev pub header-known : (wide : Width) (together : Bool) (allow : Liberties) (line : List ℕ) (may : Liberties)
    (links : MarkedLinks) (judge : EventJudge (bytes_of wide)) → NamesMarked allow line wide may links
    → KnowsEvents together judge links may [] → KnowsEventTrace wide together allow judge (line ∷ []) []
header-known wide together allow line may links judge named known = record {
  header = line;
  spelled = [];
  may = may;
  links = links;
  events = [];
  are_lines = refl;
  named = named;
  known = known;
  counted = refl;
  before = λ more rest status judged. judged;
  silent = refl;
}
