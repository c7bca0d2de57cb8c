-- What a handler of traces with and without commits says.
use Rattle.std.proofs.Common.{◌≡◌, ◌∙◌, ◌+◌, ◌-◌, ℕ, Bool, true, false, List, [], ◌∷◌, ◌++◌}
use Rattle.std.proofs.Common.{length, refl, ap, sym, subst, arith, append_assoc, inl, inr}
use Rattle.std.specs.Prelude.{IfOk, Option, Some, None, Result, Ok, Err}
use Rattle.tl_beat.specs.declared.fault.LineFault.TheVariants.{F1}
use Rattle.tl_lines.proofs.Judged.{said_at_end}
use Rattle.tl_lines.proofs.OneText.{is_width_of}
use Rattle.tl_lines.specs.code.GivenUp.{IsKnown}
use Rattle.tl_lines.specs.code.Judging.{Finishes, IsTotal, Judges, KnowsFor, Stops}
use Rattle.tl_lines.specs.code.Watching.{end_by}
use Rattle.tl_lines.specs.declared.fault.Fault.{Fault}
use Rattle.tl_lines.specs.declared.fault.Fault.TheVariants.{Line}
use Rattle.tl_lines.specs.declared.status.Status.{Status}
use Rattle.tl_lines.specs.declared.status.Status.TheVariants.{Clean, Broken}
use Rattle.tl_lines.specs.statement.Fault.{fault_text}
use Rattle.tl_lines.specs.statement.JudgedSo.{said_by}
use Rattle.tl_lines.specs.statement.Lines.{IsOpen}
use Rattle.tl_lines.specs.statement.Width.{bytes_of}
use Rattle.tl_params.specs.declared.liberties.Liberties.{Liberties}
use Rattle.tl_params.specs.declared.width.Width.TheVariants as width
use Rattle.tl_wide_lines.proofs.TraceJudged.{none-waits, trace-so-far, trace-total, waits-none}
use Rattle.tl_wide_lines.specs.code.WideWatching.{KnowsTraceLines, trace_judged_for, waits}
use Rattle.tl_wide_lines.specs.declared.lines.TraceLines.{TraceLines}
use Rattle.tl_wide_lines.specs.statement.JudgedTrace.{JudgedTrace, TraceSoFar}
use Rattle.tl_commit_lines.proofs.JudgedLines.{events-total, line-says, line-stops, lines-end, lines-more, open-event}
use Rattle.tl_commit_lines.proofs.MarkedHeaders.{NamedOrNone, named_or_none, open_marked}
use Rattle.tl_commit_lines.specs.code.EventWatching.{BeginsMarked, KnowsEventBy, KnowsEventLines, KnowsEventLinks}
use Rattle.tl_commit_lines.specs.code.EventWatching.{NoneMarked, WatchesLine, events_judged_for}
use Rattle.tl_commit_lines.specs.declared.lines.EventLines.{EventLines}
use Rattle.tl_commit_lines.specs.declared.lines.EventLinks.{EventLinks}
use Rattle.tl_commit_lines.specs.declared.lines.EventLinks.TheVariants.{Four, Eight, Sixteen}
use Rattle.tl_commit_lines.specs.statement.JudgedEvents.{CommitsSoFar, JudgedCommits}

-- ---- events, by width

-- what a handler says of the next line, where it knows events
abbrev EventSays : Bool → Liberties → EventLinks → List (List ℕ) → List ℕ → List ℕ → Option Fault → Type 0
EventSays together allow new lines text line None = KnowsEventLinks together allow new (lines ++ line ∷ []) text
EventSays together allow new lines text line (Some found) = (more : List (List ℕ))
    → JudgedCommits together allow (lines ++ line ∷ more) (text ++ fault_text (length lines + 1) found) Broken

module _ (together : Bool) (allow : Liberties) (lines : List (List ℕ)) (text : List ℕ) where
  links-say : (line : List ℕ) (old new : EventLinks) (answer : Option Fault) → WatchesLine together old new line answer
      → KnowsEventLinks together allow old lines text → EventSays together allow new lines text line answer
  links-say line (Four old) (Four new) None watches k =
      line-says together allow old lines text k new line None watches
  links-say line (Four old) (Four new) (Some found) watches k =
      line-says together allow old lines text k new line (Some found) watches
  links-say line (Eight old) (Eight new) None watches k =
      line-says together allow old lines text k new line None watches
  links-say line (Eight old) (Eight new) (Some found) watches k =
      line-says together allow old lines text k new line (Some found) watches
  links-say line (Sixteen old) (Sixteen new) None watches k =
      line-says together allow old lines text k new line None watches
  links-say line (Sixteen old) (Sixteen new) (Some found) watches k =
      line-says together allow old lines text k new line (Some found) watches
  links-say line old new answer watches k = absurd watches

  pub links-open : (line : List ℕ) (links : EventLinks) → IsOpen line → KnowsEventLinks together allow links lines text
      → EventSays together allow links lines text line (Some (Line F1))
  links-open line (Four judge) is k =
      line-stops together allow judge lines text k line (Line F1) (inl (F1, open-event 4 line is, refl))
  links-open line (Eight judge) is k =
      line-stops together allow judge lines text k line (Line F1) (inl (F1, open-event 8 line is, refl))
  links-open line (Sixteen judge) is k =
      line-stops together allow judge lines text k line (Line F1) (inl (F1, open-event 16 line is, refl))

  pub links-end : (links : EventLinks) → KnowsEventLinks together allow links lines text
      → JudgedCommits together allow lines (text ++ said_by together (length lines - 1)) Clean
  links-end (Four judge) k = lines-end together allow judge lines text k
  links-end (Eight judge) k = lines-end together allow judge lines text k
  links-end (Sixteen judge) k = lines-end together allow judge lines text k

  links-more : (links : EventLinks) → KnowsEventLinks together allow links lines text → (more : List (List ℕ))
      → (rest : List ℕ) × (status : Status) × JudgedCommits together allow (lines ++ more) (text ++ rest) status
  links-more (Four judge) k = lines-more together allow judge lines text k (is_width_of width.Four)
  links-more (Eight judge) k = lines-more together allow judge lines text k (is_width_of width.Eight)
  links-more (Sixteen judge) k = lines-more together allow judge lines text k (is_width_of width.Sixteen)

-- ---- a trace without commits

-- what is said of lines of which the first is no header of a trace with commits
pub trace-judged : (together : Bool) (allow : Liberties) (lines : List (List ℕ)) (text : List ℕ) (status : Status)
    → NoneMarked allow lines → JudgedTrace together allow lines text status
    → JudgedCommits together allow lines text status
trace-judged together allow [] text status none judged = judged
trace-judged together allow (line ∷ lines) text status none judged = inr (none, judged)

pub none-first : (allow : Liberties) (lines : List (List ℕ)) (line : List ℕ) (more : List (List ℕ))
    → NoneMarked allow lines → (lines ≡ [] → NoneMarked allow (line ∷ [])) → NoneMarked allow (lines ++ line ∷ more)
none-first allow [] line more none first = first refl
none-first allow (l ∷ lines) line more none first = none

abbrev judged_by : Bool × Liberties → List (List ℕ) → List ℕ → Status → Type 0
judged_by p = JudgedTrace p.0 p.1

-- ---- the handler

-- a trace without commits is judged, and `line` begins none with commits
abbrev pub IsPlain : EventLines → List ℕ → Type 0
IsPlain h line = (lines : List (List ℕ)) (text : List ℕ) → KnowsEventLines h lines text
    → (h.events ≡ None) × (lines ≡ [] → NoneMarked h.allow (line ∷ []))

-- one whose header has been read
pub plain-read : (h : EventLines) (line : List ℕ) → waits h.plain ≡ false → IsPlain h line
plain-read h line read = λ lines text known. go h.events refl lines text known
  where
    go : (events : Option EventLinks) → h.events ≡ events → (lines : List (List ℕ)) (text : List ℕ)
        → KnowsEventBy h.together h.allow h.plain events lines text
        → (h.events ≡ None) × (lines ≡ [] → NoneMarked h.allow (line ∷ []))
    go (Some links) is lines text k = let both : true ≡ false = sym k.1 ∙ read in absurd cc
    go None is lines text k = (is, λ empty. absurd (unread (none-waits h.plain text (rw empty at k.0))))
      where
        unread : waits h.plain ≡ true → ⊥
        unread waiting = let both : true ≡ false = sym waiting ∙ read in absurd cc

-- one whose first line this is
pub plain-first : (h : EventLines) (line : List ℕ) → h.events ≡ None → NoneMarked h.allow (line ∷ []) → IsPlain h line
plain-first h line none first = λ lines text known. (none, λ empty. first)

module _ (old new : EventLines) (line was is : List ℕ) where
  -- what is said behind what was written already
  abbrev JudgesSo : Option Fault → Type 0
  JudgesSo = Judges KnowsEventLines (JudgedCommits old.together old.allow) old new line was is

  -- a line of an event
  pub event-judged : {E : Type 0} (links more : EventLinks) (r : Result (Option Fault) E) → old.events ≡ Some links
      → new ≡ record old { events = Some more } → is ≡ was
      → IfOk r (λ found. (together : Bool) → WatchesLine together links more line found) → IfOk r JudgesSo
  event-judged links after (Err e) at also same watches = tt
  event-judged links after (Ok None) at also same watches = λ lines before known.
      let k : KnowsEventBy old.together old.allow old.plain (Some links) lines (before ++ was) = rw at at known in
      rw (also, same) (
        links-say old.together old.allow lines (before ++ was) line links after None (watches old.together) k.0,
        k.1,
      )
  event-judged links after (Ok (Some found)) at also same watches = λ lines before known more.
      let k : KnowsEventBy old.together old.allow old.plain (Some links) lines (before ++ was) = rw at at known in
      rw (same, ← append_assoc before was (fault_text (length lines + 1) found))
      (links-say old.together old.allow lines (before ++ was) line links after (Some found) (watches old.together) k.0
      more)

  -- the header of a trace with commits
  pub marked-begun : (links : EventLinks) → old.events ≡ None → new ≡ record old { events = Some links } → is ≡ was
      → waits old.plain ≡ true → BeginsMarked old.together old.allow line (Some links) → JudgesSo None
  marked-begun links at also same waiting begun = λ lines before known.
      let k : KnowsEventBy old.together old.allow old.plain None lines (before ++ was) = rw at at known in
      let (empty, silent) = waits-none old.plain lines (before ++ was) k.0 waiting in
      rw (also, same, empty, silent) (begun, waiting)

  -- another line
  pub plain-judged : {E : Type 0} (r : Result (Option Fault) E) → IsPlain old line
      → new ≡ record old { plain = new.plain }
      → IfOk r (Judges KnowsTraceLines (judged_by (trace_judged_for old.plain)) old.plain new.plain line was is)
      → IfOk r (λ _. trace_judged_for new.plain ≡ trace_judged_for old.plain) → IfOk r JudgesSo
  plain-judged (Err e) plain also judged same = tt
  plain-judged (Ok None) plain also judged same = λ lines before known.
      let (none, first) = plain lines (before ++ was) known in
      let k : KnowsEventBy old.together old.allow old.plain None lines (before ++ was) = rw none at known in
      rw (also, none) (
        judged lines before k.0,
        same ∙ k.1,
        none-first old.allow lines line [] k.2 first,
      )
  plain-judged (Ok (Some found)) plain also judged same = λ lines before known more.
      let (none, first) = plain lines (before ++ was) known in
      let k : KnowsEventBy old.together old.allow old.plain None lines (before ++ was) = rw none at known in
      trace-judged old.together old.allow (lines ++ line ∷ more) _ Broken
      (none-first old.allow lines line more k.2 first)
      (subst (λ (p : Bool × Liberties). judged_by p (lines ++ line ∷ more)
      (before ++ (is ++ fault_text (length lines + 1) found)) Broken) k.1 (judged lines before k.0 more))

-- a line that has no LF, or is too long
module _ (h : EventLines) (line said : List ℕ) (open_line : IsOpen line) where
  pub event-open : (links : EventLinks) → h.events ≡ Some links
      → Stops KnowsEventLines (JudgedCommits h.together h.allow) h line said said (Line F1)
  event-open links at = λ lines before known more.
      let k : KnowsEventBy h.together h.allow h.plain (Some links) lines (before ++ said) = rw at at known in
      rw (← append_assoc before said (fault_text (length lines + 1) (Line F1)))
      (links-open h.together h.allow lines (before ++ said) line links open_line k.0 more)

  pub plain-open : (found : Fault) → h.events ≡ None
      → Stops KnowsTraceLines (judged_by (trace_judged_for h.plain)) h.plain line said said found
      → Stops KnowsEventLines (JudgedCommits h.together h.allow) h line said said found
  plain-open found at stops = λ lines before known more.
      let k : KnowsEventBy h.together h.allow h.plain None lines (before ++ said) = rw at at known in
      trace-judged h.together h.allow (lines ++ line ∷ more) _ Broken
      (none-first h.allow lines line more k.2 (λ empty. open_marked h.allow line open_line))
      (subst (λ (p : Bool × Liberties). judged_by p (lines ++ line ∷ more)
      (before ++ (said ++ fault_text (length lines + 1) found)) Broken) k.1 (stops lines before k.0 more))

-- the end of the input
module _ (h : EventLines) (count : ℕ) (was is : List ℕ) where
  pub event-end : (links : EventLinks) → h.events ≡ Some links → is ≡ was ++ end_by h.together (count - 1)
      → Finishes KnowsEventLines (JudgedCommits h.together h.allow) h count was is None
  event-end links at says = λ lines before known counted.
      let k : KnowsEventBy h.together h.allow h.plain (Some links) lines (before ++ was) = rw at at known in
      let number : count - 1 ≡ length lines - 1 = omega (arith, counted) in
      let text : (before ++ was) ++ said_by h.together (length lines - 1) ≡ before ++ is =
      append_assoc before was (said_by h.together (length lines - 1))
      ∙ ap (λ (x : List ℕ). before ++ (was ++ x)) (ap (said_by h.together) (sym number)
      ∙ sym (said_at_end h.together (count - 1)))
      ∙ ap (λ (x : List ℕ). before ++ x) (sym says) in
      subst (λ (x : List ℕ). JudgedCommits h.together h.allow lines x Clean) text
      (links-end h.together h.allow lines (before ++ was) links k.0)

  pub plain-end : {E : Type 0} (r : Result (Option Fault) E) → h.events ≡ None
      → IfOk r (Finishes KnowsTraceLines (judged_by (trace_judged_for h.plain)) h.plain count was is)
      → IfOk r (Finishes KnowsEventLines (JudgedCommits h.together h.allow) h count was is)
  plain-end (Err e) at ends = tt
  plain-end (Ok None) at ends = λ lines before known counted.
      let k : KnowsEventBy h.together h.allow h.plain None lines (before ++ was) = rw at at known in
      trace-judged h.together h.allow lines (before ++ is) Clean k.2
      (subst (λ (p : Bool × Liberties). judged_by p lines (before ++ is) Clean) k.1 (ends lines before k.0 counted))
  plain-end (Ok (Some found)) at ends = λ lines before known counted.
      let k : KnowsEventBy h.together h.allow h.plain None lines (before ++ was) = rw at at known in
      trace-judged h.together h.allow lines _ Broken k.2
      (subst (λ (p : Bool × Liberties). judged_by p lines (before ++ (is ++ fault_text (length lines + 1) found)) Broken)
      k.1 (ends lines before k.0 counted))

-- ---- each trace has a text

abbrev HasText : Bool → Liberties → List (List ℕ) → List ℕ → Type 0
HasText together allow lines text =
    (rest : List ℕ) × (status : Status) × JudgedCommits together allow lines (text ++ rest) status

plain-text : (together : Bool) (allow : Liberties) (plain : TraceLines) (lines : List (List ℕ)) (text : List ℕ)
    → KnowsTraceLines plain lines text → trace_judged_for plain ≡ (together, allow) → (more : List (List ℕ))
    → (rest : List ℕ) × (status : Status) × JudgedTrace together allow (lines ++ more) (text ++ rest) status
plain-text together allow plain lines text known same more =
    let (rest, status, judged) = trace-total plain lines text known more in (
      rest,
      status,
      subst (λ (p : Bool × Liberties). judged_by p (lines ++ more) (text ++ rest) status) same judged,
    )

-- whose first line has still to come
first-more : (together : Bool) (allow : Liberties) (plain : TraceLines) (text : List ℕ)
    → KnowsTraceLines plain [] text → trace_judged_for plain ≡ (together, allow) → (more : List (List ℕ))
    → HasText together allow more text
first-more together allow plain text known same [] = plain-text together allow plain [] text known same []
first-more together allow plain text known same (line ∷ more) = go (named_or_none allow line)
  where
    go : NamedOrNone allow line → HasText together allow (line ∷ more) text
    go (inl (wide, may, links, named)) =
        let (rest, status, judged) = events-total (bytes_of wide) (is_width_of wide) together links may [] more in
        let silent = (waits-none plain [] text known (none-waits plain text known)).1 in
        (rest, status, rw silent (inl (wide, may, links, named, judged)))
    go (inr none) =
        let (rest, status, judged) = plain-text together allow plain [] text known same (line ∷ more) in
        (rest, status, inr (none, judged))

more-by : (together : Bool) (allow : Liberties) (plain : TraceLines) (events : Option EventLinks)
    (lines : List (List ℕ)) (text : List ℕ) → KnowsEventBy together allow plain events lines text
    → (more : List (List ℕ)) → HasText together allow (lines ++ more) text
more-by together allow plain (Some links) lines text k more = links-more together allow lines text links k.0 more
more-by together allow plain None [] text k more = first-more together allow plain text k.0 k.1 more
more-by together allow plain None (line ∷ lines) text k more =
    let (rest, status, judged) = plain-text together allow plain (line ∷ lines) text k.0 k.1 more in
    (rest, status, inr (k.2, judged))

pub events-have-text : IsTotal events_judged_for KnowsEventLines (λ p. JudgedCommits p.0 p.1)
events-have-text h lines text known more = more-by h.together h.allow h.plain h.events lines text known more

-- ---- before the end of the input

so-far-by : (together : Bool) (allow : Liberties) (plain : TraceLines) (events : Option EventLinks)
    (lines : List (List ℕ)) (text : List ℕ) → KnowsEventBy together allow plain events lines text
    → CommitsSoFar together allow lines text
so-far-by together allow plain (Some links) lines text k = inr (links-end together allow lines text links k.0)
so-far-by together allow plain None lines text k =
    go (trace-so-far together allow lines text (plain, (k.0, k.1)))
  where
    go : TraceSoFar together allow lines text → CommitsSoFar together allow lines text
    go (inl none) = inl none
    go (inr judged) = inr (trace-judged together allow lines _ Clean k.2 judged)

-- a handler that is made for this judges so
pub made-for : (h : EventLines) (together : Bool) (allow : Liberties) → events_judged_for h ≡ (together, allow)
    → (h.together ≡ together) × (h.allow ≡ allow)
made-for h together allow is = (ap (λ (p : Bool × Liberties). p.0) is, ap (λ (p : Bool × Liberties). p.1) is)

pub commits-so-far : (together : Bool) (allow : Liberties) (lines : List (List ℕ)) (text : List ℕ)
    → IsKnown (KnowsFor events_judged_for (together, allow) KnowsEventLines) lines text
    → CommitsSoFar together allow lines text
commits-so-far together allow lines text (h, known) =
    let same = made-for h together allow known.1 in
    rw (same.0, same.1) at (so-far-by h.together h.allow h.plain h.events lines text known.0)
