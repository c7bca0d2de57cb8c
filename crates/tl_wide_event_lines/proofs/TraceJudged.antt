-- What a handler of traces of any version, with and without commits, says.
use Rattle.std.proofs.Common.{◌≡◌, ◌∙◌, ◌+◌, ◌-◌, ℕ, Bool, true, false, List, [], ◌∷◌, ◌++◌}
use Rattle.std.proofs.Common.{length, refl, ap, sym, subst, arith, append_assoc, inl, inr}
use Rattle.std.specs.Prelude.{IfOk, Option, Some, None, Result, Ok, Err, is_some}
use Rattle.tl_beat.specs.declared.fault.LineFault.TheVariants.{F1}
use Rattle.tl_commit_lines.proofs.EventsJudged.{commits-so-far, events-have-text}
use Rattle.tl_commit_lines.specs.code.EventWatching.{KnowsEventBy, KnowsEventLines, KnowsEventLinks, events_judged_for}
use Rattle.tl_commit_lines.specs.declared.lines.EventLines.{EventLines}
use Rattle.tl_commit_lines.specs.declared.lines.EventLinks.{EventLinks}
use Rattle.tl_commit_lines.specs.declared.lines.EventLinks.TheVariants as narrow_links
use Rattle.tl_commit_lines.specs.statement.JudgedEvents.{CommitsSoFar, JudgedCommits}
use Rattle.tl_lines.proofs.Judged.{said_at_end}
use Rattle.tl_lines.specs.code.GivenUp.{IsKnown}
use Rattle.tl_lines.specs.code.Judging.{Finishes, IsTotal, Judges, KnowsFor, Stops}
use Rattle.tl_lines.specs.code.Watching.{end_by}
use Rattle.tl_lines.specs.declared.fault.Fault.{Fault}
use Rattle.tl_lines.specs.declared.fault.Fault.TheVariants.{Line}
use Rattle.tl_lines.specs.declared.status.Status.{Status}
use Rattle.tl_lines.specs.declared.status.Status.TheVariants.{Clean, Broken}
use Rattle.tl_lines.specs.statement.Fault.{fault_text}
use Rattle.tl_lines.specs.statement.JudgedSo.{said_by}
use Rattle.tl_lines.specs.statement.Lines.{IsOpen}
use Rattle.tl_params.specs.declared.liberties.Liberties.{Liberties}
use Rattle.tl_wide.specs.declared.width.WideWidth.TheVariants as width
use Rattle.tl_wide.specs.statement.Width.{wide_bytes_of}
use Rattle.tl_wide_lines.proofs.TraceJudged.{none-waits, waits-none, wide-width}
use Rattle.tl_wide_lines.specs.code.WideWatching.{waits}
use Rattle.tl_wide_event_lines.proofs.JudgedLines.{events-total, line-says, line-stops, lines-end, lines-more, open-event}
use Rattle.tl_wide_event_lines.proofs.WideMarkedHeaders.{NamedOrNone, named_or_none, open_wide}
use Rattle.tl_wide_event_lines.specs.code.EventWatching.{BeginsWideMarked, JudgesLine, KnowsAnyBy, KnowsAnyLines}
use Rattle.tl_wide_event_lines.specs.code.EventWatching.{KnowsWideLinks, NoneWideMarked, any_judged_for}
use Rattle.tl_wide_event_lines.specs.declared.lines.WideEventLines.{WideEventLines}
use Rattle.tl_wide_event_lines.specs.declared.lines.WideEventLinks.{WideEventLinks}
use Rattle.tl_wide_event_lines.specs.declared.lines.WideEventLinks.TheVariants.{Four, Eight, Sixteen, ThirtyTwo}
use Rattle.tl_wide_event_lines.specs.declared.lines.WideEventLinks.TheVariants.{SixtyFour}
use Rattle.tl_wide_event_lines.specs.statement.JudgedWideEvents.{AnySoFar, JudgedAny}

-- ---- wide events, by width

-- what a handler says of the next line, where it knows wide events
abbrev WideSays : Bool → Liberties → WideEventLinks → List (List ℕ) → List ℕ → List ℕ → Option Fault → Type 0
WideSays together allow new lines text line None = KnowsWideLinks together allow new (lines ++ line ∷ []) text
WideSays together allow new lines text line (Some found) = (more : List (List ℕ))
    → JudgedAny together allow (lines ++ line ∷ more) (text ++ fault_text (length lines + 1) found) Broken

module _ (together : Bool) (allow : Liberties) (lines : List (List ℕ)) (text : List ℕ) where
  links-say : (line : List ℕ) (old new : WideEventLinks) (answer : Option Fault) → JudgesLine old new line answer
      → KnowsWideLinks together allow old lines text → WideSays together allow new lines text line answer
  links-say line (Four old) (Four new) None judges k =
      line-says together allow old lines text k new line None judges
  links-say line (Four old) (Four new) (Some found) judges k =
      line-says together allow old lines text k new line (Some found) judges
  links-say line (Eight old) (Eight new) None judges k =
      line-says together allow old lines text k new line None judges
  links-say line (Eight old) (Eight new) (Some found) judges k =
      line-says together allow old lines text k new line (Some found) judges
  links-say line (Sixteen old) (Sixteen new) None judges k =
      line-says together allow old lines text k new line None judges
  links-say line (Sixteen old) (Sixteen new) (Some found) judges k =
      line-says together allow old lines text k new line (Some found) judges
  links-say line (ThirtyTwo old) (ThirtyTwo new) None judges k =
      line-says together allow old lines text k new line None judges
  links-say line (ThirtyTwo old) (ThirtyTwo new) (Some found) judges k =
      line-says together allow old lines text k new line (Some found) judges
  links-say line (SixtyFour old) (SixtyFour new) None judges k =
      line-says together allow old lines text k new line None judges
  links-say line (SixtyFour old) (SixtyFour new) (Some found) judges k =
      line-says together allow old lines text k new line (Some found) judges
  links-say line old new answer judges k = absurd judges

  links-open : (line : List ℕ) (links : WideEventLinks) → IsOpen line → KnowsWideLinks together allow links lines text
      → WideSays together allow links lines text line (Some (Line F1))
  links-open line (Four judge) is k =
      line-stops together allow judge lines text k line (Line F1) (inl (F1, open-event 4 line is, refl))
  links-open line (Eight judge) is k =
      line-stops together allow judge lines text k line (Line F1) (inl (F1, open-event 8 line is, refl))
  links-open line (Sixteen judge) is k =
      line-stops together allow judge lines text k line (Line F1) (inl (F1, open-event 16 line is, refl))
  links-open line (ThirtyTwo judge) is k =
      line-stops together allow judge lines text k line (Line F1) (inl (F1, open-event 32 line is, refl))
  links-open line (SixtyFour judge) is k =
      line-stops together allow judge lines text k line (Line F1) (inl (F1, open-event 64 line is, refl))

  links-end : (links : WideEventLinks) → KnowsWideLinks together allow links lines text
      → JudgedAny together allow lines (text ++ said_by together (length lines - 1)) Clean
  links-end (Four judge) k = lines-end together allow judge lines text k
  links-end (Eight judge) k = lines-end together allow judge lines text k
  links-end (Sixteen judge) k = lines-end together allow judge lines text k
  links-end (ThirtyTwo judge) k = lines-end together allow judge lines text k
  links-end (SixtyFour judge) k = lines-end together allow judge lines text k

  links-more : (links : WideEventLinks) → KnowsWideLinks together allow links lines text → (more : List (List ℕ))
      → (rest : List ℕ) × (status : Status) × JudgedAny together allow (lines ++ more) (text ++ rest) status
  links-more (Four judge) k = lines-more together allow judge lines text k (wide-width width.Four)
  links-more (Eight judge) k = lines-more together allow judge lines text k (wide-width width.Eight)
  links-more (Sixteen judge) k = lines-more together allow judge lines text k (wide-width width.Sixteen)
  links-more (ThirtyTwo judge) k = lines-more together allow judge lines text k (wide-width width.ThirtyTwo)
  links-more (SixtyFour judge) k = lines-more together allow judge lines text k (wide-width width.SixtyFour)

-- ---- a trace with another header

-- what is said of lines of which the first is no header of a wide trace with commits
pub narrow-judged : (together : Bool) (allow : Liberties) (lines : List (List ℕ)) (text : List ℕ) (status : Status)
    → NoneWideMarked allow lines → JudgedCommits together allow lines text status
    → JudgedAny together allow lines text status
narrow-judged together allow [] text status none judged = judged
narrow-judged together allow (line ∷ lines) text status none judged = inr (none, judged)

none-first : (allow : Liberties) (lines : List (List ℕ)) (line : List ℕ) (more : List (List ℕ))
    → NoneWideMarked allow lines → (lines ≡ [] → NoneWideMarked allow (line ∷ []))
    → NoneWideMarked allow (lines ++ line ∷ more)
none-first allow [] line more none first = first refl
none-first allow (l ∷ lines) line more none first = none

abbrev judged_by : Bool × Liberties → List (List ℕ) → List ℕ → Status → Type 0
judged_by p = JudgedCommits p.0 p.1

-- ---- the handler

-- a trace with another header is judged, and `line` begins no wide trace with commits
abbrev pub IsNarrow : WideEventLines → List ℕ → Type 0
IsNarrow h line = (lines : List (List ℕ)) (text : List ℕ) → KnowsAnyLines h lines text
    → (h.wide ≡ None) × (lines ≡ [] → NoneWideMarked h.allow (line ∷ []))

-- where no line has been read, the judge of other traces waits for its header
new-waits : (narrow : EventLines) (text : List ℕ) → KnowsEventLines narrow [] text → waits narrow.plain ≡ true
new-waits narrow text known = go narrow.events known
  where
    go : (events : Option EventLinks) → KnowsEventBy narrow.together narrow.allow narrow.plain events [] text
        → waits narrow.plain ≡ true
    go None k = none-waits narrow.plain text k.0
    go (Some links) k = k.1

-- one without commits, whose header has been read
pub plain-read : (h : WideEventLines) (line : List ℕ) → waits h.narrow.plain ≡ false → IsNarrow h line
plain-read h line read = λ lines text known. go h.wide refl lines text known
  where
    go : (wide : Option WideEventLinks) → h.wide ≡ wide → (lines : List (List ℕ)) (text : List ℕ)
        → KnowsAnyBy h.together h.allow h.narrow wide lines text
        → (h.wide ≡ None) × (lines ≡ [] → NoneWideMarked h.allow (line ∷ []))
    go (Some links) is lines text k = let both : true ≡ false = sym k.1 ∙ read in absurd cc
    go None is lines text k = (is, λ empty. absurd (unread (new-waits h.narrow text (rw empty at k.0))))
      where
        unread : waits h.narrow.plain ≡ true → ⊥
        unread waiting = let both : true ≡ false = sym waiting ∙ read in absurd cc

-- a trace with commits has a header
has-lines : (together : Bool) (allow : Liberties) (events : EventLinks) (lines : List (List ℕ)) (text : List ℕ)
    → KnowsEventLinks together allow events lines text → lines ≡ [] → ⊥
has-lines together allow (narrow_links.Four judge) lines text k empty = let no : [] ≡ k.header ∷ k.spelled = sym empty ∙ k.are_lines in absurd cc
has-lines together allow (narrow_links.Eight judge) lines text k empty = let no : [] ≡ k.header ∷ k.spelled = sym empty ∙ k.are_lines in absurd cc
has-lines together allow (narrow_links.Sixteen judge) lines text k empty = let no : [] ≡ k.header ∷ k.spelled = sym empty ∙ k.are_lines in absurd cc

-- one with commits, whose header has been read
pub commits-read : (h : WideEventLines) (line : List ℕ) → h.wide ≡ None → is_some h.narrow.events ≡ true → IsNarrow h line
commits-read h line none some = λ lines text known.
    let k : KnowsAnyBy h.together h.allow h.narrow None lines text = rw none at known in
    (none, λ empty. absurd (go h.narrow.events some lines text k.0 empty))
  where
    go : (events : Option EventLinks) → is_some events ≡ true → (lines : List (List ℕ)) (text : List ℕ)
        → KnowsEventBy h.narrow.together h.narrow.allow h.narrow.plain events lines text → lines ≡ [] → ⊥
    go None some lines text k empty = absurd cc
    go (Some links) some lines text k empty = has-lines h.narrow.together h.narrow.allow links lines text k.0 empty

pub no-commits : (events : Option EventLinks) → is_some events ≡ false → events ≡ None
no-commits None none = refl
no-commits (Some links) none = absurd cc

-- one whose first line this is
pub narrow-first : (h : WideEventLines) (line : List ℕ) → h.wide ≡ None → NoneWideMarked h.allow (line ∷ [])
    → IsNarrow h line
narrow-first h line none first = λ lines text known. (none, λ empty. first)

module _ (old new : WideEventLines) (line was is : List ℕ) where
  -- what is said after what was written already
  abbrev JudgesSo : Option Fault → Type 0
  JudgesSo = Judges KnowsAnyLines (JudgedAny old.together old.allow) old new line was is

  -- a line of a wide event
  pub wide-judged : {E : Type 0} (links more : WideEventLinks) (r : Result (Option Fault) E) → old.wide ≡ Some links
      → new ≡ record old { wide = Some more } → is ≡ was → IfOk r (JudgesLine links more line) → IfOk r JudgesSo
  wide-judged links after (Err e) at also same judges = tt
  wide-judged links after (Ok None) at also same judges = λ lines before known.
      let k : KnowsAnyBy old.together old.allow old.narrow (Some links) lines (before ++ was) = rw at at known in
      rw (also, same) (
        links-say old.together old.allow lines (before ++ was) line links after None judges k.0,
        k.1,
      )
  wide-judged links after (Ok (Some found)) at also same judges = λ lines before known more.
      let k : KnowsAnyBy old.together old.allow old.narrow (Some links) lines (before ++ was) = rw at at known in
      rw (same, ← append_assoc before was (fault_text (length lines + 1) found))
      (links-say old.together old.allow lines (before ++ was) line links after (Some found) judges k.0 more)

  -- the header of a wide trace with commits
  pub wide-begun : (links : WideEventLinks) → old.wide ≡ None → new ≡ record old { wide = Some links } → is ≡ was
      → old.narrow.events ≡ None → waits old.narrow.plain ≡ true
      → BeginsWideMarked old.together old.allow line (Some links) → JudgesSo None
  wide-begun links at also same none waiting begun = λ lines before known.
      let k : KnowsAnyBy old.together old.allow old.narrow None lines (before ++ was) = rw at at known in
      let plain : KnowsEventBy old.narrow.together old.narrow.allow old.narrow.plain None lines (before ++ was) =
      rw none at k.0 in
      let (empty, silent) = waits-none old.narrow.plain lines (before ++ was) plain.0 waiting in
      rw (also, same, empty, silent) (begun, waiting)

  -- another line
  pub narrow-says : {E : Type 0} (r : Result (Option Fault) E) → IsNarrow old line
      → new ≡ record old { narrow = new.narrow }
      → IfOk r (Judges KnowsEventLines (judged_by (events_judged_for old.narrow)) old.narrow new.narrow line was is)
      → IfOk r (λ _. events_judged_for new.narrow ≡ events_judged_for old.narrow) → IfOk r JudgesSo
  narrow-says (Err e) narrow also judged same = tt
  narrow-says (Ok None) narrow also judged same = λ lines before known.
      let (none, first) = narrow lines (before ++ was) known in
      let k : KnowsAnyBy old.together old.allow old.narrow None lines (before ++ was) = rw none at known in
      rw (also, none) (
        judged lines before k.0,
        same ∙ k.1,
        none-first old.allow lines line [] k.2 first,
      )
  narrow-says (Ok (Some found)) narrow also judged same = λ lines before known more.
      let (none, first) = narrow lines (before ++ was) known in
      let k : KnowsAnyBy old.together old.allow old.narrow None lines (before ++ was) = rw none at known in
      narrow-judged old.together old.allow (lines ++ line ∷ more) _ Broken
      (none-first old.allow lines line more k.2 first)
      (subst (λ (p : Bool × Liberties). judged_by p (lines ++ line ∷ more)
      (before ++ (is ++ fault_text (length lines + 1) found)) Broken) k.1 (judged lines before k.0 more))

-- a line that has no LF, or is too long
module _ (h : WideEventLines) (line said : List ℕ) (open_line : IsOpen line) where
  pub wide-open : (links : WideEventLinks) → h.wide ≡ Some links
      → Stops KnowsAnyLines (JudgedAny h.together h.allow) h line said said (Line F1)
  wide-open links at = λ lines before known more.
      let k : KnowsAnyBy h.together h.allow h.narrow (Some links) lines (before ++ said) = rw at at known in
      rw (← append_assoc before said (fault_text (length lines + 1) (Line F1)))
      (links-open h.together h.allow lines (before ++ said) line links open_line k.0 more)

  pub narrow-open : (found : Fault) → h.wide ≡ None
      → Stops KnowsEventLines (judged_by (events_judged_for h.narrow)) h.narrow line said said found
      → Stops KnowsAnyLines (JudgedAny h.together h.allow) h line said said found
  narrow-open found at stops = λ lines before known more.
      let k : KnowsAnyBy h.together h.allow h.narrow None lines (before ++ said) = rw at at known in
      narrow-judged h.together h.allow (lines ++ line ∷ more) _ Broken
      (none-first h.allow lines line more k.2 (λ empty. open_wide h.allow line open_line))
      (subst (λ (p : Bool × Liberties). judged_by p (lines ++ line ∷ more)
      (before ++ (said ++ fault_text (length lines + 1) found)) Broken) k.1 (stops lines before k.0 more))

-- the end of the input
module _ (h : WideEventLines) (count : ℕ) (was is : List ℕ) where
  pub wide-end : (links : WideEventLinks) → h.wide ≡ Some links → is ≡ was ++ end_by h.together (count - 1)
      → Finishes KnowsAnyLines (JudgedAny h.together h.allow) h count was is None
  wide-end links at says = λ lines before known counted.
      let k : KnowsAnyBy h.together h.allow h.narrow (Some links) lines (before ++ was) = rw at at known in
      let number : count - 1 ≡ length lines - 1 = omega (arith, counted) in
      let text : (before ++ was) ++ said_by h.together (length lines - 1) ≡ before ++ is =
      append_assoc before was (said_by h.together (length lines - 1))
      ∙ ap (λ (x : List ℕ). before ++ (was ++ x)) (ap (said_by h.together) (sym number)
      ∙ sym (said_at_end h.together (count - 1)))
      ∙ ap (λ (x : List ℕ). before ++ x) (sym says) in
      subst (λ (x : List ℕ). JudgedAny h.together h.allow lines x Clean) text
      (links-end h.together h.allow lines (before ++ was) links k.0)

  pub narrow-end : {E : Type 0} (r : Result (Option Fault) E) → h.wide ≡ None
      → IfOk r (Finishes KnowsEventLines (judged_by (events_judged_for h.narrow)) h.narrow count was is)
      → IfOk r (Finishes KnowsAnyLines (JudgedAny h.together h.allow) h count was is)
  narrow-end (Err e) at ends = tt
  narrow-end (Ok None) at ends = λ lines before known counted.
      let k : KnowsAnyBy h.together h.allow h.narrow None lines (before ++ was) = rw at at known in
      narrow-judged h.together h.allow lines (before ++ is) Clean k.2
      (subst (λ (p : Bool × Liberties). judged_by p lines (before ++ is) Clean) k.1 (ends lines before k.0 counted))
  narrow-end (Ok (Some found)) at ends = λ lines before known counted.
      let k : KnowsAnyBy h.together h.allow h.narrow None lines (before ++ was) = rw at at known in
      narrow-judged h.together h.allow lines _ Broken k.2
      (subst (λ (p : Bool × Liberties). judged_by p lines (before ++ (is ++ fault_text (length lines + 1) found)) Broken)
      k.1 (ends lines before k.0 counted))

-- ---- each trace has a text

abbrev HasText : Bool → Liberties → List (List ℕ) → List ℕ → Type 0
HasText together allow lines text =
    (rest : List ℕ) × (status : Status) × JudgedAny together allow lines (text ++ rest) status

narrow-text : (together : Bool) (allow : Liberties) (narrow : EventLines) (lines : List (List ℕ)) (text : List ℕ)
    → KnowsEventLines narrow lines text → events_judged_for narrow ≡ (together, allow) → (more : List (List ℕ))
    → (rest : List ℕ) × (status : Status) × JudgedCommits together allow (lines ++ more) (text ++ rest) status
narrow-text together allow narrow lines text known same more =
    let (rest, status, judged) = events-have-text narrow lines text known more in (
      rest,
      status,
      subst (λ (p : Bool × Liberties). judged_by p (lines ++ more) (text ++ rest) status) same judged,
    )

-- nothing is said before the first line
new-silent : (narrow : EventLines) (text : List ℕ) → KnowsEventLines narrow [] text → text ≡ []
new-silent narrow text known = go narrow.events known
  where
    go : (events : Option EventLinks) → KnowsEventBy narrow.together narrow.allow narrow.plain events [] text → text ≡ []
    go None k = (waits-none narrow.plain [] text k.0 (none-waits narrow.plain text k.0)).1
    go (Some links) k = absurd (has-lines narrow.together narrow.allow links [] text k.0 refl)

-- whose first line has still to come
first-more : (together : Bool) (allow : Liberties) (narrow : EventLines) (text : List ℕ)
    → KnowsEventLines narrow [] text → events_judged_for narrow ≡ (together, allow) → (more : List (List ℕ))
    → HasText together allow more text
first-more together allow narrow text known same [] = narrow-text together allow narrow [] text known same []
first-more together allow narrow text known same (line ∷ more) = go (named_or_none allow line)
  where
    go : NamedOrNone allow line → HasText together allow (line ∷ more) text
    go (inl (wide, may, links, named)) =
        let (rest, status, judged) = events-total (wide_bytes_of wide) (wide-width wide) together links may [] more in
        (rest, status, rw (new-silent narrow text known) (inl (wide, may, links, named, judged)))
    go (inr none) =
        let (rest, status, judged) = narrow-text together allow narrow [] text known same (line ∷ more) in
        (rest, status, inr (none, judged))

more-by : (together : Bool) (allow : Liberties) (narrow : EventLines) (wide : Option WideEventLinks)
    (lines : List (List ℕ)) (text : List ℕ) → KnowsAnyBy together allow narrow wide lines text
    → (more : List (List ℕ)) → HasText together allow (lines ++ more) text
more-by together allow narrow (Some links) lines text k more = links-more together allow lines text links k.0 more
more-by together allow narrow None [] text k more = first-more together allow narrow text k.0 k.1 more
more-by together allow narrow None (line ∷ lines) text k more =
    let (rest, status, judged) = narrow-text together allow narrow (line ∷ lines) text k.0 k.1 more in
    (rest, status, inr (k.2, judged))

pub any-have-text : IsTotal any_judged_for KnowsAnyLines (λ p. JudgedAny p.0 p.1)
any-have-text h lines text known more = more-by h.together h.allow h.narrow h.wide lines text known more

-- ---- before the end of the input

so-far-by : (together : Bool) (allow : Liberties) (narrow : EventLines) (wide : Option WideEventLinks)
    (lines : List (List ℕ)) (text : List ℕ) → KnowsAnyBy together allow narrow wide lines text
    → AnySoFar together allow lines text
so-far-by together allow narrow (Some links) lines text k = inr (links-end together allow lines text links k.0)
so-far-by together allow narrow None lines text k =
    go (commits-so-far together allow lines text (narrow, (k.0, k.1)))
  where
    go : CommitsSoFar together allow lines text → AnySoFar together allow lines text
    go (inl none) = inl none
    go (inr judged) = inr (narrow-judged together allow lines _ Clean k.2 judged)

-- a handler that is made for this judges so
pub made-for : (h : WideEventLines) (together : Bool) (allow : Liberties) → any_judged_for h ≡ (together, allow)
    → (h.together ≡ together) × (h.allow ≡ allow)
made-for h together allow is = (ap (λ (p : Bool × Liberties). p.0) is, ap (λ (p : Bool × Liberties). p.1) is)

pub any-so-far : (together : Bool) (allow : Liberties) (lines : List (List ℕ)) (text : List ℕ)
    → IsKnown (KnowsFor any_judged_for (together, allow) KnowsAnyLines) lines text
    → AnySoFar together allow lines text
any-so-far together allow lines text (h, known) =
    let same = made-for h together allow known.1 in
    rw (same.0, same.1) at (so-far-by h.together h.allow h.narrow h.wide lines text known.0)
