-- What a handler of traces says whose header may be of any version.
use Rattle.std.proofs.Common.{◌≡◌, ◌∙◌, ◌+◌, ◌-◌, ℕ, Bool, true, List, [], ◌∷◌, ◌++◌}
use Rattle.std.proofs.Common.{length, refl, ap, sym, subst, arith, append_assoc}
use Rattle.std.proofs.Common.{inl, inr}
use Rattle.std.specs.Prelude.{IfOk, Option, Some, None, Result, Ok, Err}
use Rattle.std.specs.declared.alloc.Global.{Global}
use Rattle.tl_beat.specs.declared.fault.LineFault.TheVariants.{F1}
use Rattle.tl_lines.proofs.Judged.{said_at_end}
use Rattle.tl_lines.proofs.JudgedLines.{links_so_far, links_total}
use Rattle.tl_lines.specs.code.GivenUp.{IsKnown}
use Rattle.tl_lines.specs.code.Judging.{Finishes, IsTotal, Judges, KnowsFor, Stops}
use Rattle.tl_lines.specs.statement.Lines.{IsOpen}
use Rattle.tl_lines.specs.code.LinkWatching.{KnowsJudge, KnowsLines, judged_for}
use Rattle.tl_lines.specs.code.Watching.{end_by}
use Rattle.tl_lines.specs.statement.JudgedSo.{said_by}
use Rattle.tl_lines.specs.declared.fault.Fault.{Fault}
use Rattle.tl_lines.specs.declared.fault.Fault.TheVariants.{Line}
use Rattle.tl_lines.specs.declared.link_lines.LinkJudge.{LinkJudge}
use Rattle.tl_lines.specs.declared.link_lines.LinkJudge.TheVariants as judge
use Rattle.tl_lines.specs.declared.link_lines.LinkLines.{LinkLines}
use Rattle.tl_lines.specs.declared.status.Status.{Status}
use Rattle.tl_lines.specs.declared.status.Status.TheVariants.{Clean, Broken}
use Rattle.tl_lines.specs.statement.Fault.{fault_text}
use Rattle.tl_lines.specs.statement.JudgedLinks.{JudgedLinks, LinksSoFar}
use Rattle.tl_params.specs.declared.liberties.Liberties.{Liberties}
use Rattle.tl_wide.specs.declared.width.WideWidth.{WideWidth}
use Rattle.tl_wide.specs.declared.width.WideWidth.TheVariants as width
use Rattle.tl_wide.specs.statement.Width.{IsWideWidth, wide_bytes_of}
use Rattle.tl_wide_lines.proofs.JudgedLines.{line-says, line-stops, lines-end, lines-more, open-fault, wide-total}
use Rattle.tl_wide_lines.proofs.WideHeaders.{WideOrNone, open_wide, wide_or_none}
use Rattle.tl_wide_lines.specs.code.WideWatching.{BeginsHere, BeginsWide, JudgesLine, KnowsBy, KnowsTraceLines}
use Rattle.tl_wide_lines.specs.code.WideWatching.{KnowsWideLinks, NoneWide, is_waiting, trace_judged_for, waits}
use Rattle.tl_wide_lines.specs.code.WideWatching.{waits_by}
use Rattle.tl_wide_lines.specs.declared.lines.TraceLines.{TraceLines}
use Rattle.tl_wide_lines.specs.declared.lines.WideLinks.{WideLinks}
use Rattle.tl_wide_lines.specs.declared.lines.WideLinks.TheVariants.{Four, Eight, Sixteen, ThirtyTwo, SixtyFour}
use Rattle.tl_wide_lines.specs.statement.JudgedTrace.{JudgedTrace, TraceSoFar}

-- ---- wide beats, by width

-- what a handler says of the next line, where it knows wide beats
abbrev WideSays : Bool → Liberties → WideLinks → List (List ℕ) → List ℕ → List ℕ → Option Fault → Type 0
WideSays together allow new lines text line None = KnowsWideLinks together allow new (lines ++ line ∷ []) text
WideSays together allow new lines text line (Some found) = (more : List (List ℕ))
    → JudgedTrace together allow (lines ++ line ∷ more) (text ++ fault_text (length lines + 1) found) Broken

module _ (together : Bool) (allow : Liberties) (lines : List (List ℕ)) (text : List ℕ) where
  links-say : (line : List ℕ) (old new : WideLinks) (answer : Option Fault) → JudgesLine old new line answer
      → KnowsWideLinks together allow old lines text → WideSays together allow new lines text line answer
  links-say line (Four old) (Four new) None judged k = line-says together allow old lines text k new line None judged
  links-say line (Four old) (Four new) (Some x) judged k =
      line-says together allow old lines text k new line (Some x) judged
  links-say line (Eight old) (Eight new) None judged k = line-says together allow old lines text k new line None judged
  links-say line (Eight old) (Eight new) (Some x) judged k =
      line-says together allow old lines text k new line (Some x) judged
  links-say line (Sixteen old) (Sixteen new) None judged k =
      line-says together allow old lines text k new line None judged
  links-say line (Sixteen old) (Sixteen new) (Some x) judged k =
      line-says together allow old lines text k new line (Some x) judged
  links-say line (ThirtyTwo old) (ThirtyTwo new) None judged k =
      line-says together allow old lines text k new line None judged
  links-say line (ThirtyTwo old) (ThirtyTwo new) (Some x) judged k =
      line-says together allow old lines text k new line (Some x) judged
  links-say line (SixtyFour old) (SixtyFour new) None judged k =
      line-says together allow old lines text k new line None judged
  links-say line (SixtyFour old) (SixtyFour new) (Some x) judged k =
      line-says together allow old lines text k new line (Some x) judged
  links-say line old new answer judged k = absurd judged

  pub links-open : (line : List ℕ) (links : WideLinks) → IsOpen line → KnowsWideLinks together allow links lines text
      → WideSays together allow links lines text line (Some (Line F1))
  links-open line (Four judge) is k = line-stops together allow judge lines text k line F1 (open-fault 4 line is)
  links-open line (Eight judge) is k = line-stops together allow judge lines text k line F1 (open-fault 8 line is)
  links-open line (Sixteen judge) is k = line-stops together allow judge lines text k line F1 (open-fault 16 line is)
  links-open line (ThirtyTwo judge) is k = line-stops together allow judge lines text k line F1 (open-fault 32 line is)
  links-open line (SixtyFour judge) is k = line-stops together allow judge lines text k line F1 (open-fault 64 line is)

  pub links-end : (links : WideLinks) → KnowsWideLinks together allow links lines text
      → JudgedTrace together allow lines (text ++ said_by together (length lines - 1)) Clean
  links-end (Four judge) k = lines-end together allow judge lines text k
  links-end (Eight judge) k = lines-end together allow judge lines text k
  links-end (Sixteen judge) k = lines-end together allow judge lines text k
  links-end (ThirtyTwo judge) k = lines-end together allow judge lines text k
  links-end (SixtyFour judge) k = lines-end together allow judge lines text k

  links-more : (links : WideLinks) → KnowsWideLinks together allow links lines text → (more : List (List ℕ))
      → (rest : List ℕ) × (status : Status) × JudgedTrace together allow (lines ++ more) (text ++ rest) status
  links-more (Four judge) k = lines-more together allow judge lines text k (inl refl)
  links-more (Eight judge) k = lines-more together allow judge lines text k (inr (inl refl))
  links-more (Sixteen judge) k = lines-more together allow judge lines text k (inr (inr (inl refl)))
  links-more (ThirtyTwo judge) k = lines-more together allow judge lines text k (inr (inr (inr (inl refl))))
  links-more (SixtyFour judge) k = lines-more together allow judge lines text k (inr (inr (inr (inr refl))))

pub wide-width : (wide : WideWidth) → IsWideWidth (wide_bytes_of wide)
wide-width width.Four = inl refl
wide-width width.Eight = inr (inl refl)
wide-width width.Sixteen = inr (inr (inl refl))
wide-width width.ThirtyTwo = inr (inr (inr (inl refl)))
wide-width width.SixtyFour = inr (inr (inr (inr refl)))

-- ---- other beats

-- what is said of lines of which the first is no header of wide beats
pub links-judged : (together : Bool) (allow : Liberties) (lines : List (List ℕ)) (text : List ℕ) (status : Status)
    → NoneWide allow lines → JudgedLinks together allow lines text status
    → JudgedTrace together allow lines text status
links-judged together allow [] text status none judged = judged
links-judged together allow (line ∷ lines) text status none judged = inr (none, judged)

pub none-first : (allow : Liberties) (lines : List (List ℕ)) (line : List ℕ) (more : List (List ℕ))
    → NoneWide allow lines → (lines ≡ [] → NoneWide allow (line ∷ [])) → NoneWide allow (lines ++ line ∷ more)
none-first allow [] line more none first = first refl
none-first allow (l ∷ lines) line more none first = none

-- nothing has been said before the first line
none-said : (narrow : LinkLines) (text : List ℕ) → KnowsLines narrow [] text → text ≡ []
none-said narrow text known = go narrow.judge known
  where
    go : (j : LinkJudge) → KnowsJudge narrow.together narrow.allow j [] text → text ≡ []
    go (judge.Waiting alloc) k = k.1
    go (judge.Four m) k = absurd (omega (arith, k.counted))
    go (judge.Eight m) k = absurd (omega (arith, k.counted))
    go (judge.Sixteen m) k = absurd (omega (arith, k.counted))

-- no line has been read until the header is
pub none-read : (narrow : LinkLines) → ((alloc : Global) → narrow.judge ≡ judge.Waiting alloc → ⊥) → (text : List ℕ)
    → KnowsLines narrow [] text → ⊥
none-read narrow read text known = go narrow.judge refl known
  where
    go : (j : LinkJudge) → narrow.judge ≡ j → KnowsJudge narrow.together narrow.allow j [] text → ⊥
    go (judge.Waiting alloc) is k = read alloc is
    go (judge.Four m) is k = absurd (omega (arith, k.counted))
    go (judge.Eight m) is k = absurd (omega (arith, k.counted))
    go (judge.Sixteen m) is k = absurd (omega (arith, k.counted))

-- nothing has been read, and nothing said, where a handler waits for the header
pub waits-none : (h : TraceLines) (lines : List (List ℕ)) (text : List ℕ) → KnowsTraceLines h lines text
    → waits h ≡ true → (lines ≡ []) × (text ≡ [])
waits-none h lines text known waiting = by h.wide known waiting
  where
    at : (j : LinkJudge) → KnowsJudge h.narrow.together h.narrow.allow j lines text → is_waiting j ≡ true
        → (lines ≡ []) × (text ≡ [])
    at (judge.Waiting alloc) k is = k
    at (judge.Four m) k is = absurd cc
    at (judge.Eight m) k is = absurd cc
    at (judge.Sixteen m) k is = absurd cc

    by : (wide : Option WideLinks) → KnowsBy h.narrow wide lines text → waits_by h.narrow wide ≡ true
        → (lines ≡ []) × (text ≡ [])
    by None k is = at h.narrow.judge k.0 is
    by (Some links) k is = absurd cc

-- it waits until it has read a line
pub none-waits : (h : TraceLines) (text : List ℕ) → KnowsTraceLines h [] text → waits h ≡ true
none-waits h text known = by h.wide known
  where
    no-lines : (header : List ℕ) (spelled : List (List ℕ)) → [] ≡ header ∷ spelled → ⊥
    no-lines header spelled is = absurd cc

    at : (j : LinkJudge) → KnowsJudge h.narrow.together h.narrow.allow j [] text → is_waiting j ≡ true
    at (judge.Waiting alloc) k = refl
    at (judge.Four m) k = absurd (omega (arith, k.counted))
    at (judge.Eight m) k = absurd (omega (arith, k.counted))
    at (judge.Sixteen m) k = absurd (omega (arith, k.counted))

    wide-at : (links : WideLinks) → KnowsWideLinks h.narrow.together h.narrow.allow links [] text → ⊥
    wide-at (Four m) k = no-lines k.header k.spelled k.are_lines
    wide-at (Eight m) k = no-lines k.header k.spelled k.are_lines
    wide-at (Sixteen m) k = no-lines k.header k.spelled k.are_lines
    wide-at (ThirtyTwo m) k = no-lines k.header k.spelled k.are_lines
    wide-at (SixtyFour m) k = no-lines k.header k.spelled k.are_lines

    by : (wide : Option WideLinks) → KnowsBy h.narrow wide [] text → waits_by h.narrow wide ≡ true
    by None k = at h.narrow.judge k.0
    by (Some links) k = absurd (wide-at links k)

-- ---- the handler

pub begins-here : {E : Type 0} (h : TraceLines) (alloc : Global) (line : List ℕ) (r : Result (Option WideLinks) E)
    → h.narrow.judge ≡ judge.Waiting alloc → IfOk r (BeginsWide h.narrow.together h.narrow.allow line)
    → IfOk r (BeginsHere h line)
begins-here h alloc line (Err e) is begins = tt
begins-here h alloc line (Ok None) is none = λ text known. none
begins-here h alloc line (Ok (Some links)) is known = (alloc, is, known)

module _ (old new : TraceLines) (line was : List ℕ) where
  -- what is said behind what was written already
  abbrev JudgesSo : Option Fault → Type 0
  JudgesSo = Judges KnowsTraceLines (JudgedTrace old.narrow.together old.narrow.allow) old new line was was

  said-so : (lines : List (List ℕ)) (before text : List ℕ) (status : Status)
      → JudgedTrace old.narrow.together old.narrow.allow lines ((before ++ was) ++ text) status
      → JudgedTrace old.narrow.together old.narrow.allow lines (before ++ (was ++ text)) status
  said-so lines before text status =
      subst (λ (x : List ℕ). JudgedTrace old.narrow.together old.narrow.allow lines x status)
      (append_assoc before was text)

  -- a line of wide beats
  pub wide-judged : {E : Type 0} (links more : WideLinks) (r : Result (Option Fault) E) → old.wide ≡ Some links
      → new.wide ≡ Some more → new.narrow ≡ old.narrow → IfOk r (JudgesLine links more line) → IfOk r JudgesSo
  wide-judged links after (Err e) is also kept judged = tt
  wide-judged links after (Ok None) is also kept judged = λ lines before known.
      let k : KnowsBy old.narrow (Some links) lines (before ++ was) = rw is at known in
      rw (also, kept) (links-say old.narrow.together old.narrow.allow lines (before ++ was) line links after None judged
      k)
  wide-judged links after (Ok (Some found)) is also kept judged = λ lines before known more.
      let k : KnowsBy old.narrow (Some links) lines (before ++ was) = rw is at known in
      said-so (lines ++ line ∷ more) before (fault_text (length lines + 1) found) Broken
      (links-say old.narrow.together old.narrow.allow lines (before ++ was) line links after (Some found) judged k more)

  -- the header of wide beats
  pub wide-begun : (links : WideLinks) → old.wide ≡ None → new.wide ≡ Some links → new.narrow ≡ old.narrow
      → BeginsHere old line (Some links) → JudgesSo None
  wide-begun links is also kept (alloc, waits, begun) = λ lines before known.
      let k : KnowsBy old.narrow None lines (before ++ was) = rw is at known in
      let none : KnowsJudge old.narrow.together old.narrow.allow (judge.Waiting alloc) lines (before ++ was) =
      rw waits at k.0 in
      rw (also, kept, none.0, none.1) begun

  -- another line
  pub other-judged : {E : Type 0} (r : Result (Option Fault) E) → old.wide ≡ None → new.wide ≡ None
      → BeginsHere old line None
      → IfOk r (Judges KnowsLines (JudgedLinks old.narrow.together old.narrow.allow) old.narrow new.narrow line was was)
      → IfOk r (λ _. judged_for new.narrow ≡ judged_for old.narrow) → IfOk r JudgesSo
  other-judged (Err e) is also none judged same = tt
  other-judged (Ok None) is also none judged same = λ lines before known.
      let k : KnowsBy old.narrow None lines (before ++ was) = rw is at known in
      let first = none-first old.narrow.allow lines line [] k.1
      (λ empty. none (before ++ was) (rw empty at k.0)) in
      rw also (
        judged lines before k.0,
        subst (λ (p : Bool × Liberties). NoneWide p.1 (lines ++ line ∷ [])) (sym same) first,
      )
  other-judged (Ok (Some found)) is also none judged same = λ lines before known more.
      let k : KnowsBy old.narrow None lines (before ++ was) = rw is at known in
      links-judged old.narrow.together old.narrow.allow (lines ++ line ∷ more) _ Broken
      (none-first old.narrow.allow lines line more k.1
      (λ empty. none (before ++ was) (rw empty at k.0)))
      (judged lines before k.0 more)

-- a line that has no LF, or is too long
module _ (h : TraceLines) (line said : List ℕ) (open_line : IsOpen line) where
  pub wide-open : (links : WideLinks) → h.wide ≡ Some links
      → Stops KnowsTraceLines (JudgedTrace h.narrow.together h.narrow.allow) h line said said (Line F1)
  wide-open links is = λ lines before known more.
      let k : KnowsBy h.narrow (Some links) lines (before ++ said) = rw is at known in
      said-so h h line said (lines ++ line ∷ more) before (fault_text (length lines + 1) (Line F1)) Broken
      (links-open h.narrow.together h.narrow.allow lines (before ++ said) line links open_line k more)

  pub other-open : (found : Fault) → h.wide ≡ None
      → Stops KnowsLines (JudgedLinks h.narrow.together h.narrow.allow) h.narrow line said said found
      → Stops KnowsTraceLines (JudgedTrace h.narrow.together h.narrow.allow) h line said said found
  other-open found is stops = λ lines before known more.
      let k : KnowsBy h.narrow None lines (before ++ said) = rw is at known in
      links-judged h.narrow.together h.narrow.allow (lines ++ line ∷ more) _ Broken
      (none-first h.narrow.allow lines line more k.1
      (λ empty. open_wide h.narrow.allow line open_line))
      (stops lines before k.0 more)

-- the end of the input
module _ (h : TraceLines) (count : ℕ) (was is : List ℕ) where
  pub wide-end : (links : WideLinks) → h.wide ≡ Some links → is ≡ was ++ end_by h.narrow.together (count - 1)
      → Finishes KnowsTraceLines (JudgedTrace h.narrow.together h.narrow.allow) h count was is None
  wide-end links some says = λ lines before known counted.
      let k : KnowsBy h.narrow (Some links) lines (before ++ was) = rw some at known in
      let number : count - 1 ≡ length lines - 1 = omega (arith, counted) in
      let text : (before ++ was) ++ said_by h.narrow.together (length lines - 1) ≡ before ++ is =
      append_assoc before was (said_by h.narrow.together (length lines - 1))
      ∙ ap (λ (x : List ℕ). before ++ (was ++ x)) (ap (said_by h.narrow.together) (sym number)
      ∙ sym (said_at_end h.narrow.together (count - 1)))
      ∙ ap (λ (x : List ℕ). before ++ x) (sym says) in
      subst (λ (x : List ℕ). JudgedTrace h.narrow.together h.narrow.allow lines x Clean) text
      (links-end h.narrow.together h.narrow.allow lines (before ++ was) links k)

  pub other-end : {E : Type 0} (r : Result (Option Fault) E) → h.wide ≡ None
      → IfOk r (Finishes KnowsLines (JudgedLinks h.narrow.together h.narrow.allow) h.narrow count was is)
      → IfOk r (Finishes KnowsTraceLines (JudgedTrace h.narrow.together h.narrow.allow) h count was is)
  other-end (Err e) none ends = tt
  other-end (Ok None) none ends = λ lines before known counted.
      let k : KnowsBy h.narrow None lines (before ++ was) = rw none at known in
      links-judged h.narrow.together h.narrow.allow lines (before ++ is) Clean k.1 (ends lines before k.0 counted)
  other-end (Ok (Some found)) none ends = λ lines before known counted.
      let k : KnowsBy h.narrow None lines (before ++ was) = rw none at known in
      links-judged h.narrow.together h.narrow.allow lines _ Broken k.1 (ends lines before k.0 counted)

-- ---- each trace has a text

-- whose first line has still to come
first-more : (narrow : LinkLines) (text : List ℕ) → KnowsLines narrow [] text → (more : List (List ℕ))
    → (rest : List ℕ) × (status : Status) × JudgedTrace narrow.together narrow.allow more (text ++ rest) status
first-more narrow text known [] = links_total narrow [] text known []
first-more narrow text known (line ∷ more) = go (wide_or_none narrow.allow line)
  where
    go : WideOrNone narrow.allow line → (rest : List ℕ) × (status : Status)
        × JudgedTrace narrow.together narrow.allow (line ∷ more) (text ++ rest) status
    go (inl (wide, may, levels, named)) =
        let (rest, status, judged) =
        wide-total (wide_bytes_of wide) (wide-width wide) narrow.together may levels more in
        (rest, status, rw (none-said narrow text known) (inl (wide, may, levels, named, judged)))
    go (inr none) =
        let (rest, status, judged) = links_total narrow [] text known (line ∷ more) in
        (rest, status, inr (none, judged))

more-by : (narrow : LinkLines) (wide : Option WideLinks) (lines : List (List ℕ)) (text : List ℕ)
    → KnowsBy narrow wide lines text → (more : List (List ℕ)) → (rest : List ℕ) × (status : Status)
    × JudgedTrace narrow.together narrow.allow (lines ++ more) (text ++ rest) status
more-by narrow (Some links) lines text k more = links-more narrow.together narrow.allow lines text links k more
more-by narrow None [] text k more = first-more narrow text k.0 more
more-by narrow None (line ∷ lines) text k more =
    let (rest, status, judged) = links_total narrow (line ∷ lines) text k.0 more in
    (rest, status, inr (k.1, judged))

pub trace-total : IsTotal trace_judged_for KnowsTraceLines (λ p. JudgedTrace p.0 p.1)
trace-total h lines text known more = more-by h.narrow h.wide lines text known more

-- ---- before the end of the input

so-far-by : (narrow : LinkLines) (wide : Option WideLinks) (lines : List (List ℕ)) (text : List ℕ)
    → KnowsBy narrow wide lines text → TraceSoFar narrow.together narrow.allow lines text
so-far-by narrow (Some links) lines text k = inr (links-end narrow.together narrow.allow lines text links k)
so-far-by narrow None lines text k = go (links_so_far narrow.together narrow.allow lines text (narrow, (k.0, refl)))
  where
    go : LinksSoFar narrow.together narrow.allow lines text → TraceSoFar narrow.together narrow.allow lines text
    go (inl none) = inl none
    go (inr judged) = inr (links-judged narrow.together narrow.allow lines _ Clean k.1 judged)

-- a handler that is made for this judges so
pub made-for : (h : TraceLines) (together : Bool) (allow : Liberties) → trace_judged_for h ≡ (together, allow)
    → (h.narrow.together ≡ together) × (h.narrow.allow ≡ allow)
made-for h together allow is = (ap (λ (p : Bool × Liberties). p.0) is, ap (λ (p : Bool × Liberties). p.1) is)

pub trace-so-far : (together : Bool) (allow : Liberties) (lines : List (List ℕ)) (text : List ℕ)
    → IsKnown (KnowsFor trace_judged_for (together, allow) KnowsTraceLines) lines text
    → TraceSoFar together allow lines text
trace-so-far together allow lines text (h, known) =
    let same = made-for h together allow known.1 in
    rw (same.0, same.1) at (so-far-by h.narrow h.wide lines text known.0)
