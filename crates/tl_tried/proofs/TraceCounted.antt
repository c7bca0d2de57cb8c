-- What a handler of traces of any version says, and the situations that it has.
use Rattle.std.proofs.Common.{◌≡◌, ◌∙◌, ◌+◌, ◌-◌, ℕ, false, List, [], ◌∷◌, ◌++◌, length, ap, sym, subst, arith, append_assoc}
use Rattle.std.proofs.Common.{inr, refl}
use Rattle.std.specs.Prelude.{IfOk, Option, Some, None, Result, Ok, Err}
use Rattle.std.specs.declared.alloc.Global.{Global}
use Rattle.tl_beat.specs.declared.fault.LineFault.TheVariants.{F1}
use Rattle.tl_lines.proofs.Judged.{said_at_end}
use Rattle.tl_lines.specs.code.Judging.{Ends, EndsHere, Finishes, Judges, Stops}
use Rattle.tl_lines.specs.statement.Lines.{IsOpen}
use Rattle.tl_lines.specs.code.Watching.{end_by}
use Rattle.tl_lines.specs.statement.JudgedSo.{said_by}
use Rattle.tl_lines.specs.declared.fault.Fault.{Fault}
use Rattle.tl_lines.specs.declared.fault.Fault.TheVariants.{Line}
use Rattle.tl_lines.specs.declared.status.Status.{Status}
use Rattle.tl_lines.specs.declared.status.Status.TheVariants.{Clean, Broken}
use Rattle.tl_lines.specs.statement.Fault.{fault_text}
use Rattle.tl_lines.specs.statement.JudgedLinks.{JudgedLinks}
use Rattle.tl_params.specs.declared.liberties.Liberties.{Liberties}
use Rattle.tl_tried.proofs.Covered.{covered_here}
use Rattle.tl_tried.proofs.WideCounted.{all-counted, line-counted, open-counted}
use Rattle.tl_tried.specs.code.Following.{EndsLines, KnowsFollowing, KnowsLines}
use Rattle.tl_tried.specs.code.WideFollowing.{BeginsHere, BeginsWide, EndsTrace, KnowsBy, KnowsCover, KnowsWideFollowing, TakesLine}
use Rattle.tl_tried.specs.code.WideFollowing.{found_of_either, found_of_trace, judge_in, waiting_by, waiting_in, wide_found_by}
use Rattle.tl_tried.specs.declared.cover_lines.CoverLines.{CoverLines}
use Rattle.tl_tried.specs.declared.cover_lines.Following.{Following}
use Rattle.tl_tried.specs.declared.cover_lines.Following.TheVariants as narrow
use Rattle.tl_tried.specs.declared.cover_trace.CoverTrace.{CoverTrace}
use Rattle.tl_tried.specs.declared.cover_trace.WideFollowing.{WideFollowing}
use Rattle.tl_tried.specs.declared.cover_trace.WideFollowing.TheVariants.{Four, Eight, Sixteen, ThirtyTwo, SixtyFour}
use Rattle.tl_tried.specs.statement.Covered.{AreCovered, Found}
use Rattle.tl_tried.specs.statement.WideCovered.{TraceCovered}
use Rattle.tl_wide_lines.proofs.TraceJudged.{links-end, links-judged, links-open, none-first}
use Rattle.tl_wide_lines.proofs.WideHeaders.{open_wide}
use Rattle.tl_wide_lines.specs.code.WideWatching.{KnowsWideLinks, NoneWide}
use Rattle.tl_wide_lines.specs.declared.lines.WideLinks.{WideLinks}
use Rattle.tl_wide_lines.specs.declared.lines.WideLinks.TheVariants as links
use Rattle.tl_wide_lines.specs.statement.JudgedTrace.{JudgedTrace}

-- ---- wide beats, by width

-- the judge of a covering
abbrev links_of : WideFollowing → WideLinks
links_of (Four c) = links.Four (judge_in c)
links_of (Eight c) = links.Eight (judge_in c)
links_of (Sixteen c) = links.Sixteen (judge_in c)
links_of (ThirtyTwo c) = links.ThirtyTwo (judge_in c)
links_of (SixtyFour c) = links.SixtyFour (judge_in c)

module _ (allow : Liberties) (lines : List (List ℕ)) (text : List ℕ) where
  -- what a handler says of the next line, where it knows wide beats
  abbrev WideSays : WideFollowing → List ℕ → Option Fault → Type 0
  WideSays new line None = KnowsWideFollowing allow new (lines ++ line ∷ []) text
  WideSays new line (Some fault) = ((more : List (List ℕ))
      → JudgedTrace false allow (lines ++ line ∷ more) (text ++ fault_text (length lines + 1) fault) Broken)
      × ((more : List (List ℕ)) → TraceCovered allow (lines ++ line ∷ more) (wide_found_by new))

  wide-says : (line : List ℕ) (old new : WideFollowing) (answer : Option Fault) → TakesLine old new line answer
      → KnowsWideFollowing allow old lines text → WideSays new line answer
  wide-says line (Four old) (Four new) None takes k = line-counted allow old lines text k new line None takes
  wide-says line (Four old) (Four new) (Some x) takes k = line-counted allow old lines text k new line (Some x) takes
  wide-says line (Eight old) (Eight new) None takes k = line-counted allow old lines text k new line None takes
  wide-says line (Eight old) (Eight new) (Some x) takes k = line-counted allow old lines text k new line (Some x) takes
  wide-says line (Sixteen old) (Sixteen new) None takes k = line-counted allow old lines text k new line None takes
  wide-says line (Sixteen old) (Sixteen new) (Some x) takes k =
      line-counted allow old lines text k new line (Some x) takes
  wide-says line (ThirtyTwo old) (ThirtyTwo new) None takes k = line-counted allow old lines text k new line None takes
  wide-says line (ThirtyTwo old) (ThirtyTwo new) (Some x) takes k =
      line-counted allow old lines text k new line (Some x) takes
  wide-says line (SixtyFour old) (SixtyFour new) None takes k = line-counted allow old lines text k new line None takes
  wide-says line (SixtyFour old) (SixtyFour new) (Some x) takes k =
      line-counted allow old lines text k new line (Some x) takes
  wide-says line old new answer takes k = absurd takes

  wide-knows : (f : WideFollowing) → KnowsWideFollowing allow f lines text
      → KnowsWideLinks false allow (links_of f) lines text
  wide-knows (Four c) k = k.judged
  wide-knows (Eight c) k = k.judged
  wide-knows (Sixteen c) k = k.judged
  wide-knows (ThirtyTwo c) k = k.judged
  wide-knows (SixtyFour c) k = k.judged

  wide-counted : (f : WideFollowing) → KnowsWideFollowing allow f lines text
      → TraceCovered allow lines (wide_found_by f)
  wide-counted (Four c) k = all-counted allow c lines text k
  wide-counted (Eight c) k = all-counted allow c lines text k
  wide-counted (Sixteen c) k = all-counted allow c lines text k
  wide-counted (ThirtyTwo c) k = all-counted allow c lines text k
  wide-counted (SixtyFour c) k = all-counted allow c lines text k

  wide-counted-open : (line : List ℕ) → IsOpen line → (f : WideFollowing) → KnowsWideFollowing allow f lines text
      → (more : List (List ℕ)) → TraceCovered allow (lines ++ line ∷ more) (wide_found_by f)
  wide-counted-open line is (Four c) k = open-counted allow c lines text k line is
  wide-counted-open line is (Eight c) k = open-counted allow c lines text k line is
  wide-counted-open line is (Sixteen c) k = open-counted allow c lines text k line is
  wide-counted-open line is (ThirtyTwo c) k = open-counted allow c lines text k line is
  wide-counted-open line is (SixtyFour c) k = open-counted allow c lines text k line is

-- ---- other beats

-- the situations of lines of which the first is no header of wide beats
links-covered : (allow : Liberties) (lines : List (List ℕ)) (found : Found) → NoneWide allow lines
    → AreCovered allow lines found → TraceCovered allow lines found
links-covered allow [] found none covers = covers
links-covered allow (line ∷ lines) found none covers = inr (none, covers)

-- no line has been read until the header is
pub none-read : (h : CoverLines) → ((alloc : Global) → h.following ≡ narrow.Waiting alloc → ⊥) → (text : List ℕ)
    → KnowsLines h [] text → ⊥
none-read h read text known = go h.following read known
  where
    go : (f : Following) → ((alloc : Global) → f ≡ narrow.Waiting alloc → ⊥) → KnowsFollowing h.allow f [] text → ⊥
    go (narrow.Waiting alloc) read k = read alloc refl
    go (narrow.Four c) read k = absurd (omega (arith, k.counted))
    go (narrow.Eight c) read k = absurd (omega (arith, k.counted))
    go (narrow.Sixteen c) read k = absurd (omega (arith, k.counted))

-- ---- the handler

pub begins-here : {E : Type 0} (h : CoverTrace) (alloc : Global) (line : List ℕ) (r : Result (Option WideFollowing) E)
    → h.narrow.following ≡ narrow.Waiting alloc → IfOk r (BeginsWide h.narrow.allow line) → IfOk r (BeginsHere h line)
begins-here h alloc line (Err e) is begins = tt
begins-here h alloc line (Ok None) is none = λ text known. none
begins-here h alloc line (Ok (Some f)) is known = (alloc, is, known)

-- a text behind what was written already
said-so : (allow : Liberties) (lines : List (List ℕ)) (before was text : List ℕ) (status : Status)
    → JudgedTrace false allow lines ((before ++ was) ++ text) status
    → JudgedTrace false allow lines (before ++ (was ++ text)) status
said-so allow lines before was text status =
    subst (λ (x : List ℕ). JudgedTrace false allow lines x status) (append_assoc before was text)

module _ (old new : CoverTrace) (line : List ℕ) where
  -- what is said behind what was written already
  abbrev JudgesSo : List ℕ → List ℕ → Option Fault → Type 0
  JudgesSo = Judges KnowsCover (JudgedTrace false old.narrow.allow) old new line

  -- what is had at a fault
  abbrev EndsSo : {E : Type 0} → Result (Option Fault) E → Type 0
  EndsSo r = (fault : Fault) → r ≡ Ok (Some fault) → Ends KnowsCover EndsTrace old new line

  module _ (f g : WideFollowing) (is : old.wide ≡ Some f) (also : new.wide ≡ Some g) (kept : new.narrow ≡ old.narrow)
    where
      -- a line of wide beats
      pub wide-judged : {E : Type 0} (was : List ℕ) (r : Result (Option Fault) E) → IfOk r (TakesLine f g line)
          → IfOk r (JudgesSo was was)
      wide-judged was (Err e) takes = tt
      wide-judged was (Ok None) takes = λ lines before known.
          let k : KnowsBy old.narrow (Some f) lines (before ++ was) = rw is at known in
          rw (also, kept) (wide-says old.narrow.allow lines (before ++ was) line f g None takes k)
      wide-judged was (Ok (Some fault)) takes = λ lines before known more.
          let k : KnowsBy old.narrow (Some f) lines (before ++ was) = rw is at known in
          said-so old.narrow.allow (lines ++ line ∷ more) before was (fault_text (length lines + 1) fault) Broken
          ((wide-says old.narrow.allow lines (before ++ was) line f g (Some fault) takes k).0 more)

      pub wide-ended : {E : Type 0} (r : Result (Option Fault) E) → IfOk r (TakesLine f g line) → EndsSo r
      wide-ended (Err e) takes fault same = absurd cc
      wide-ended (Ok None) takes fault same = absurd cc
      wide-ended (Ok (Some other)) takes fault same = λ lines text known more.
          let k : KnowsBy old.narrow (Some f) lines text = rw is at known in
          rw (also, kept) ((wide-says old.narrow.allow lines text line f g (Some other) takes k).1 more)

  -- the header of wide beats
  pub wide-begun : (was : List ℕ) (f : WideFollowing) → old.wide ≡ None → new.wide ≡ Some f → new.narrow ≡ old.narrow
      → BeginsHere old line (Some f) → JudgesSo was was None
  wide-begun was f is also kept (alloc, waits, begun) = λ lines before known.
      let k : KnowsBy old.narrow None lines (before ++ was) = rw is at known in
      let none : KnowsFollowing old.narrow.allow (narrow.Waiting alloc) lines (before ++ was) = rw waits at k.0 in
      rw (also, kept, none.0, none.1) begun

  module _ (is : old.wide ≡ None) (also : new.wide ≡ None) (none : BeginsHere old line None) where
    none-among : (lines : List (List ℕ)) (text : List ℕ) → KnowsBy old.narrow None lines text
        → (more : List (List ℕ)) → NoneWide old.narrow.allow (lines ++ line ∷ more)
    none-among lines text k more =
        none-first old.narrow.allow lines line more k.1 (λ empty. none text (rw empty at k.0))

    -- another line
    pub other-judged : {E : Type 0} (was now : List ℕ) (r : Result (Option Fault) E)
        → IfOk r (Judges KnowsLines (JudgedLinks false old.narrow.allow) old.narrow new.narrow line was now)
        → IfOk r (λ _. new.narrow.allow ≡ old.narrow.allow) → IfOk r (JudgesSo was now)
    other-judged was now (Err e) judged same = tt
    other-judged was now (Ok None) judged same = λ lines before known.
        let k : KnowsBy old.narrow None lines (before ++ was) = rw is at known in
        rw also (
          judged lines before k.0,
          subst (λ (l : Liberties). NoneWide l (lines ++ line ∷ [])) (sym same)
              (none-among lines (before ++ was) k []),
        )
    other-judged was now (Ok (Some fault)) judged same = λ lines before known more.
        let k : KnowsBy old.narrow None lines (before ++ was) = rw is at known in
        links-judged false old.narrow.allow (lines ++ line ∷ more) _ Broken (none-among lines (before ++ was) k more)
        (judged lines before k.0 more)

    pub other-ended : {E : Type 0} (r : Result (Option Fault) E)
        → ((fault : Fault) → r ≡ Ok (Some fault) → Ends KnowsLines EndsLines old.narrow new.narrow line)
        → IfOk r (λ _. new.narrow.allow ≡ old.narrow.allow) → EndsSo r
    other-ended (Err e) ends same fault found = absurd cc
    other-ended (Ok answer) ends same fault found = λ lines text known more.
        let k : KnowsBy old.narrow None lines text = rw is at known in
        rw also (links-covered new.narrow.allow (lines ++ line ∷ more) _
        (subst (λ (l : Liberties). NoneWide l (lines ++ line ∷ more)) (sym same) (none-among lines text k more))
        (ends fault found lines text k.0 more))

-- a line that has no LF, or is too long
module _ (h : CoverTrace) (line : List ℕ) (is_open : IsOpen line) where
  pub wide-open : (said : List ℕ) (f : WideFollowing) → h.wide ≡ Some f
      → Stops KnowsCover (JudgedTrace false h.narrow.allow) h line said said (Line F1)
  wide-open said f is = λ lines before known more.
      let k : KnowsBy h.narrow (Some f) lines (before ++ said) = rw is at known in
      said-so h.narrow.allow (lines ++ line ∷ more) before said (fault_text (length lines + 1) (Line F1)) Broken
      (links-open false h.narrow.allow lines (before ++ said) line (links_of f) is_open
      (wide-knows h.narrow.allow lines (before ++ said) f k) more)

  pub wide-open-ended : (f : WideFollowing) → h.wide ≡ Some f → Ends KnowsCover EndsTrace h h line
  wide-open-ended f is = λ lines text known more.
      let k : KnowsBy h.narrow (Some f) lines text = rw is at known in
      rw is (wide-counted-open h.narrow.allow lines text line is_open f k more)

  none-open : (lines : List (List ℕ)) → NoneWide h.narrow.allow lines → (more : List (List ℕ))
      → NoneWide h.narrow.allow (lines ++ line ∷ more)
  none-open lines none more =
      none-first h.narrow.allow lines line more none (λ empty. open_wide h.narrow.allow line is_open)

  pub other-open : (said : List ℕ) (fault : Fault) → h.wide ≡ None
      → Stops KnowsLines (JudgedLinks false h.narrow.allow) h.narrow line said said fault
      → Stops KnowsCover (JudgedTrace false h.narrow.allow) h line said said fault
  other-open said fault is stops = λ lines before known more.
      let k : KnowsBy h.narrow None lines (before ++ said) = rw is at known in
      links-judged false h.narrow.allow (lines ++ line ∷ more) _ Broken (none-open lines k.1 more)
      (stops lines before k.0 more)

  pub other-open-ended : h.wide ≡ None → Ends KnowsLines EndsLines h.narrow h.narrow line
      → Ends KnowsCover EndsTrace h h line
  other-open-ended is ends = λ lines text known more.
      let k : KnowsBy h.narrow None lines text = rw is at known in
      rw is (links-covered h.narrow.allow (lines ++ line ∷ more) _ (none-open lines k.1 more) (ends lines text k.0 more))

-- the end of the input
module _ (h : CoverTrace) where
  pub wide-end : (count : ℕ) (was now : List ℕ) (f : WideFollowing) → h.wide ≡ Some f
      → now ≡ was ++ end_by false (count - 1)
      → Finishes KnowsCover (JudgedTrace false h.narrow.allow) h count was now None
  wide-end count was now f is says = λ lines before known counted.
      let k : KnowsBy h.narrow (Some f) lines (before ++ was) = rw is at known in
      let number : count - 1 ≡ length lines - 1 = omega (arith, counted) in
      let text : was ++ said_by false (length lines - 1) ≡ now =
      ap (λ (x : List ℕ). was ++ x) (ap (said_by false) (sym number) ∙ sym (said_at_end false (count - 1)))
      ∙ sym says in
      subst (λ (x : List ℕ). JudgedTrace false h.narrow.allow lines (before ++ x) Clean) text
      (said-so h.narrow.allow lines before was (said_by false (length lines - 1)) Clean
      (links-end false h.narrow.allow lines (before ++ was) (links_of f)
      (wide-knows h.narrow.allow lines (before ++ was) f k)))

  pub other-end : {E : Type 0} (count : ℕ) (was now : List ℕ) (r : Result (Option Fault) E) → h.wide ≡ None
      → IfOk r (Finishes KnowsLines (JudgedLinks false h.narrow.allow) h.narrow count was now)
      → IfOk r (Finishes KnowsCover (JudgedTrace false h.narrow.allow) h count was now)
  other-end count was now (Err e) is ends = tt
  other-end count was now (Ok None) is ends = λ lines before known counted.
      let k : KnowsBy h.narrow None lines (before ++ was) = rw is at known in
      links-judged false h.narrow.allow lines (before ++ now) Clean k.1 (ends lines before k.0 counted)
  other-end count was now (Ok (Some fault)) is ends = λ lines before known counted.
      let k : KnowsBy h.narrow None lines (before ++ was) = rw is at known in
      links-judged false h.narrow.allow lines _ Broken k.1 (ends lines before k.0 counted)

  pub other-end-ended : h.wide ≡ None → EndsHere KnowsLines EndsLines h.narrow → EndsHere KnowsCover EndsTrace h
  other-end-ended is ends = λ lines text known.
      let k : KnowsBy h.narrow None lines text = rw is at known in
      rw is (links-covered h.narrow.allow lines _ k.1 (ends lines text k.0))

counted-by : (h : CoverLines) (wide : Option WideFollowing) (lines : List (List ℕ)) (text : List ℕ)
    → KnowsBy h wide lines text → TraceCovered h.allow lines (found_of_either h wide)
counted-by h None lines text k = links-covered h.allow lines _ k.1 (covered_here h lines text k.0)
counted-by h (Some f) lines text k = wide-counted h.allow lines text f k

-- what a handler has of lines without a fault are their situations
pub counted-so-far : (h : CoverTrace) (lines : List (List ℕ)) (text : List ℕ) → KnowsCover h lines text
    → TraceCovered h.narrow.allow lines (found_of_trace h)
counted-so-far h lines text k = counted-by h.narrow h.wide lines text k

-- no line has been read, if a handler waits for the first
pub waits-first : (h : CoverTrace) (alloc : Global) → Some alloc ≡ waiting_in h → (lines : List (List ℕ))
    (text : List ℕ) → KnowsCover h lines text → (lines ≡ []) × (text ≡ [])
waits-first h alloc waits lines text known = go h.wide h.narrow.following waits known
  where
    go : (wide : Option WideFollowing) (f : Following) → Some alloc ≡ waiting_by wide f
        → KnowsBy (record { allow = h.narrow.allow; following = f }) wide lines text → (lines ≡ []) × (text ≡ [])
    go None (narrow.Waiting a) is k = k.0
    go None (narrow.Four c) is k = absurd cc
    go None (narrow.Eight c) is k = absurd cc
    go None (narrow.Sixteen c) is k = absurd cc
    go (Some f) (narrow.Waiting a) is k = absurd cc
    go (Some f) (narrow.Four c) is k = absurd cc
    go (Some f) (narrow.Eight c) is k = absurd cc
    go (Some f) (narrow.Sixteen c) is k = absurd cc

-- a line has been read, if it doesn't
pub waits-not : (h : CoverTrace) → None ≡ waiting_in h → (text : List ℕ) → KnowsCover h [] text → ⊥
waits-not h reads text known = go h.wide h.narrow.following reads known
  where
    wide-read : (f : WideFollowing) → KnowsWideFollowing h.narrow.allow f [] text → ⊥
    wide-read (Four c) k = let no = k.judged.are_lines in cc
    wide-read (Eight c) k = let no = k.judged.are_lines in cc
    wide-read (Sixteen c) k = let no = k.judged.are_lines in cc
    wide-read (ThirtyTwo c) k = let no = k.judged.are_lines in cc
    wide-read (SixtyFour c) k = let no = k.judged.are_lines in cc

    go : (wide : Option WideFollowing) (f : Following) → None ≡ waiting_by wide f
        → KnowsBy (record { allow = h.narrow.allow; following = f }) wide [] text → ⊥
    go None (narrow.Waiting a) is k = cc
    go None (narrow.Four c) is k = absurd (omega (arith, k.0.counted))
    go None (narrow.Eight c) is k = absurd (omega (arith, k.0.counted))
    go None (narrow.Sixteen c) is k = absurd (omega (arith, k.0.counted))
    go (Some f) following is k = wide-read f k
