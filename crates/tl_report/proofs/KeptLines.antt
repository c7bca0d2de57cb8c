-- What a judge of lines that keeps its items answers and keeps.
use Rattle.std.proofs.Common.{◌≡◌, ◌≤◌, ◌<◌, ◌+◌, ◌∙◌, ◌++◌, ◌∷◌, ℕ, List, [], ap, arith, drop, inr, length, refl, slice_index_or, subst, sym, take, true, false}
use Rattle.std.proofs.lemmas.List.{map-append, reverse-append, reverse-reverse, take-append-drop, take_all, take_more}
use Rattle.std.specs.Prelude.{IfOk, Option, Some, None, Result, Ok, Err, map, reverse}
use Rattle.tl_command.specs.declared.search.Aim.{Aim}
use Rattle.tl_lines.specs.declared.fault.Fault.{Fault}
use Rattle.tl_report.proofs.WideTaken.{newest-last}
use Rattle.tl_report.specs.code.KeptJudging.{AreGood, BeginsKept, IsKeptFor, JudgesAgain, Keeps, Restores}
use Rattle.tl_report.specs.code.KeptJudging.{StartsKept, TakesLine, kept_ways}
use Rattle.tl_report.specs.code.LineJudging.{JudgesLine}
use Rattle.tl_report.specs.code.Taking.{AnswersItem, IsCellOf, StartsTaking, TakesItem, Takings}
use Rattle.tl_report.specs.declared.kept.Kept.{Kept}
use Rattle.tl_report.specs.declared.kept.KeptLineJudge.{KeptLineJudge}
use Rattle.tl_report.specs.declared.line_judge.Judged.{Judged}
use Rattle.tl_report.specs.declared.line_judge.Judged.TheVariants.{AtFault, Taken}
use Rattle.tl_report.specs.statement.Form.{Form}
use Rattle.tl_report.specs.statement.Taken.{most_cells}

-- the items behind these are without a fault too
good-behind : {X : Type 0} (form : Form X) (newer t : List X) → AreGood form (newer ++ t) → AreGood form t
unfolding AreGood
good-behind form [] t good = good
good-behind form (x ∷ newer) t good = good-behind form newer t good.1

module _ {J L I T X : Type 0} (takings : Takings J L I T X) where
  -- one more item is shown last
  shown-more : (items : List (I)) (x : I)
      → map takings.shown (items ++ x ∷ []) ≡ map takings.shown items ++ takings.shown x ∷ []
  shown-more items x = map-append takings.shown items (x ∷ [])

  -- one more item is kept
  kept_more : (old new : Kept L I) (x : I) → new.together ≡ old.together → new.links ≡ old.links
      → new.taken.items ≡ old.taken.items ++ x ∷ [] → (terms : T) (t : List X)
      → (takings.form terms).is_good t (takings.shown x) → IsKeptFor takings old terms t
      → IsKeptFor takings new terms (takings.shown x ∷ t)
  unfolding AreGood
  kept_more old new x together links taken terms t good k = record {
    terms_are = rw (together, links) k.terms_are;
    taken_are = ap (map takings.shown) taken ∙ shown-more old.taken.items x
        ∙ ap (λ l. l ++ takings.shown x ∷ []) k.taken_are ∙ sym (newest-last (takings.shown x) t);
    good = (good, k.good);
  }

  -- no item is kept at first
  pub begins : (aim : Aim) (judge : J) (links : L) (kept : Option (Kept L I)) → StartsKept aim links kept
      → BeginsKept takings aim judge links (record { judge = judge; kept = kept })
  unfolding AreGood
  begins aim judge links None starts = (λ none. (none, tt), λ some. absurd (omega (arith, some, starts)))
  begins aim judge links (Some kept) (together, same, empty) = (
    λ none. (none, record { terms_are = rw (together, same) refl; taken_are = rw empty refl; good = tt }),
    λ some. refl,
  )

  module _ (old : KeptLineJudge J L I) where
    pub keeps_more : (was now : Kept L I) (item : I) (new : KeptLineJudge J L I) → new.judge ≡ old.judge
        → new.kept ≡ Some now → old.kept ≡ Some was → now.together ≡ was.together → now.links ≡ was.links
        → now.taken.items ≡ was.taken.items ++ item ∷ [] → Keeps takings old new item
    keeps_more was now item new judge also is together links taken = record {
      judge_is = judge;
      goes_on = rw (is, also) refl;
      kept = λ terms t good had. rw also (kept_more was now item together links taken terms t good (rw is at had));
    }

    -- no item is kept
    pub keeps_none : (item : I) → old.kept ≡ None → Keeps takings old old item
    keeps_none item is = record { judge_is = refl; goes_on = refl; kept = λ terms t good had. rw is tt }

    -- the items that were kept are judged again
    pub restored : (kept : Kept L I) (new : KeptLineJudge J L I) → old.kept ≡ Some kept → new.kept ≡ old.kept
        → JudgesAgain takings kept new.judge → Restores takings old new
    restored kept new is same again = record {
      kept_is = same;
      known = λ some terms t had. again terms t (rw is at had);
    }

    -- none is kept
    pub unkept : old.kept ≡ None → Restores takings old old
    unkept is = record { kept_is = refl; known = λ some. absurd (never (rw is at some)) }
      where
        never : false ≡ true → ⊥
        never e = cc

  -- ---- the items that were kept

  -- A trace without a fault begins with a front and one more item. A judge that has taken the front takes the item.
  taken-again : (terms : T) (old new : J) (trace front more : List (I)) (x : I) (answer : Option Fault)
      → AreGood (takings.form terms) (reverse (map takings.shown trace)) → trace ≡ (front ++ x ∷ []) ++ more
      → takings.takes old terms (reverse (map takings.shown front)) → TakesItem takings old new x answer
      → takings.takes new terms (reverse (map takings.shown (front ++ x ∷ [])))
  unfolding AreGood
  taken-again terms old new trace front more x answer good is known judged =
      go answer (judged terms (reverse (map takings.shown front)) known)
    where
      order : reverse (map takings.shown (front ++ x ∷ [])) ≡ takings.shown x ∷ reverse (map takings.shown front)
      order = ap reverse (shown-more front x) ∙ reverse-append (map takings.shown front) (takings.shown x ∷ [])

      orders : reverse (map takings.shown trace)
          ≡ reverse (map takings.shown more) ++ takings.shown x ∷ reverse (map takings.shown front)
      orders = ap (λ l. reverse (map takings.shown l)) is
          ∙ ap reverse (map-append takings.shown (front ++ x ∷ []) more)
          ∙ reverse-append (map takings.shown (front ++ x ∷ [])) (map takings.shown more)
          ∙ ap (λ l. reverse (map takings.shown more) ++ l) order

      isnt : (takings.form terms).is_good (reverse (map takings.shown front)) (takings.shown x)
      isnt = (good-behind (takings.form terms) (reverse (map takings.shown more))
          (takings.shown x ∷ reverse (map takings.shown front)) (subst (AreGood (takings.form terms)) orders good)).0

      go : (answer : Option Fault)
          → AnswersItem takings new terms (reverse (map takings.shown front)) (takings.shown x) answer
          → takings.takes new terms (reverse (map takings.shown (front ++ x ∷ [])))
      go None (fine, takes) = subst (λ t. takings.takes new terms t) (sym order) takes
      go (Some fault) bad = absurd (takings.apart terms (reverse (map takings.shown front)) (takings.shown x) fault isnt bad)

  module _ (kept : Kept L I) where
    -- under each terms that they were taken under, a judge has taken these of them
    abbrev pub TakesAgain : J → List (I) → Type 0
    TakesAgain judge front =
        (terms : T) (t : List X) → IsKeptFor takings kept terms t
        → takings.takes judge terms (reverse (map takings.shown front))

    pub starts_again : (judge : J) → StartsTaking takings kept.together kept.links judge → TakesAgain judge []
    starts_again judge none = λ terms t k. subst (λ u. takings.takes judge u []) k.terms_are none

    -- in order, as they were taken
    shown-order : (terms : T) (t : List X) → IsKeptFor takings kept terms t
        → reverse (map takings.shown kept.taken.items) ≡ t
    shown-order terms t k = ap reverse k.taken_are ∙ reverse-reverse t

    pub goes_on_again : (old new : J) (i : ℕ) (x : I) (answer : Option Fault)
        → x ≡ slice_index_or kept.taken.items i x → i < length kept.taken.items → TakesAgain old (take i kept.taken.items)
        → TakesItem takings old new x answer → TakesAgain new (take (i + 1) kept.taken.items)
    goes_on_again old new i x answer is below so_far judged = λ terms t k.
        let more = take_more kept.taken.items i x below ∙ ap (λ y. take i kept.taken.items ++ y ∷ []) (sym is) in
        let good : AreGood (takings.form terms) (reverse (map takings.shown kept.taken.items)) =
        subst (AreGood (takings.form terms)) (sym (shown-order terms t k)) k.good in
        let all = sym (take-append-drop (i + 1) kept.taken.items) ∙ ap (λ l. l ++ drop (i + 1) kept.taken.items) more in
        subst (λ l. takings.takes new terms (reverse (map takings.shown l))) (sym more)
        (taken-again terms old new kept.taken.items (take i kept.taken.items) (drop (i + 1) kept.taken.items)
        x answer good all (so_far terms t k) judged)

    pub ends_again : (judge : J) (i : ℕ) → length kept.taken.items ≤ i → TakesAgain judge (take i kept.taken.items)
        → JudgesAgain takings kept judge
    ends_again judge i past so_far = λ terms t k.
        subst (λ u. takings.takes judge terms u)
        (ap (λ l. reverse (map takings.shown l)) (take_all i kept.taken.items past) ∙ shown-order terms t k)
        (so_far terms t k)

  -- ---- an item and its line

  module _ (old mid new : KeptLineJudge J L I) (item : I) (kept : mid.kept ≡ old.kept) where
    -- it isn't at fault
    pub takes_it : TakesItem takings old.judge mid.judge item None → Keeps takings mid new item → (cell : ℕ)
        → IsCellOf takings item cell → cell < most_cells → TakesLine takings old new item (Taken cell)
    takes_it judged keeps cell is below = record {
      answers = λ line spells terms t (known, had).
          let (good, next) = judged terms t known in
          let now : takings.takes new.judge terms (takings.shown item ∷ t) = rw keeps.judge_is next in
          (takings.shown item, spells terms, good, is terms, (now, keeps.kept terms t good (rw kept had)));
      within = below;
      goes_on = rw (keeps.goes_on, kept) refl;
    }

    -- it is at fault
    pub refuses_it : (fault : Fault) → TakesItem takings old.judge mid.judge item (Some fault)
        → Restores takings mid new → TakesLine takings old new item (AtFault fault)
    refuses_it fault judged restores = record {
      answers = λ line spells terms t (known, had). (
        inr (takings.shown item, spells terms, judged terms t known),
        λ goes_on. (restores.known (rw kept goes_on) terms t (rw kept had), rw (restores.kept_is, kept) had),
      );
      within = tt;
      goes_on = rw (restores.kept_is, kept) refl;
    }

  -- the line of an item is judged as the item
  pub at_line : {E : Type 0} (old new : KeptLineJudge J L I) (line : List ℕ) (item : I) (r : Result Judged E)
      → IfOk r (TakesLine takings old new item)
      → ((terms : T) → (takings.form terms).spells line (takings.shown item))
      → IfOk r (JudgesLine (kept_ways takings) old new line)
  at_line old new line item (Ok answer) takes spells = takes.answers line spells
  at_line old new line item (Err e) takes spells = tt
