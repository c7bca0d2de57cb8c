-- What a judge of lines has taken that keeps the items which it takes.
use Rattle.std.specs.Prelude.{◌≡◌, ◌<◌, ◌∷◌, [], ℕ, true, List, Option, Some, None, is_some, map, reverse, ⊤}
use Rattle.tl_command.specs.declared.search.Aim.{Aim}
use Rattle.tl_report.specs.code.LineJudging.{Answers, IsInTable, Ways}
use Rattle.tl_report.specs.code.Taking.{Takings}
use Rattle.tl_report.specs.declared.kept.Kept.{Kept}
use Rattle.tl_report.specs.declared.kept.KeptLineJudge.{KeptLineJudge}
use Rattle.tl_report.specs.declared.line_judge.Judged.{Judged}
use Rattle.tl_report.specs.statement.Form.{Form}

-- no item of these, the newest first, was at fault after those before it
unfoldable pub AreGood : {X : Type 0} → Form X → List X → Type 0
AreGood form [] = ⊤
AreGood form (x ∷ t) = form.is_good t x × AreGood form t

-- these are the items, the newest first, and the terms by which they are judged
pub record IsKeptFor {J L I T X : Type 0} (takings : Takings J L I T X) (kept : Kept L I) (terms : T) (t : List X)
    : Type 0 where
  pub terms_are : takings.terms_of kept.together kept.links ≡ terms
  pub taken_are : map takings.shown kept.taken.items ≡ reverse t
  pub good : AreGood (takings.form terms) t

-- the same if items are kept
abbrev pub IsKept : {J L I T X : Type 0} → Takings J L I T X → Option (Kept L I) → T → List X → Type 0
IsKept takings None terms t = ⊤
IsKept takings (Some kept) terms t = IsKeptFor takings kept terms t

-- under these terms the judge of lines has taken these items
abbrev pub KnowsKept : {J L I T X : Type 0} → Takings J L I T X → KeptLineJudge J L I → T → List X → Type 0
KnowsKept takings judge terms t = takings.takes judge.judge terms t × IsKept takings judge.kept terms t

-- it takes items of this form, and knows them after a line at fault if it keeps them
abbrev pub kept_ways : {J L I T X : Type 0} → Takings J L I T X → Ways (KeptLineJudge J L I) T X
kept_ways takings = record {
  form = takings.form;
  knows = KnowsKept takings;
  goes_on = λ judge. is_some judge.kept;
}

-- ---- calls

-- no item is kept, and items will be if lines are looked for after the first at fault
abbrev pub StartsKept : {L I : Type 0} → Aim → L → Option (Kept L I) → Type 0
StartsKept aim links None = aim.behind ≡ 0
StartsKept aim links (Some kept) =
    (kept.together ≡ aim.together) × (kept.links ≡ links) × (kept.taken.items ≡ [])

-- the judge of items has taken none on these links, and so has the judge of lines
abbrev pub BeginsKept : {J L I T X : Type 0} → Takings J L I T X → Aim → J → L → KeptLineJudge J L I → Type 0
BeginsKept takings aim judge links new =
    (takings.takes judge (takings.terms_of aim.together links) []
    → KnowsKept takings new (takings.terms_of aim.together links) [])
    × (0 < aim.behind → is_some new.kept ≡ true)

-- the judge has taken the items that were kept
abbrev pub JudgesAgain : {J L I T X : Type 0} → Takings J L I T X → Kept L I → J → Type 0
JudgesAgain {J} {L} {I} {T} {X} takings kept judge =
    (terms : T) (t : List X) → IsKeptFor takings kept terms t → takings.takes judge terms t

-- the judge of items is as before, and this item is kept with those before it
pub record Keeps {J L I T X : Type 0} (takings : Takings J L I T X) (old new : KeptLineJudge J L I) (item : I)
    : Type 0 where
  pub judge_is : new.judge ≡ old.judge
  pub goes_on : is_some new.kept ≡ is_some old.kept
  pub kept : (terms : T) (t : List X) → (takings.form terms).is_good t (takings.shown item)
      → IsKept takings old.kept terms t → IsKept takings new.kept terms (takings.shown item ∷ t)

-- the same items are kept, and the judge of items has taken them and nothing else
pub record Restores {J L I T X : Type 0} (takings : Takings J L I T X) (old new : KeptLineJudge J L I) : Type 0 where
  pub kept_is : new.kept ≡ old.kept
  pub known : is_some old.kept ≡ true → (terms : T) (t : List X) → IsKept takings old.kept terms t
      → takings.takes new.judge terms t

-- what the judge answers to a line of this item
pub record TakesLine {J L I T X : Type 0} (takings : Takings J L I T X) (old new : KeptLineJudge J L I) (item : I)
    (answer : Judged) : Type 0 where
  pub answers : (line : List ℕ) → ((terms : T) → (takings.form terms).spells line (takings.shown item))
      → (terms : T) (t : List X) → KnowsKept takings old terms t
      → Answers (kept_ways takings) old new terms t line answer
  pub within : IsInTable answer
  pub goes_on : is_some new.kept ≡ is_some old.kept
