-- Lists that have each block once.
use Rattle.std.proofs.Common.{◌≡◌, ◌<◌, ℕ, Bool, true, false, ◌^◌, ◌==◌, List, [], ◌∷◌, ◌++◌, length}
use Rattle.std.proofs.Common.{refl, sym, ◌∙◌, arith, inl, inr}
use Rattle.std.specs.Prelude.{filter, if◌then◌else◌, is_some, not, Option, Some, None}
use Rattle.std.proofs.lemmas.Bool.{cases_Bool, eq-eqb, ne_eqb}
use Rattle.tl_cover.proofs.Lists.{found-with, found-without}
use Rattle.tl_cover.specs.code.Past.{AreApart, found}
use Rattle.tl_cover.specs.declared.asked.Asked.{Asked}
use Rattle.tl_cover.specs.declared.scene.ProbeAt.{ProbeAt}
use Rattle.tl_monitor.proofs.Counts.{sum-changed, sum-none}
use Rattle.tl_monitor.specs.statement.Count.{count_below, one_if}

-- there are as many as there are blocks
pub length_apart : (all : List Asked) → AreApart all → length all ≡ count_below (2 ^ 26) (λ k. is_some (found k all))
length_apart [] apart = sym (sum-none (2 ^ 26) (λ k. 0) (λ i lt. refl))
length_apart (a ∷ all) (lt, none, rest) =
    let changed = sum-changed (2 ^ 26) a.block (λ k. one_if (is_some (found k all)))
    (λ k. one_if (is_some (found k (a ∷ all)))) lt (λ i other. rw (ne_eqb a.block i (λ e. other (sym e))) refl) in
    let was : one_if (is_some (found a.block all)) ≡ 0 = rw none refl in
    let now : one_if (is_some (found a.block (a ∷ all))) ≡ 1 = rw (eq-eqb a.block a.block refl) refl in
    let before = length_apart all rest in
    omega (arith, changed, was, now, before)

-- one is taken away
pub apart_without : (b : ℕ) (all : List Asked) → AreApart all → AreApart (filter (λ a. not (a.block == b)) all)
apart_without b [] apart = apart
apart_without b (a ∷ all) (lt, none, rest) = one_more (apart_without b all rest)
  where
    never : (here : Bool) (o : Option ProbeAt) → o ≡ None → (if here then None else o) ≡ None
    never true o e = refl
    never false o e = e

    one_more : AreApart (filter (λ x. not (x.block == b)) all) → AreApart (filter (λ x. not (x.block == b)) (a ∷ all))
    one_more before = elim (cases_Bool (a.block == b)) [
      | inl gone ↦ rw gone before
      | inr stays ↦ rw stays
          (lt, found-without a.block b all ∙ never (b == a.block) (found a.block all) none, before)
    ]

-- one is added
pub apart_with : (a : Asked) (kept : List Asked) → a.block < 2 ^ 26 → found a.block kept ≡ None → AreApart kept
    → AreApart (kept ++ a ∷ [])
apart_with a [] small none apart = (small, refl, apart)
apart_with a (c ∷ kept) small none (lt, alone, rest) = elim (cases_Bool (c.block == a.block)) [
  | inl here ↦ absurd (there (rw here at none))
  | inr other ↦
      let left : found a.block kept ≡ None = rw other at none in
      (lt, still other left, apart_with a kept small left rest)
]
  where
    there : Some c.probe ≡ None → ⊥
    there e = absurd cc

    missing : found a.block kept ≡ None → (j : ℕ) → found j kept ≡ (if a.block == j then None else found j kept)
    missing left j = elim (cases_Bool (a.block == j)) [
      | inl here ↦ rw here (gone j here)
      | inr other ↦ rw other refl
    ]
      where
        gone : (j : ℕ) → (a.block == j) ≡ true → found j kept ≡ None
        gone j here = let same : a.block ≡ j = grind arith in rw same at left

    still : (c.block == a.block) ≡ false → found a.block kept ≡ None → found c.block (kept ++ a ∷ []) ≡ None
    still other left =
        let no : (a.block == c.block) ≡ false = grind arith in
        found-with c.block a kept kept (kept ++ a ∷ []) (missing left) refl ∙ rw (no, alone) refl
