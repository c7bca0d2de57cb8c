-- Lists of what is pending, where something is taken away or added.
use Rattle.std.proofs.Common.{◌≡◌, ℕ, Bool, true, false, ◌==◌, ◌&&◌, ◌||◌, List, [], ◌∷◌, ◌++◌, refl, ap, ◌∙◌, arith, inl, inr}
use Rattle.std.specs.Prelude.{if◌then◌else◌, not, filter, option_map, Option, Some, None}
use Rattle.std.proofs.lemmas.Bool.{cases_Bool}
use Rattle.std.proofs.lemmas.List.Folds.{list_any-append}
use Rattle.std.proofs.lemmas.Map.Views.{any-filter_same}
use Rattle.tl_cover.specs.code.Past.{awaits, found, has, turned}
use Rattle.tl_cover.specs.declared.acknowledged.Awaited.{Awaited}
use Rattle.tl_cover.specs.declared.asked.Asked.{Asked}
use Rattle.tl_cover.specs.declared.scene.ProbeAt.{ProbeAt}

-- what is kept of the numbers that are this one
kept_at : (x k b : ℕ) → (x == k) ≡ true → not (x == b) ≡ not (b == k)
kept_at x k b e = grind arith

-- the halves of a test
pub first_half : (p q : Bool) → (p && q) ≡ true → p ≡ true
first_half true q e = refl
first_half false q e = absurd cc

pub second_half : (p q : Bool) → (p && q) ≡ true → q ≡ true
second_half true q e = e
second_half false q e = absurd cc

-- a block is taken away
pub has-without : (k b : ℕ) (blocks : List ℕ) → has k (filter (λ x. not (x == b)) blocks) ≡ turned false (b == k)
    (has k blocks)
has-without k b blocks =
    any-filter_same (λ x. x == k) (λ x. not (x == b)) (not (b == k)) (λ x e. kept_at x k b e) blocks
    ∙ dropped (b == k) (has k blocks)
  where
    dropped : (c before : Bool) → (not c && before) ≡ turned false c before
    dropped true before = refl
    dropped false before = refl

-- a block is added
pub has-with : (k b : ℕ) (blocks : List ℕ) → has k (blocks ++ b ∷ []) ≡ turned (b == k) false (has k blocks)
has-with k b blocks = list_any-append (λ x. x == k) blocks (b ∷ []) ∙ last (has k blocks) (b == k)
  where
    last : (before now : Bool) → (before || (now || false)) ≡ turned now false before
    last true true = refl
    last true false = refl
    last false true = refl
    last false false = refl

-- what waits for a sink is taken away
pub awaits-without : (k s sink : ℕ) (all : List Awaited) → awaits k s (filter (λ a. not (a.sink == sink)) all)
    ≡ (awaits k s all && not (sink == s))
awaits-without k s sink all =
    any-filter_same (λ (a : Awaited). (a.block == k) && (a.sink == s)) (λ a. not (a.sink == sink)) (not (sink == s))
    (λ a e. kept_at a.sink s sink (second_half (a.block == k) (a.sink == s) e)) all
    ∙ turned_round (not (sink == s)) (awaits k s all)
  where
    turned_round : (c d : Bool) → (c && d) ≡ (d && c)
    turned_round true true = refl
    turned_round true false = refl
    turned_round false true = refl
    turned_round false false = refl

-- a block is granted, in the place of what was known of it
pub awaits-with : (k s block sink : ℕ) (all : List Awaited)
    → awaits k s (filter (λ a. not (a.block == block)) all ++ record { block = block; sink = sink } ∷ [])
    ≡ (if block == k then sink == s else awaits k s all)
awaits-with k s block sink all =
    list_any-append (λ (a : Awaited). (a.block == k) && (a.sink == s)) (filter (λ a. not (a.block == block)) all)
    (record { block = block; sink = sink } ∷ [])
    ∙ ap (λ b. b || (((block == k) && (sink == s)) || false))
    (any-filter_same (λ (a : Awaited). (a.block == k) && (a.sink == s)) (λ a. not (a.block == block))
    (not (block == k)) (λ a e. kept_at a.block k block (first_half (a.block == k) (a.sink == s) e)) all)
    ∙ last (block == k) (sink == s) (awaits k s all)
  where
    last : (here now before : Bool)
        → ((not here && before) || ((here && now) || false)) ≡ (if here then now else before)
    last true true before = refl
    last true false before = refl
    last false now true = refl
    last false now false = refl

same_other : (x b k : ℕ) → (x == b) ≡ true → (b == k) ≡ false → (x == k) ≡ false
same_other x b k e f = grind arith

other_same : (x b k : ℕ) → (x == b) ≡ false → (x == k) ≡ true → (b == k) ≡ false
other_same x b k e f = grind arith

abbrev nothing : Option ProbeAt
nothing = None

nothing_left : (here : Bool) → nothing ≡ (if here then nothing else nothing)
nothing_left true = refl
nothing_left false = refl

-- the Probe of a block is taken away
pub found-without : (k b : ℕ) (all : List Asked)
    → found k (filter (λ a. not (a.block == b)) all) ≡ (if b == k then None else found k all)
found-without k b [] = nothing_left (b == k)
found-without k b (a ∷ all) = one_more a (found-without k b all)
  where
    one_more : (x : Asked) → found k (filter (λ y. not (y.block == b)) all) ≡ (if b == k then None else found k all)
        → found k (filter (λ y. not (y.block == b)) (x ∷ all)) ≡ (if b == k then None else found k (x ∷ all))
    one_more x before = elim (cases_Bool (x.block == b)) [
      | inl gone ↦ elim (cases_Bool (b == k)) [
        | inl here ↦ rw (gone, here) (rw here at before)
        | inr other ↦
            let no : (x.block == k) ≡ false = same_other x.block b k gone other in
            rw (gone, other, no) (rw other at before)
      ]
      | inr stays ↦ elim (cases_Bool (x.block == k)) [
        | inl here ↦ let no : (b == k) ≡ false = other_same x.block b k stays here in rw (stays, here, no) refl
        | inr other ↦ rw (stays, other) before
      ]
    ]

-- one more Probe is added, where none of its block is left
pub found-with : (k : ℕ) (a : Asked) (old kept new : List Asked)
    → ((j : ℕ) → found j kept ≡ (if a.block == j then None else found j old)) → new ≡ kept ++ a ∷ []
    → found k new ≡ (if a.block == k then Some a.probe else found k old)
found-with k a old kept new left is = rw is (over kept) ∙ at (a.block == k) (left k)
  where
    last : Option ProbeAt → Bool → Option ProbeAt
    last None here = if here then Some a.probe else None
    last (Some p) here = Some p

    over : (all : List Asked) → found k (all ++ a ∷ []) ≡ last (found k all) (a.block == k)
    over [] = go (a.block == k)
      where
        go : (here : Bool) → option_map (λ x. x.probe) (if here then Some a else None) ≡ (if here then Some a.probe else None)
        go true = refl
        go false = refl
    over (b ∷ all) = elim (cases_Bool (b.block == k)) [
      | inl here ↦ rw here refl
      | inr other ↦ rw other (over all)
    ]

    at : (here : Bool) → found k kept ≡ (if here then None else found k old)
        → last (found k kept) here ≡ (if here then Some a.probe else found k old)
    at true e = rw e refl
    at false e = rw e (same (found k old))
      where
        same : (o : Option ProbeAt) → last o false ≡ o
        same None = refl
        same (Some p) = refl
