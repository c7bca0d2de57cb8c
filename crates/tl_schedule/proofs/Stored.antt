-- The requests that are kept, where one is taken away, added or noted.
use Rattle.std.proofs.Common.{◌≡◌, ℕ, Bool, true, false, ◌==◌, ◌&&◌, List, [], ◌∷◌, ◌++◌, refl, ◌∙◌, arith, inl, inr}
use Rattle.std.specs.List.{find}
use Rattle.std.specs.Option.{option_or}
use Rattle.std.specs.Prelude.{if◌then◌else◌, not, filter, option_map, Option, Some, None, OnOk, Result, Ok, Err}
use Rattle.std.proofs.lemmas.Bool.{cases_Bool}
use Rattle.std.proofs.lemmas.List.Folds.{find-append}
use Rattle.tl_coherence.specs.declared.event.Event.{Event}
use Rattle.tl_coherence.specs.declared.event.Outcome.{Outcome}
use Rattle.tl_coherence.specs.statement.Log.{Log}
use Rattle.tl_schedule.specs.code.Storing.{Remembers, is_of, store_of, stored}
use Rattle.tl_schedule.specs.declared.whole.Begun.{Begun}
use Rattle.tl_schedule.specs.declared.whole.WholeStores.{WholeStores}
use Rattle.tl_schedule.specs.statement.Commits.{begun_in, in_place, store_begun}

-- the same client and the same source
abbrev same : ℕ → ℕ → ℕ → ℕ → Bool
same c d k s = (c == k) && (d == s)

both_same : (p q c d k s : ℕ) → same p q c d ≡ true → same p q k s ≡ true → same c d k s ≡ true
both_same p q c d k s e f = grind arith

one_other : (p q c d k s : ℕ) → same p q c d ≡ true → same p q k s ≡ false → same c d k s ≡ false
one_other p q c d k s e f = grind arith

other_one : (p q c d k s : ℕ) → same p q c d ≡ false → same p q k s ≡ true → same c d k s ≡ false
other_one p q c d k s e f = grind arith

abbrev nothing : Option Begun
nothing = None

nothing_left : (here : Bool) → nothing ≡ (if here then nothing else nothing)
nothing_left true = refl
nothing_left false = refl

-- the request of a client with a source is taken away
find-without : (k s c d : ℕ) (all : List Begun)
    → find (is_of k s) (filter (λ x. not (is_of c d x)) all) ≡ (if same c d k s then None else find (is_of k s) all)
find-without k s c d [] = nothing_left (same c d k s)
find-without k s c d (x ∷ all) = one_more x (find-without k s c d all)
  where
    one_more : (x : Begun)
        → find (is_of k s) (filter (λ y. not (is_of c d y)) all) ≡ (if same c d k s then None else find (is_of k s) all)
        → find (is_of k s) (filter (λ y. not (is_of c d y)) (x ∷ all))
        ≡ (if same c d k s then None else find (is_of k s) (x ∷ all))
    one_more x before = elim (cases_Bool (same x.client x.source c d)) [
      | inl gone ↦ elim (cases_Bool (same x.client x.source k s)) [
        | inl here ↦
            let is = both_same x.client x.source c d k s gone here in
            rw (gone, is) (rw is at before)
        | inr other ↦
            let no = one_other x.client x.source c d k s gone other in
            rw (gone, other, no) (rw no at before)
      ]
      | inr stays ↦ elim (cases_Bool (same x.client x.source k s)) [
        | inl here ↦ let no = other_one x.client x.source c d k s stays here in rw (stays, here, no) refl
        | inr other ↦ rw (stays, other) before
      ]
    ]

-- one more request is kept, in place of the one of its client and source
pub store-kept : (k s : ℕ) (a : Begun) (old kept new : List Begun)
    → kept ≡ filter (λ x. not (is_of a.client a.source x)) old → new ≡ kept ++ a ∷ []
    → store_of k s new ≡ in_place k s (Some a) (store_of k s old)
store-kept k s a old kept new left is =
    rw (
      is,
      left,
      find-append (is_of k s) (filter (λ x. not (is_of a.client a.source x)) old) (a ∷ []),
      find-without k s a.client a.source old,
    ) (go (same a.client a.source k s))
  where
    last : (o : Option Begun) → option_or o None ≡ o
    last None = refl
    last (Some x) = refl

    go : (here : Bool) → stored (option_map (λ begun. begun.store)
        (option_or (if here then None else find (is_of k s) old) (if here then Some a else None)))
        ≡ (if here then a.store else store_of k s old)
    go true = refl
    go false = rw (last (find (is_of k s) old)) refl

-- an event in which nothing starts is noted
pub noted-none : {w : ℕ} (stores : WholeStores) (event : Event w) (outcome : Outcome w) (log : Log w)
    → begun_in event outcome ≡ None → Remembers stores log → Remembers stores ((event, outcome) ∷ log)
unfolding store_begun
noted-none stores event outcome log none knows = λ k s. rw none (knows k s)

-- one in which a request starts
pub noted-one : {w : ℕ} {E : Type 0} (old new : WholeStores) (event : Event w) (outcome : Outcome w) (a : Begun)
    (r : Result (Unit {0}) E) → begun_in event outcome ≡ Some a
    → OnOk r ((k s : ℕ) → store_of k s new.begun.items ≡ in_place k s (Some a) (store_of k s old.begun.items))
    → OnOk r ((log : Log w) → Remembers old log → Remembers new ((event, outcome) ∷ log))
unfolding store_begun
noted-one old new event outcome a (Err e) is kept = tt
noted-one old new event outcome a (Ok x) is kept = λ log knows k s. rw is (kept k s ∙ rw (knows k s) refl)
