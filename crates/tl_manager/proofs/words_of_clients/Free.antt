-- The least number that isn't taken, and lists in which no number stands twice.
use Rattle.tl_manager.proofs.Imports.{is_one_of, Each, AreApart, least_untaken}
use Rattle.std.proofs.Common.{◌≡◌, ℕ, zero, suc, ◌+◌, ◌<◌, ◌≤◌, ◌==◌, ◌⊎◌, Bool, true, false, cond, ◌||◌, List, [], ◌∷◌}
use Rattle.std.proofs.Common.{length, map, refl, sym, arith, inl, inr}
use Rattle.std.specs.Prelude.{filter, if◌then◌else◌}
use Rattle.std.proofs.lemmas.Bool.{or_parts, cases_eq, eq-eqb, ne_eqb}
use Rattle.tl_manager.specs.statement.Service.{free_from}

-- ---- lists without some of their elements

pub missing_filter : {X : Type 0} (f : X → ℕ) (test : X → Bool) (n : ℕ) (xs : List X) → is_one_of n (map f xs) ≡ false
    → is_one_of n (map f (filter test xs)) ≡ false
missing_filter f test n [] e = refl
missing_filter {X} f test n (x ∷ xs) e =
    let p = or_parts (n == f x) (is_one_of n (map f xs)) e in
    go (test x) p.0 (missing_filter f test n xs p.1)
  where
    go : (b : Bool) → (n == f x) ≡ false → is_one_of n (map f (filter test xs)) ≡ false
        → is_one_of n (map f (cond b (x ∷ filter test xs) (filter test xs))) ≡ false
    go true other rest = rw (other, rest) refl
    go false other rest = rest

pub apart_filter : {X : Type 0} (f : X → ℕ) (test : X → Bool) (xs : List X) → AreApart (map f xs)
    → AreApart (map f (filter test xs))
apart_filter f test [] apart = tt
apart_filter {X} f test (x ∷ xs) apart = go (test x) (missing_filter f test (f x) xs apart.0)
    (apart_filter f test xs apart.1)
  where
    go : (b : Bool) → is_one_of (f x) (map f (filter test xs)) ≡ false → AreApart (map f (filter test xs))
        → AreApart (map f (cond b (x ∷ filter test xs) (filter test xs)))
    go true new rest = (new, rest)
    go false new rest = rest

pub each_map_filter : {X : Type 0} (P : ℕ → Type 0) (f : X → ℕ) (test : X → Bool) (xs : List X) → Each P (map f xs)
    → Each P (map f (filter test xs))
each_map_filter P f test [] each = tt
each_map_filter {X} P f test (x ∷ xs) each = go (test x) each.0 (each_map_filter P f test xs each.1)
  where
    go : (b : Bool) → P (f x) → Each P (map f (filter test xs))
        → Each P (map f (cond b (x ∷ filter test xs) (filter test xs)))
    go true p rest = (p, rest)
    go false p rest = rest

-- ---- as many numbers as are taken stand in the list

unfoldable pub without : ℕ → List ℕ → List ℕ
without k [] = []
without k (n ∷ ns) = if n == k then without k ns else n ∷ without k ns

shorter : (k : ℕ) (ns : List ℕ) → length (without k ns) ≤ length ns
unfolding without
shorter k [] = omega arith
shorter k (n ∷ ns) = go (n == k) (shorter k ns)
  where
    go : (b : Bool) → length (without k ns) ≤ length ns → length (if b then without k ns else n ∷ without k ns) ≤ length
        (n ∷ ns)
    go true le = omega arith
    go false le = omega arith

one_less : (k : ℕ) (ns : List ℕ) → is_one_of k ns ≡ true → length (without k ns) < length ns
unfolding without
one_less k [] e = absurd cc
one_less k (n ∷ ns) e = elim (cases_eq n k) [
  | inl same ↦ rw (eq-eqb n k same) (let le = shorter k ns in omega arith)
  | inr other ↦
      let away : (k == n) ≡ false = ne_eqb k n (λ f. other (sym f)) in
      let rest : is_one_of k ns ≡ true = rw away at e in
      rw (ne_eqb n k other) (let lt = one_less k ns rest in omega arith)
]

still_there : (k i : ℕ) (ns : List ℕ) → i < k → is_one_of i ns ≡ true → is_one_of i (without k ns) ≡ true
unfolding without
still_there k i [] lt e = e
still_there k i (n ∷ ns) lt e = elim (cases_eq n k) [
  | inl same ↦
      let away : (i == n) ≡ false = ne_eqb i n (λ f. omega arith) in
      rw (eq-eqb n k same) (still_there k i ns lt (rw away at e))
  | inr other ↦ rw (ne_eqb n k other) (go (i == n) e (still_there k i ns lt))
]
  where
    go : (b : Bool) → (b || is_one_of i ns) ≡ true → (is_one_of i ns ≡ true → is_one_of i (without k ns) ≡ true)
        → (b || is_one_of i (without k ns)) ≡ true
    go true f rest = refl
    go false f rest = rest f

pub as_many : (k : ℕ) (ns : List ℕ) → ((i : ℕ) → i < k → is_one_of i ns ≡ true) → k ≤ length ns
as_many zero ns each = omega arith
as_many (suc k) ns each =
    let le = as_many k (without k ns) (λ i lt. still_there k i ns lt (each i (omega arith))) in
    let lt = one_less k ns (each k (omega arith)) in
    omega arith

-- ---- the least that isn't taken

-- the number found isn't taken, or all that were tried are
found_or_all : (n more : ℕ) (ns : List ℕ) → ((i : ℕ) → i < n → is_one_of i ns ≡ true)
    → (is_one_of (free_from n more ns) ns ≡ false)
    ⊎ ((free_from n more ns ≡ n + more) × ((i : ℕ) → i < n + more → is_one_of i ns ≡ true))
found_or_all n zero ns each = inr (omega arith, λ i lt. each i (omega arith))
found_or_all n (suc more) ns each =
    go (is_one_of n ns) refl
    (λ e. found_or_all (n + 1) more ns
    (λ i lt. elim (cases_eq i n) [ inl same ↦ rw same e | inr other ↦ each i (omega arith) ]))
  where
    go : (b : Bool) → is_one_of n ns ≡ b
        → (is_one_of n ns ≡ true → (is_one_of (free_from (n + 1) more ns) ns ≡ false)
        ⊎ ((free_from (n + 1) more ns ≡ n + 1 + more) × ((i : ℕ) → i < n + 1 + more → is_one_of i ns ≡ true)))
        → (is_one_of (if b then free_from (n + 1) more ns else n) ns ≡ false)
        ⊎ (((if b then free_from (n + 1) more ns else n) ≡ n + suc more)
        × ((i : ℕ) → i < n + suc more → is_one_of i ns ≡ true))
    go false e rest = inl e
    go true e rest = elim (rest e) [
      | inl found ↦ inl found
      | inr all ↦ inr (omega (arith, all.0), λ i lt. all.1 i (omega arith))
    ]

pub least_free-is_free : (ns : List ℕ) → is_one_of (least_untaken ns) ns ≡ false
unfolding least_untaken
least_free-is_free ns = elim (found_or_all 0 (length ns) ns (λ i lt. absurd (omega arith))) [
  | inl found ↦ found
  | inr all ↦ go (is_one_of (free_from 0 (length ns) ns) ns) refl all.0 all.1
]
  where
    go : (b : Bool) → is_one_of (free_from 0 (length ns) ns) ns ≡ b → free_from 0 (length ns) ns ≡ 0 + length ns
        → ((i : ℕ) → i < 0 + length ns → is_one_of i ns ≡ true) → b ≡ false
    go false e last all = refl
    go true e last all =
        let le : suc (length ns) ≤ length ns = as_many (suc (length ns)) ns
        (λ i lt. elim (cases_eq i (length ns)) [
          | inl same ↦
              (let place : i ≡ free_from 0 (length ns) ns = omega (arith, last, same) in rw place e)
          | inr other ↦ all i (omega arith)
        ]) in
        absurd (omega (arith, le))

tried : (n more : ℕ) (ns : List ℕ) → free_from n more ns ≤ n + more
tried n zero ns = omega arith
tried n (suc more) ns = go (is_one_of n ns) (tried (n + 1) more ns)
  where
    go : (b : Bool) → free_from (n + 1) more ns ≤ n + 1 + more → (if b then free_from (n + 1) more ns else n) ≤ n + suc
        more
    go true le = omega (arith, le)
    go false le = omega arith

pub least_free-le : (ns : List ℕ) → least_untaken ns ≤ length ns
unfolding least_untaken
least_free-le ns = let le = tried 0 (length ns) ns in omega (arith, le)
