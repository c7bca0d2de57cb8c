-- What is filled place by place.
use Rattle.std.proofs.Common.{◌≡◌, ℕ, ◌+◌, ◌<◌, ◌≤◌, List, get_or, set, length, refl, sym, ap}
use Rattle.std.proofs.Common.{◌∙◌, arith, inl, inr}
use Rattle.std.specs.Prelude.{if◌then◌else◌, ◌==◌, nat_lt}
use Rattle.std.proofs.lemmas.Bool.{cases_eq, cases_lt, eq-eqb, lt-ltb, le-ltb, ne_eqb}
use Rattle.std.proofs.lemmas.List.{get_or-set_same, get_or-set_other}

-- they are, one after another
module _ {X : Type 0} (fill before : ℕ → X) where
  -- what stands at a place once those before this one are done
  abbrev pub filled_to : ℕ → ℕ → X
  filled_to k p = if nat_lt p k then fill p else before p

  pub none-filled : (p : ℕ) → before p ≡ filled_to 0 p
  none-filled p = rw (le-ltb p 0 (omega arith)) refl

  pub not-yet : (k : ℕ) → filled_to k k ≡ before k
  not-yet k = rw (le-ltb k k (omega arith)) refl

  pub next-filled : (k : ℕ) (now new : ℕ → X) → ((p : ℕ) → now p ≡ filled_to k p)
      → ((p : ℕ) → new p ≡ (if p == k then fill k else now p)) → (p : ℕ) → new p ≡ filled_to (k + 1) p
  next-filled k now new so_far put p = elim (cases_eq p k) [
    | inl same ↦ put p ∙ rw (eq-eqb p k same, lt-ltb p (k + 1) (omega (arith, same))) (ap fill (sym same))
    | inr ne ↦ put p ∙ rw (ne_eqb p k ne) (so_far p ∙ elim (cases_lt p k) [
      | inl lt ↦ rw (lt-ltb p k lt, lt-ltb p (k + 1) (omega (arith, lt))) refl
      | inr le ↦
          let less : k + 1 ≤ p = omega (arith, ne, le) in
          rw (le-ltb p k le, le-ltb p (k + 1) less) refl
    ])
  ]

  pub all-filled : (k p : ℕ) → p < k → filled_to k p ≡ fill p
  all-filled k p lt = rw (lt-ltb p k lt) refl

pub one_filled : {X : Type 0} (f : ℕ → X) (k : ℕ) (xs : List X) (d : X) → k < length xs
    → ((p : ℕ) → p < k → get_or xs p d ≡ f p) → (p : ℕ) → p < k + 1 → get_or (set xs k (f k)) p d ≡ f p
one_filled f k xs d inside so_far p lt = elim (cases_eq p k) [
  | inl same ↦ ap (λ q. get_or (set xs k (f k)) q d) same ∙ get_or-set_same xs k (f k) d inside ∙ ap f (sym same)
  | inr ne ↦ get_or-set_other xs k p (f k) d ne ∙ so_far p (omega (arith, lt, ne))
]
