-- What is found in lists, and what is left of them.
use Rattle.std.proofs.Common.{◌≡◌, Bool, true, false, not, List, [], ◌∷◌, ◌⊎◌, inl, inr, refl, sym, ◌∙◌, ap}
use Rattle.std.specs.Prelude.{if◌then◌else◌, find, filter, Some, None, is_some}
use Rattle.std.proofs.lemmas.Bool.{cases_Bool}

pub same-some : {X : Type 0} (x y : X) → Some x ≡ Some y → y ≡ x
same-some x y e = cc

pub none-some : {X : Type 0} (x : X) → None ≡ Some x → ⊥
none-some x e = cc

-- one of these is so
abbrev pub Among : {X : Type 0} → (X → Type 0) → List X → Type 0
Among P [] = ⊥
Among P (x ∷ xs) = P x ⊎ Among P xs

pub among-map : {X : Type 0} (P Q : X → Type 0) (xs : List X) → ((x : X) → P x → Q x) → Among P xs → Among Q xs
among-map P Q [] f is = absurd is
among-map P Q (x ∷ xs) f is = elim is [
  | inl here ↦ inl (f x here)
  | inr there ↦ inr (among-map P Q xs f there)
]

-- what passes stays
pub among-filter : {X : Type 0} (P : X → Type 0) (test : X → Bool) (xs : List X) → ((x : X) → P x → test x ≡ true)
    → Among P xs → Among P (filter test xs)
among-filter P test [] f is = absurd is
among-filter P test (x ∷ xs) f is = elim is [
  | inl here ↦ rw (f x here) (inl here)
  | inr there ↦ elim (cases_Bool (test x)) [
    | inl e ↦ rw e (inr (among-filter P test xs f there))
    | inr e ↦ rw e (among-filter P test xs f there)
  ]
]

-- what doesn't pass stands for something else
pub among-or : {X : Type 0} (P : X → Type 0) (test : X → Bool) (y : X) (xs : List X)
    → ((x : X) → P x → test x ≡ false → P y) → Among P xs → Among P (y ∷ filter test xs)
among-or P test y [] f is = absurd is
among-or P test y (x ∷ xs) f is = elim is [
  | inl here ↦ elim (cases_Bool (test x)) [
    | inl e ↦ rw e (inr (inl here))
    | inr e ↦ inl (f x here e)
  ]
  | inr there ↦ elim (among-or P test y xs f there) [
    | inl now ↦ inl now
    | inr later ↦ elim (cases_Bool (test x)) [
      | inl e ↦ rw e (inr (inr later))
      | inr e ↦ rw e (inr later)
    ]
  ]
]

-- what is so is found
pub found-among : {X : Type 0} (P : X → Type 0) (test : X → Bool) (xs : List X) → ((x : X) → P x → test x ≡ true)
    → Among P xs → is_some (find test xs) ≡ true
found-among P test [] f is = absurd is
found-among P test (x ∷ xs) f is = elim is [
  | inl here ↦ rw (f x here) refl
  | inr there ↦ elim (cases_Bool (test x)) [
    | inl e ↦ rw e refl
    | inr e ↦ rw e (found-among P test xs f there)
  ]
]

-- what is found is there
pub among-found : {X : Type 0} (P : X → Type 0) (test : X → Bool) (xs : List X) (y : X) → find test xs ≡ Some y → P y
    → Among P xs
among-found P test [] y e is = absurd cc
among-found {X} P test (x ∷ xs) y e is = go (test x) refl e (λ f. among-found P test xs y f is)
  where
    go : (b : Bool) → test x ≡ b → (if b then Some x else find test xs) ≡ Some y
        → (find test xs ≡ Some y → Among P xs) → P x ⊎ Among P xs
    go true t f more = inl (rw (← same-some x y f) is)
    go false t f more = inr (more f)

-- what is found passes
pub found-passes : {X : Type 0} (test : X → Bool) (xs : List X) (y : X) → find test xs ≡ Some y → test y ≡ true
found-passes test [] y e = absurd cc
found-passes {X} test (x ∷ xs) y e = go (test x) refl e (found-passes test xs y)
  where
    go : (b : Bool) → test x ≡ b → (if b then Some x else find test xs) ≡ Some y
        → (find test xs ≡ Some y → test y ≡ true) → test y ≡ true
    go true t f more = ap test (same-some x y f) ∙ t
    go false t f more = more f

-- of what is left nothing is found that was left out, and all else as before
pub find-left_out : {X : Type 0} (test other : X → Bool) (xs : List X) → ((x : X) → other x ≡ true → test x ≡ true)
    → find other (filter (λ x. not (test x)) xs) ≡ None
find-left_out test other [] f = refl
find-left_out test other (x ∷ xs) f = elim (cases_Bool (test x)) [
  | inl e ↦ rw e (find-left_out test other xs f)
  | inr e ↦ elim (cases_Bool (other x)) [
    | inl g ↦ absurd (let no : true ≡ false = sym (f x g) ∙ e in cc)
    | inr g ↦ rw (e, g) (find-left_out test other xs f)
  ]
]

pub find-left : {X : Type 0} (test other : X → Bool) (xs : List X) → ((x : X) → other x ≡ true → test x ≡ false)
    → find other (filter (λ x. not (test x)) xs) ≡ find other xs
find-left test other [] f = refl
find-left test other (x ∷ xs) f = elim (cases_Bool (other x)) [
  | inl g ↦ rw (f x g, g) refl
  | inr g ↦ elim (cases_Bool (test x)) [
    | inl e ↦ rw (e, g) (find-left test other xs f)
    | inr e ↦ rw (e, g) (find-left test other xs f)
  ]
]
