-- What lists of possible values say of each place.
use Rattle.std.proofs.Common.{◌≡◌, ◌<◌, ◌≤◌, ◌&&◌, ℕ, zero, suc, Bool, true, false, List, [], ◌∷◌, ◌++◌}
use Rattle.std.proofs.Common.{refl, ap, sym, ◌∙◌, ◌+◌, ◌^◌, replicate, append_assoc, arith, inl, inr, get_or, length}
use Rattle.std.proofs.Math.Numerals.{add-one}
use Rattle.std.specs.Prelude.{◌-◌, filter, if◌then◌else◌, nat_lt}
use Rattle.std.proofs.lemmas.Bool.{cases_Bool, cases_eq, eq-eqb, ltb-true, ne_eqb}
use Rattle.std.proofs.lemmas.List.{append-nil, get_or-replicate}
use Rattle.tl_bytes.proofs.Told.{all-later, once, stays-all, stays-some, tellings-append}
use Rattle.tl_bytes.specs.code.Tellings.{is_written, stays, value_at, with_write}
use Rattle.tl_bytes.specs.declared.known_bytes.KnownBytes.{KnownBytes}
use Rattle.tl_bytes.specs.declared.standing.Standing.{Standing}
use Rattle.tl_bytes.specs.declared.telling.Telling.{Telling}
use Rattle.tl_bytes.specs.declared.telling.Told.{Told}
use Rattle.tl_bytes.specs.declared.write.Write.{Write}
use Rattle.tl_bytes.specs.statement.Bytes.{told_too}
unfoldable use Rattle.tl_bytes.specs.statement.Known.{tellings_at}
unfoldable use Rattle.tl_commits.specs.code.Tellings.{written}
use Rattle.tl_commits.specs.code.Tellings.{IsPlain, is_in, no_told, same, stands, with_set, written_there}

-- ---- one value

own-value : (p : ℕ) (x : Told) → x.place ≡ p → tellings_at p (x ∷ []) ≡ x.telling ∷ []
unfolding tellings_at
own-value p x here = rw (here, eq-eqb p p refl) refl

other-value : (p : ℕ) (x : Told) → (x.place ≡ p → ⊥) → tellings_at p (x ∷ []) ≡ []
unfolding tellings_at
other-value p x apart = rw (ne_eqb x.place p apart) refl

-- ---- values that are written

module _ (places : List Bool) (write : Write) (moment : ℕ) where
  abbrev value_there : ℕ → Telling
  value_there p = record { value = value_at write p; moment = moment }

  -- there are none of a later place
  written-later : (k p : ℕ) → k ≤ p → tellings_at p (written k places write moment) ≡ []
  unfolding written tellings_at
  written-later zero p le = refl
  written-later (suc k) p le = elim (cases_Bool (is_in places k)) [
    | inl on ↦ rw on (tellings-append p (written k places write moment) (written_there write moment k ∷ [])
        ∙ rw (written-later k p (omega (arith, le)))
        (other-value p (written_there write moment k) (λ e. omega (arith, le, e))))
    | inr off ↦ rw off (written-later k p (omega (arith, le)))
  ]

  -- of an earlier one there is the value that is written
  written-at : (k p : ℕ) → p < k
      → tellings_at p (written k places write moment) ≡ (if is_in places p then value_there p ∷ [] else [])
  unfolding written tellings_at
  written-at zero p lt = absurd (omega (arith, lt))
  written-at (suc k) p lt = elim (cases_eq k p) [
    | inl here ↦ elim (cases_Bool (is_in places p)) [
      | inl on ↦ rw (here, on) (tellings-append p (written p places write moment) (written_there write moment p ∷ [])
          ∙ rw (written-later p p (omega arith)) (own-value p (written_there write moment p) refl))
      | inr off ↦ rw (here, off) (written-later p p (omega arith))
    ]
    | inr apart ↦ elim (cases_Bool (is_in places k)) [
      | inl on ↦ rw on (tellings-append p (written k places write moment) (written_there write moment k ∷ [])
          ∙ rw (written-at k p (omega (arith, lt, apart)), other-value p (written_there write moment k) apart)
          (append-nil (if is_in places p then value_there p ∷ [] else [])))
      | inr off ↦ rw off (written-at k p (omega (arith, lt, apart)))
    ]
  ]

  -- one place more
  pub one-written : (k : ℕ) (items before : List Told) (there : Told) → items ≡ before ++ written k places write moment
      → is_in places k ≡ true → there ≡ written_there write moment k
      → items ++ there ∷ [] ≡ before ++ written (k + 1) places write moment
  unfolding written
  one-written k items before there is on there_is =
      rw (add-one k, on, is, there_is) (append_assoc before (written k places write moment) (written_there write moment k ∷ []))

  pub one-unwritten : (k : ℕ) (items before : List Told) → items ≡ before ++ written k places write moment
      → is_in places k ≡ false → items ≡ before ++ written (k + 1) places write moment
  unfolding written
  one-unwritten k items before is off = rw (add-one k, off) is

-- ---- values of some places

stands-at : (places : List Bool) (there : Bool) (p : ℕ) (xs : List Told)
    → tellings_at p (filter (stands places there) xs)
    ≡ (if same (is_in places p) there then tellings_at p xs else [])
unfolding tellings_at
stands-at places there p [] = go (same (is_in places p) there)
  where
    go : {X : Type 0} (b : Bool) → ◌≡◌ {A = List X} [] (if b then [] else [])
    go true = refl
    go false = refl
stands-at places there p (x ∷ xs) = elim (cases_eq x.place p) [
  | inl here ↦ elim (cases_Bool (same (is_in places p) there)) [
    | inl on ↦ rw (here, on, eq-eqb p p refl) (ap (λ l. x.telling ∷ l) (stands-at places there p xs ∙ rw on refl))
    | inr off ↦ rw (here, off) (stands-at places there p xs ∙ rw off refl)
  ]
  | inr apart ↦ elim (cases_Bool (stands places there x)) [
    | inl on ↦ rw (on, ne_eqb x.place p apart) (stands-at places there p xs)
    | inr off ↦ rw (off, ne_eqb x.place p apart) (stands-at places there p xs)
  ]
]

-- ---- what the functions make

-- of all places those that a message brings
pub told-at : (write : Write) (moment p : ℕ) (items : List Told)
    → items ≡ [] ++ written 64 (replicate 64 true) write moment → p < 64
    → tellings_at p items ≡ record { value = value_at write p; moment = moment } ∷ []
told-at write moment p items is lt =
    rw is (written-at (replicate 64 true) write moment 64 p lt ∙ rw (get_or-replicate 64 p true false lt) refl)

-- those that are set, and others elsewhere
pub set-at : (write : Write) (moment p : ℕ) (places : List Bool) (mid items before : List Told)
    → mid ≡ [] ++ written 64 places write moment → items ≡ mid ++ filter (stands places false) before → p < 64
    → tellings_at p items ≡ (if is_in places p then record { value = value_at write p; moment = moment } ∷ []
    else tellings_at p before)
set-at write moment p places mid items before mid_is is lt =
    rw (is, mid_is) (tellings-append p (written 64 places write moment) (filter (stands places false) before)
    ∙ rw (written-at places write moment 64 p lt, stands-at places false p before) (go (is_in places p)))
  where
    go : (b : Bool) → (if b then record { value = value_at write p; moment = moment } ∷ [] else [])
        ++ (if same b false then tellings_at p before else [])
        ≡ (if b then record { value = value_at write p; moment = moment } ∷ [] else tellings_at p before)
    go true = refl
    go false = refl

-- those that an access may have written
pub within-at : (write : Write) (moment since p : ℕ) (places : List Bool) (mid items before : List Told)
    → mid ≡ [] ++ written 64 places write moment → items ≡ mid ++ filter (stays write since) before → p < 64
    → is_in places p ≡ is_written write p
    → tellings_at p items ≡ with_write write (Standing.Within since) moment p (tellings_at p before)
within-at write moment since p places mid items before mid_is is lt there =
    rw (is, mid_is) (tellings-append p (written 64 places write moment) (filter (stays write since) before)
    ∙ elim (cases_Bool (is_written write p)) [
      | inl on ↦ rw (written-at places write moment 64 p lt, there, on, stays-some write since p before on)
          (ap (λ l. record { value = value_at write p; moment = moment } ∷ l)
          (once since (value_at write p) (tellings_at p before)))
      | inr off ↦ rw (written-at places write moment 64 p lt, there, off, stays-all write since p before off) refl
    ])

pub anywhere-at : (write : Write) (moment p : ℕ) (places : List Bool) (mid items before : List Told)
    → mid ≡ [] ++ written 64 places write moment → items ≡ mid ++ filter (stays write 0) before → p < 64
    → is_in places p ≡ is_written write p
    → tellings_at p items ≡ with_write write Standing.Anywhere moment p (tellings_at p before)
anywhere-at write moment p places mid items before mid_is is lt there =
    within-at write moment 0 p places mid items before mid_is is lt there
    ∙ ap (λ (l : List Telling). if is_written write p
    then told_too (record { value = value_at write p; moment = moment }) l else tellings_at p before)
    (all-later (tellings_at p before))

-- those stay that it wrote before a message set them
pub told-before : (write : Write) (moment p : ℕ) (items before : List Told) → items ≡ before
    → tellings_at p items ≡ with_write write Standing.Told moment p (tellings_at p before)
told-before write moment p items before is = rw is (go (is_written write p) (tellings_at p before))
  where
    go : {X : Type 0} (b : Bool) (x : X) → x ≡ (if b then x else x)
    go true x = refl
    go false x = refl

-- some places have these, the others those
pub chosen-at : (p : ℕ) (places : List Bool) (mid items those others : List Told)
    → mid ≡ [] ++ filter (stands places true) those → items ≡ mid ++ filter (stands places false) others
    → tellings_at p items ≡ (if is_in places p then tellings_at p those else tellings_at p others)
chosen-at p places mid items those others mid_is is =
    rw (is, mid_is) (tellings-append p (filter (stands places true) those) (filter (stands places false) others)
    ∙ rw (stands-at places true p those, stands-at places false p others) (go (is_in places p)))
  where
    go : (b : Bool) → (if same b true then tellings_at p those else [])
        ++ (if same b false then tellings_at p others else [])
        ≡ (if b then tellings_at p those else tellings_at p others)
    go true = append-nil (tellings_at p those)
    go false = refl

-- ---- one value of each place

-- of a list whose places follow from one on
from-one : (k p : ℕ) (xs : List Told) → ((i : ℕ) → i < length xs → (get_or xs i no_told).place ≡ k + i)
    → (p < k → tellings_at p xs ≡ [])
    × (k ≤ p → p < k + length xs → tellings_at p xs ≡ (get_or xs (p - k) no_told).telling ∷ [])
unfolding tellings_at
from-one k p [] at = (λ lt. refl, λ le lt. absurd (omega (arith, le, lt)))
from-one k p (x ∷ xs) at =
    let here : x.place ≡ k = at 0 (omega arith) ∙ omega arith in
    let rest = from-one (suc k) p xs (λ i lt. at (suc i) (omega (arith, lt)) ∙ omega arith) in (
      λ lt. rw (ne_eqb x.place p (λ e. omega (arith, e, here, lt))) (rest.0 (omega (arith, lt))),
      λ le lt. elim (cases_eq p k) [
        | inl same ↦
            let none : p - k ≡ 0 = omega (arith, same) in
            rw (none, eq-eqb x.place p (here ∙ sym same)) (ap (λ l. x.telling ∷ l) (rest.0 (omega (arith, same))))
        | inr apart ↦
            let more : p - k ≡ suc (p - suc k) = omega (arith, le, apart) in
            rw (more, ne_eqb x.place p (λ e. apart (sym e ∙ here)))
            (rest.1 (omega (arith, le, apart)) (omega (arith, lt)))
      ],
    )

pub plain-at : (told : List Told) (p : ℕ) → IsPlain told → p < 64
    → tellings_at p told ≡ (get_or told p no_told).telling ∷ []
plain-at told p is lt =
    let first : p - 0 ≡ p = omega arith in
    (from-one 0 p told (λ i less. is.1 i (omega (arith, less, is.0)) ∙ omega arith)).1 (omega arith)
    (omega (arith, lt, is.0)) ∙ ap (λ q. (get_or told q no_told).telling ∷ []) first

-- those of some places set
pub plain-set : (old new : List Told) (places : List Bool) (write : Write) (moment p : ℕ) → IsPlain old
    → length new ≡ length old
    → ((q : ℕ) → q < 64 → get_or new q no_told
    ≡ (if is_in places q then written_there write moment q else get_or old q no_told)) → p < 64
    → tellings_at p new ≡ with_set (is_in places p) write moment p (tellings_at p old)
plain-set old new places write moment p is long set lt =
    let plain : IsPlain new = (long ∙ is.0, λ q less. ap (λ (x : Told). x.place) (set q less) ∙ place q (is_in places q) (is.1 q less)) in
    plain-at new p plain lt ∙ ap (λ (x : Told). x.telling ∷ []) (set p lt)
    ∙ rw (plain-at old p is lt) (go (is_in places p))
  where
    place : (q : ℕ) (b : Bool) → (get_or old q no_told).place ≡ q
        → (if b then written_there write moment q else get_or old q no_told).place ≡ q
    place q true here = refl
    place q false here = here

    go : (b : Bool) → (if b then written_there write moment p else get_or old p no_told).telling ∷ []
        ≡ with_set b write moment p ((get_or old p no_told).telling ∷ [])
    go true = refl
    go false = refl

-- ---- all places, and none

-- a write of all places
abbrev pub whole : KnownBytes → Write
whole values = record { first = 0; mask = 2 ^ 64 - 1; values = values }

-- no place
pub none-in : (p : ℕ) → p < 64 → is_in (replicate 64 false) p ≡ false
none-in p lt = get_or-replicate 64 p false false lt

-- no place comes before the first
pub none-before : (p : ℕ) (b : Bool) → false ≡ (nat_lt p 0 && b)
none-before p b = elim (cases_Bool (nat_lt p 0)) [
  | inl on ↦ absurd (omega (arith, ltb-true p 0 on))
  | inr off ↦ rw off refl
]
