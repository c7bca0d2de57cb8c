-- Names in a list, and one more behind them.
use Rattle.std.proofs.Common.{◌≡◌, ℕ, suc, Bool, true, false, cond, ◌||◌}
use Rattle.std.proofs.Common.{◌<◌, ◌≤◌, List, [], ◌∷◌, ◌++◌, length}
use Rattle.std.proofs.Common.{refl, sym, ap, ◌∙◌, arith}
use Rattle.std.specs.Prelude.{◌+◌, ◌==◌, ◌&&◌, if◌then◌else◌, Option, Some, None, slice_index_or, slice_set}
use Rattle.std.proofs.Common.{inl, inr}
use Rattle.std.specs.Prelude.{◌⊎◌}
use Rattle.std.proofs.lemmas.List.{get_or-set_other, get_or-set_same, set_past}
use Rattle.std.proofs.lemmas.Bool.{cases_eq, cases_lt, eq-eqb, eqb-true, le-ltb, lt-ltb}
use Rattle.std.proofs.lemmas.List.{length-append}
use Rattle.tl_rules.specs.statement.Legality.{is_one_of}
use Rattle.tl_wide.specs.statement.Numbers.{KnowsNumbers, found_in, is_past, place_among, place_under, slot_in}
use Rattle.tl_wide.specs.declared.numbers.Numbers.{Numbers}
use Rattle.tl_wide.specs.statement.Naming.{place_in, with_number}

pub place-last : (names : List ℕ) (n : ℕ) → is_one_of n names ≡ false → place_in (names ++ n ∷ []) n ≡ length names
unfolding place_in
place-last [] n new = rw (eq-eqb n n refl) refl
place-last (m ∷ names) n new = go (n == m) (place-last names n) new
  where
    go : (b : Bool) → (is_one_of n names ≡ false → place_in (names ++ n ∷ []) n ≡ length names)
        → (b || is_one_of n names) ≡ false → (if b then 0 else suc (place_in (names ++ n ∷ []) n)) ≡ suc (length names)
    go true rest e = absurd cc
    go false rest e = ap suc (rest e)

place-kept : (names : List ℕ) (n k : ℕ) → is_one_of k names ≡ true → place_in (names ++ n ∷ []) k ≡ place_in names k
unfolding place_in
place-kept [] n k among = absurd cc
place-kept (m ∷ names) n k among = go (k == m) (place-kept names n k) among
  where
    go : (b : Bool) → (is_one_of k names ≡ true → place_in (names ++ n ∷ []) k ≡ place_in names k)
        → (b || is_one_of k names) ≡ true
        → (if b then 0 else suc (place_in (names ++ n ∷ []) k)) ≡ (if b then 0 else suc (place_in names k))
    go true rest e = refl
    go false rest e = ap suc (rest e)

pub among-more : (names : List ℕ) (n k : ℕ) → is_one_of k (names ++ n ∷ []) ≡ (is_one_of k names || (k == n))
among-more [] n k = go (k == n)
  where
    go : (b : Bool) → (b || false) ≡ b
    go true = refl
    go false = refl
among-more (m ∷ names) n k = go (k == m) (among-more names n k)
  where
    go : (b : Bool) → is_one_of k (names ++ n ∷ []) ≡ (is_one_of k names || (k == n))
        → (b || is_one_of k (names ++ n ∷ [])) ≡ ((b || is_one_of k names) || (k == n))
    go true rest = refl
    go false rest = rest

-- the place of each name among one more
pub places-more : (names : List ℕ) (n k : ℕ) → is_one_of n names ≡ false
    → place_among (names ++ n ∷ []) k ≡ (if k == n then Some (length names) else place_among names k)
places-more names n k new = rw (among-more names n k) (go (k == n) refl (is_one_of k names) refl)
  where
    go : (same : Bool) → (k == n) ≡ same → (old : Bool) → is_one_of k names ≡ old
        → (if old || same then Some (place_in (names ++ n ∷ []) k) else None)
        ≡ (if same then Some (length names) else (if old then Some (place_in names k) else None))
    go true e true f = absurd (let no : true ≡ false = sym f ∙ rw (eqb-true k n e) new in cc)
    go true e false f = ap Some (rw (eqb-true k n e) (place-last names n new))
    go false e true f = ap Some (place-kept names n k f)
    go false e false f = refl

-- ---- a table of them

some_is : {A : Type 0} {x y : A} → Some x ≡ Some y → x ≡ y
some_is e = cc

-- without slots no name stands in one
no-slot : {X : Type 0} (numbers : Numbers) (i k place : ℕ) → numbers.recent.items ≡ []
    → slot_in numbers i ≡ Some (k, place) → X
no-slot numbers i k place none is = absurd (let no : None ≡ Some (k, place) = rw none at is in cc)

-- a slot is as it was, or has this name now
abbrev IsFilled : Numbers → Numbers → ℕ → ℕ → Type 0
IsFilled old new name place =
    (i : ℕ) → (slot_in new i ≡ slot_in old i) ⊎ (slot_in new i ≡ Some (name, place))

pub filled : (before after : List (Option (ℕ × ℕ))) (at name place : ℕ) → after ≡ slice_set before at (Some (name, place))
    → (i : ℕ) → (slice_index_or after i None ≡ slice_index_or before i None)
    ⊎ (slice_index_or after i None ≡ Some (name, place))
filled before after at name place is i = rw is (elim (cases_eq i at) [
  | inl same ↦ elim (cases_lt at (length before)) [
    | inl lt ↦ inr (rw same (get_or-set_same before at (Some (name, place)) None lt))
    | inr past ↦ inl (rw (set_past before at (Some (name, place)) past) refl)
  ]
  | inr other ↦ inl (get_or-set_other before at i (Some (name, place)) None other)
])

-- the same, if there may be slots more now
pub filled-more : (old before after : List (Option (ℕ × ℕ))) (at name place : ℕ)
    → ((i : ℕ) → slice_index_or before i None ≡ slice_index_or old i None)
    → after ≡ slice_set before at (Some (name, place))
    → (i : ℕ) → (slice_index_or after i None ≡ slice_index_or old i None)
    ⊎ (slice_index_or after i None ≡ Some (name, place))
filled-more old before after at name place more is i = elim (filled before after at name place is i) [
  | inl same ↦ inl (same ∙ more i)
  | inr own ↦ inr own
]

-- of names of which 0 is the first
pub zero-known : (numbers : Numbers) → ((k : ℕ) → place_under numbers.places k ≡ None) → numbers.count ≡ 1 → numbers.has_zero ≡ true
    → numbers.recent.items ≡ [] → KnowsNumbers numbers (0 ∷ [])
unfolding place_in
zero-known numbers empty one zero_is none = record {
  count_is = one;
  places_are = λ k. rw (empty k, zero_is) (go (k == 0));
  recent_is = λ i k place is. no-slot numbers i k place none is;
}
  where
    some_zero : Option ℕ
    some_zero = Some 0

    go : (b : Bool) → cond b some_zero None ≡ cond (b || false) (Some (cond {A = ℕ} b 0 1)) None
    go true = refl
    go false = refl

-- what is found is the place of the name
pub found-place : (o : Option ℕ) (names : List ℕ) (name n : ℕ) → o ≡ place_among names name → o ≡ Some n
    → (is_one_of name names ≡ true) × (n ≡ place_in names name)
found-place o names name n is found = go (is_one_of name names) refl (sym found ∙ is)
  where
    go : (b : Bool) → is_one_of name names ≡ b
        → Some n ≡ (if b then Some (place_in names name) else None)
        → (is_one_of name names ≡ true) × (n ≡ place_in names name)
    go true e f = (e, some_is f)
    go false e f = absurd cc

pub found-none : (o : Option ℕ) (names : List ℕ) (name : ℕ) → o ≡ place_among names name → o ≡ None
    → is_one_of name names ≡ false
found-none o names name is none = go (is_one_of name names) refl (sym none ∙ is)
  where
    go : (b : Bool) → is_one_of name names ≡ b → None ≡ (if b then Some (place_in names name) else None)
        → is_one_of name names ≡ false
    go true e f = absurd cc
    go false e f = e

-- what is found once one name more has a number
found-more : (old new : Numbers) (name : ℕ) → found_in old name ≡ None → new.has_zero ≡ old.has_zero
    → ((k : ℕ) → place_under new.places k
    ≡ (if k == name then Some old.count else place_under old.places k))
    → (k : ℕ) → found_in new k ≡ (if k == name then Some old.count else found_in old k)
found-more old new name none same changed k = rw same (go (old.has_zero && (k == 0)) refl (k == name) refl)
  where
    go : (zero_is : Bool) → (old.has_zero && (k == 0)) ≡ zero_is → (own : Bool) → (k == name) ≡ own
        → (if zero_is then Some 0 else place_under new.places k)
        ≡ (if own then Some old.count else (if zero_is then Some 0 else place_under old.places k))
    go true e true f =
        let is : k ≡ name = eqb-true k name f in
        let some : found_in old k ≡ Some 0 = rw e refl in
        let gone : found_in old k ≡ None = rw is none in
        absurd cc
    go true e false f = refl
    go false e own f = changed k ∙ ap (λ b. if b then Some old.count else place_under old.places k) f

-- one more, which was asked for last
pub one-known : (old new : Numbers) (names : List ℕ) (name : ℕ) → KnowsNumbers old names → is_one_of name names ≡ false
    → found_in old name ≡ None → new.has_zero ≡ old.has_zero → new.count ≡ old.count + 1
    → IsFilled old new name old.count
    → ((k : ℕ) → place_under new.places k
    ≡ (if k == name then Some old.count else place_under old.places k))
    → KnowsNumbers new (names ++ name ∷ [])
one-known old new names name knows fresh none same counted recent changed = record {
  count_is = omega (arith, counted, knows.count_is, length-append names (name ∷ []));
  places_are = λ k. found-more old new name none same changed k
      ∙ rw (knows.count_is, knows.places_are k) (sym (places-more names name k fresh));
  recent_is = λ i k place is. elim (recent i) [
    | inl same ↦ more k place (knows.recent_is i k place (sym same ∙ is)) (k == name) refl
    | inr own ↦
        let both : (k, place) ≡ (name, old.count) = some_is (sym is ∙ own) in
        let named : k ≡ name = ap (λ p. p.0) both in
        let placed : place ≡ old.count = ap (λ p. p.1) both in
        rw (named, placed, knows.count_is, places-more names name name fresh, eq-eqb name name refl) refl
  ];
}
  where
    more : (k place : ℕ) → place_among names k ≡ Some place → (b : Bool) → (k == name) ≡ b
        → place_among (names ++ name ∷ []) k ≡ Some place
    more k place is true e =
        let named : k ≡ name = eqb-true k name e in
        absurd (let no : None ≡ Some place = rw (named, fresh) at is in cc)
    more k place is false e = rw (places-more names name k fresh, e) is

-- a name is asked for last
pub recent-known : (old new : Numbers) (names : List ℕ) (name place : ℕ) → KnowsNumbers old names
    → found_in old name ≡ Some place → new.places ≡ old.places → new.count ≡ old.count
    → new.has_zero ≡ old.has_zero → IsFilled old new name place → KnowsNumbers new names
recent-known old new names name place knows found same counted zero_is recent = record {
  count_is = counted ∙ knows.count_is;
  places_are = λ k. rw (same, zero_is) (knows.places_are k);
  recent_is = λ i k n is. elim (recent i) [
    | inl as_before ↦ knows.recent_is i k n (sym as_before ∙ is)
    | inr own ↦
        let both : (k, n) ≡ (name, place) = some_is (sym is ∙ own) in
        let named : k ≡ name = ap (λ p. p.0) both in
        let placed : n ≡ place = ap (λ p. p.1) both in
        rw (named, placed) (sym (knows.places_are name) ∙ found)
  ];
}

-- what is found is as it was
pub still-known : (old new : Numbers) (names : List ℕ) → KnowsNumbers old names
    → ((k : ℕ) → place_under new.places k ≡ place_under old.places k) → new.has_zero ≡ old.has_zero
    → new.count ≡ old.count → ((i : ℕ) → slot_in new i ≡ slot_in old i) → KnowsNumbers new names
still-known old new names knows same zero_is counted recent = record {
  count_is = counted ∙ knows.count_is;
  places_are = λ k. rw (zero_is, same k) (knows.places_are k);
  recent_is = λ i k place is. knows.recent_is i k place (sym (recent i) ∙ is);
}

-- the newest name is gone
pub without-newest : (old new : Numbers) (names : List ℕ) (name : ℕ) → KnowsNumbers old (names ++ name ∷ [])
    → is_one_of name names ≡ false → (old.has_zero && (name == 0)) ≡ false → new.has_zero ≡ old.has_zero
    → new.count ≡ length names → new.recent.items ≡ []
    → ((k : ℕ) → place_under new.places k ≡ (if k == name then None else place_under old.places k))
    → KnowsNumbers new names
without-newest old new names name knows fresh no_zero zero_is counted none changed = record {
  count_is = counted;
  places_are = λ k. rw zero_is (go k (k == name) refl);
  recent_is = λ i k place is. no-slot new i k place none is;
}
  where
    go : (k : ℕ) (own : Bool) → (k == name) ≡ own
        → (if old.has_zero && (k == 0) then Some 0 else place_under new.places k) ≡ place_among names k
    go k true e =
        let is : k ≡ name = eqb-true k name e in
        rw (is, no_zero, changed name, eq-eqb name name refl, fresh) refl
    go k false e = rw (changed k, e) (knows.places_are k ∙ rw (places-more names name k fresh, e) refl)

-- ---- limits

-- a new name has a number where fewer than so many have one
pub within-limit : (limit name : ℕ) (names : List ℕ) → is_one_of name names ≡ false → length names < limit
    → is_past limit names name ≡ false
within-limit limit name names fresh few =
    rw fresh (le-ltb limit (length (names ++ name ∷ [])) (omega (arith, few, length-append names (name ∷ []))))

pub past-limit : (limit name : ℕ) (names : List ℕ) → is_one_of name names ≡ false → limit ≤ length names
    → is_past limit names name ≡ true
past-limit limit name names fresh many =
    rw fresh (lt-ltb limit (length (names ++ name ∷ [])) (omega (arith, many, length-append names (name ∷ []))))

-- a name that has a number is within its limit
pub has-number : (numbers : Numbers) (names : List ℕ) (limit name place : ℕ) → KnowsNumbers numbers names
    → length names ≤ limit → found_in numbers name ≡ Some place
    → (is_past limit names name ≡ false) × (place ≡ place_in (with_number (Some name) names) name)
    × KnowsNumbers numbers (with_number (Some name) names)
has-number numbers names limit name place knows le found =
    let old = found-place (found_in numbers name) names name place (knows.places_are name) found in
    rw old.0 (le-ltb limit (length names) le, old.1, knows)

-- a name that had none has the newest number
pub newest : (old new : Numbers) (names : List ℕ) (name place : ℕ) → KnowsNumbers old names
    → found_in old name ≡ None → new.has_zero ≡ old.has_zero
    → place ≡ place_in (with_number (Some name) names) name → KnowsNumbers new (with_number (Some name) names)
    → KnowsNumbers new (names ++ name ∷ []) × (is_one_of name names ≡ false)
    × ((new.has_zero && (name == 0)) ≡ false) × (place ≡ length names)
newest old new names name place knows none zero_is placed more =
    let fresh = found-none (found_in old name) names name (knows.places_are name) none in
    let last : place ≡ place_in (names ++ name ∷ []) name = rw fresh at placed in
    let known : KnowsNumbers new (names ++ name ∷ []) = rw fresh at more in
    (known, fresh, rw zero_is (go (old.has_zero && (name == 0)) refl), last ∙ place-last names name fresh)
  where
    go : (b : Bool) → (old.has_zero && (name == 0)) ≡ b → (old.has_zero && (name == 0)) ≡ false
    go true e = absurd (let some : found_in old name ≡ Some 0 = rw e refl in cc)
    go false e = e
