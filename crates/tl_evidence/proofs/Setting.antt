-- Which events set the values of bytes.
use Rattle.std.proofs.Common.{◌≡◌, ◌≤◌, ◌<◌, ◌+◌, ◌*◌, ◌∙◌, ℕ, zero, suc, Bool, true, false, not, ◌&&◌, ◌||◌}
use Rattle.std.proofs.Common.{List, [], ◌∷◌, ◌++◌, length, refl, sym, ap, arith, subst, drop, get_or, set, inl, inr}
use Rattle.std.proofs.Math.ListN.{drop_of_length-le}
use Rattle.std.proofs.lemmas.Bool.{cases_eq, eq-eqb, ne_eqb}
use Rattle.std.proofs.lemmas.List.{at_drop_more, get_or-set_other, get_or-set_same}
use Rattle.std.specs.Prelude.{◌==◌, if◌then◌else◌, find, is_some, slice_get, Option, Some, None}
use Rattle.tl_beat.specs.declared.beat.Link.{Link}
use Rattle.tl_bytes.specs.declared.telling.Telling.{Telling}
use Rattle.tl_bytes.specs.declared.telling.Told.{Told}
use Rattle.tl_bytes.specs.statement.Bytes.{same_value}
unfoldable use Rattle.tl_bytes.specs.statement.Known.{tellings_at}
use Rattle.tl_commits.specs.statement.Events.{Events}
use Rattle.tl_events.specs.declared.commit.Event.{Event}
use Rattle.tl_evidence.specs.code.Following.{COUNTS, KnowsSet, kept_in}
use Rattle.tl_evidence.specs.declared.set_lines.SetLines.{SetLines}
use Rattle.tl_evidence.specs.statement.SetLines.{comes, is_one, same_telling, set_at}

-- ---- one of the values before

-- the value at this place of the list
pub one-at : (x : Telling) (p : ℕ) (items : List Told) (i : ℕ) (y : Told) → slice_get items i ≡ Some y
    → (y.place == p && same_telling x y.telling) ≡ true → is_one x (tellings_at p items) ≡ true
unfolding tellings_at
one-at x p [] i y is same = absurd cc
one-at x p (z ∷ items) zero y is same =
    subst (λ (u : Told). is_one x (tellings_at p (u ∷ items)) ≡ true) (sym (some-is is)) (here (y.place == p) same)
  where
    some-is : {u v : Told} → Some u ≡ Some v → u ≡ v
    some-is e = cc

    here : (b : Bool) → (b && same_telling x y.telling) ≡ true
        → is_some (find (same_telling x) (if b then y.telling ∷ tellings_at p items else tellings_at p items)) ≡ true
    here true e = rw e refl
    here false e = absurd cc
one-at x p (z ∷ items) (suc i) y is same = behind (z.place == p) (same_telling x z.telling) refl (one-at x p items i y is same)
  where
    behind : (b s : Bool) → same_telling x z.telling ≡ s → is_one x (tellings_at p items) ≡ true
        → is_some (find (same_telling x) (if b then z.telling ∷ tellings_at p items else tellings_at p items)) ≡ true
    behind true true e rest = rw e refl
    behind true false e rest = rw e rest
    behind false s e rest = rest

-- another one
pub one-not : (x : Telling) (p : ℕ) (items : List Told) (i : ℕ) (d : Told) → i < length items
    → ((get_or items i d).place == p && same_telling x (get_or items i d).telling) ≡ false
    → is_one x (tellings_at p (drop i items)) ≡ is_one x (tellings_at p (drop (i + 1) items))
unfolding tellings_at
one-not x p items i d lt other =
    at_drop_more (λ l. is_one x (tellings_at p l)) items i d lt
    ∙ passed ((get_or items i d).place == p) (get_or items i d).telling (tellings_at p (drop (i + 1) items)) other
  where
    passed : (b : Bool) (y : Telling) (l : List Telling) → (b && same_telling x y) ≡ false
        → is_one x (if b then y ∷ l else l) ≡ is_one x l
    passed true y l e = rw e refl
    passed false y l e = refl

pub one-here : (x : Telling) (p : ℕ) (items : List Told) (i : ℕ) (d : Told) → i < length items
    → ((get_or items i d).place == p && same_telling x (get_or items i d).telling) ≡ true
    → is_one x (tellings_at p (drop i items)) ≡ true
unfolding tellings_at
one-here x p items i d lt same =
    at_drop_more (λ l. is_one x (tellings_at p l)) items i d lt
    ∙ found ((get_or items i d).place == p) (get_or items i d).telling (tellings_at p (drop (i + 1) items)) same
  where
    found : (b : Bool) (y : Telling) (l : List Telling) → (b && same_telling x y) ≡ true
        → is_one x (if b then y ∷ l else l) ≡ true
    found true y l e = rw e refl
    found false y l e = absurd cc

pub one-none : (x : Telling) (p : ℕ) (items : List Told) (i : ℕ) → length items ≤ i
    → is_one x (tellings_at p (drop i items)) ≡ false
unfolding tellings_at
one-none x p items i le = rw (drop_of_length-le items le) refl

-- ---- what is kept of a value

eqb-comm : (a b : ℕ) → (a == b) ≡ (b == a)
eqb-comm a b = elim (cases_eq a b) [
  | inl same ↦ rw (eq-eqb a b same, eq-eqb b a (sym same)) refl
  | inr other ↦ rw (ne_eqb a b other, ne_eqb b a (λ e. other (sym e))) refl
]

module _ (counts : List (Option ℕ)) (place value count p v : ℕ) (long : length counts ≡ COUNTS) (small : p < 64)
    (byte : value < 256) (fits : v < 256) where
  abbrev at : ℕ
  at = 256 * place + value

  pub kept-set : at < length counts → kept_in (set counts at (Some count)) p v
      ≡ (if p == place && v == value then Some count else kept_in counts p v)
  kept-set within = elim (cases_eq p place) [
    | inr other ↦ rw (ne_eqb p place other) (get_or-set_other counts at (256 * p + v) (Some count) None
        (λ e. omega (arith, e, other, byte, fits)))
    | inl here ↦ elim (cases_eq v value) [
      | inr other ↦ rw (eq-eqb p place here, ne_eqb v value other)
          (get_or-set_other counts at (256 * p + v) (Some count) None (λ e. omega (arith, e, here, other)))
      | inl same ↦ rw (eq-eqb p place here, eq-eqb v value same, here, same)
          (get_or-set_same counts at (Some count) None within)
    ]
  ]

  pub kept-not : (at < length counts → ⊥)
      → kept_in counts p v ≡ (if p == place && v == value then Some count else kept_in counts p v)
  kept-not past = elim (cases_eq p place) [
    | inr other ↦ rw (ne_eqb p place other) refl
    | inl here ↦ absurd (past (omega (arith, long, here, small, byte)))
  ]

-- ---- values that come

module _ (p v : ℕ) (before : List Telling) where
  -- one value
  pub comes-one : (x : Told) → comes v before (tellings_at p (x ∷ []))
      ≡ (x.place == p && (same_value x.telling.value (Some v) && not (is_one x.telling before)))
  unfolding tellings_at
  comes-one x = go (x.place == p) (same_value x.telling.value (Some v) && not (is_one x.telling before)) refl
    where
      go : (b c : Bool) → (same_value x.telling.value (Some v) && not (is_one x.telling before)) ≡ c
          → comes v before (if b then x.telling ∷ [] else []) ≡ (b && c)
      go true true e = rw e refl
      go true false e = rw e refl
      go false c e = refl

  -- and those after it
  comes-more : (x : Told) (l : List Told)
      → comes v before (tellings_at p (x ∷ l))
      ≡ (comes v before (tellings_at p (x ∷ [])) || comes v before (tellings_at p l))
  unfolding tellings_at
  comes-more x l = go (x.place == p) (same_value x.telling.value (Some v) && not (is_one x.telling before)) refl
    where
      go : (b c : Bool) → (same_value x.telling.value (Some v) && not (is_one x.telling before)) ≡ c
          → comes v before (if b then x.telling ∷ tellings_at p l else tellings_at p l)
          ≡ (comes v before (if b then x.telling ∷ [] else []) || comes v before (tellings_at p l))
      go true true e = rw e refl
      go true false e = rw e refl
      go false c e = refl

  -- what is kept, with one value of a list and those after it
  pub next-kept : (items : List Told) (i count : ℕ) (d : Told) (was is : Option ℕ) (whole : Option ℕ) → i < length items
      → is ≡ (if comes v before (tellings_at p (get_or items i d ∷ [])) then Some count else was)
      → (if comes v before (tellings_at p (drop i items)) then Some count else was) ≡ whole
      → (if comes v before (tellings_at p (drop (i + 1) items)) then Some count else is) ≡ whole
  next-kept items i count d was is whole lt now so_far =
      rw now (go (comes v before (tellings_at p (get_or items i d ∷ []))) (comes v before (tellings_at p (drop (i + 1) items))))
      ∙ ap (λ b. if b then Some count else was)
      (sym (at_drop_more (λ l. comes v before (tellings_at p l)) items i d lt
      ∙ comes-more (get_or items i d) (drop (i + 1) items))) ∙ so_far
    where
      go : (a b : Bool) → (if b then Some count else (if a then Some count else was))
          ≡ (if a || b then Some count else was)
      go true true = refl
      go true false = refl
      go false true = refl
      go false false = refl

  pub last-kept : (items : List Told) (i count : ℕ) (was whole : Option ℕ) → length items ≤ i
      → (if comes v before (tellings_at p (drop i items)) then Some count else was) ≡ whole → was ≡ whole
  unfolding tellings_at
  last-kept items i count was whole past so_far = rw (drop_of_length-le items past) at so_far

-- what is kept of one value
module _ (told : Told) (before : List Told) (p v : ℕ) where
  pub none-new : (count : ℕ) (was : Option ℕ) → told.telling.value ≡ None
      → was ≡ (if comes v (tellings_at p before) (tellings_at p (told ∷ [])) then Some count else was)
  none-new count was none = rw (comes-one p v (tellings_at p before) told, none) (go (told.place == p))
    where
      go : (b : Bool) → was ≡ (if b && false then Some count else was)
      go true = refl
      go false = refl

  pub not-new : (count : ℕ) (was : Option ℕ) → is_one told.telling (tellings_at told.place before) ≡ true
      → was ≡ (if comes v (tellings_at p before) (tellings_at p (told ∷ [])) then Some count else was)
  not-new count was old = rw (comes-one p v (tellings_at p before) told) (elim (cases_eq told.place p) [
    | inl here ↦ rw (eq-eqb told.place p here, ← here, old) (go (same_value told.telling.value (Some v)))
    | inr other ↦ rw (ne_eqb told.place p other) refl
  ])
    where
      go : (b : Bool) → was ≡ (if b && false then Some count else was)
      go true = refl
      go false = refl

  pub is-new : (count value : ℕ) (was : Option ℕ) → told.telling.value ≡ Some value
      → is_one told.telling (tellings_at told.place before) ≡ false
      → (if p == told.place && v == value then Some count else was)
      ≡ (if comes v (tellings_at p before) (tellings_at p (told ∷ [])) then Some count else was)
  is-new count value was some new =
      ap (λ (b : Bool). if b then Some count else was) (elim (cases_eq told.place p) [
        | inl here ↦
            let fresh : is_one told.telling (tellings_at p before) ≡ false =
            ap (λ q. is_one told.telling (tellings_at q before)) (sym here) ∙ new in
            let value_is : same_value told.telling.value (Some v) ≡ (value == v) =
            ap (λ (o : Option ℕ). same_value o (Some v)) some in
            rw (eq-eqb p told.place (sym here), eq-eqb told.place p here, value_is, fresh, eqb-comm v value) (go (value == v))
        | inr other ↦ rw (ne_eqb p told.place (λ e. other (sym e)), ne_eqb told.place p other) refl
      ] ∙ sym (comes-one p v (tellings_at p before) told))
    where
      go : (b : Bool) → b ≡ (b && true)
      go true = refl
      go false = refl

-- none of these, and one more
pub none-more : (counts : List (Option ℕ)) → ((at : ℕ) → get_or counts at None ≡ None) → (at : ℕ)
    → get_or (counts ++ None ∷ []) at None ≡ None
none-more [] none zero = refl
none-more [] none (suc i) = refl
none-more (x ∷ counts) none zero = none zero
none-more (x ∷ counts) none (suc i) = none-more counts (λ j. none (suc j)) i

-- ---- all that is kept

module _ {w : ℕ} (values : ℕ → Events w → List Telling) where
  -- before any event
  pub set-fresh : (s : SetLines) → length s.counts.items ≡ COUNTS
      → ((i : ℕ) → i < COUNTS → get_or s.counts.items i None ≡ None)
      → ((place : ℕ) → place < 64 → tellings_at place s.values.items ≡ values place []) → KnowsSet s values []
  unfolding set_at
  set-fresh s long none now = record {
    long = long;
    now_is = now;
    set_is = λ place v small fits. none (256 * place + v) (omega (arith, small, fits));
  }

  -- with one more event
  pub set-next : (old new : SetLines) (count : ℕ) (x : Link × Event w) (e : Events w) → KnowsSet old values e
      → count ≡ length e → length new.counts.items ≡ COUNTS
      → ((p v : ℕ) → p < 64 → v < 256 → kept_in new.counts.items p v
      ≡ (if comes v (tellings_at p old.values.items) (tellings_at p new.values.items) then Some count
      else kept_in old.counts.items p v))
      → ((place : ℕ) → place < 64 → tellings_at place new.values.items ≡ values place (x ∷ e))
      → KnowsSet new values (x ∷ e)
  unfolding set_at
  set-next old new count x e k at long kept now = record {
    long = long;
    now_is = now;
    set_is = λ place v small fits. kept place v small fits
        ∙ rw (k.now_is place small, now place small, k.set_is place v small fits, at) refl;
  }
