-- What a read may bring, with values that are offered to it one by one.
use Rattle.tl_bytes.proofs.Imports.{Telling, Told, Write, told_as, tellings_at}
use Rattle.std.proofs.Common.{◌≡◌, ℕ, Bool, true, false, ◌&&◌, ◌||◌, ◌+◌, ◌<◌, ◌≤◌, List, [], ◌∷◌, ◌++◌, refl, sym, ap}
use Rattle.std.proofs.Common.{ap₂, ◌∙◌, arith, inl, inr, drop, get_or, length}
use Rattle.std.specs.Prelude.{if◌then◌else◌, Option, Some, None, is_some, find, nat_lt, ◌==◌}
use Rattle.std.proofs.lemmas.Bool.{and_parts, cases_Bool, cases_eq, cases_lt, eq-eqb, eqb-true, le-ltb, lt-ltb, ne_eqb}
use Rattle.std.proofs.lemmas.Bool.{or_cases, or_left, or_right}
use Rattle.std.proofs.lemmas.List.{at_drop_more, at_drop_all}
use Rattle.std.specs.Global.{Vec}
use Rattle.tl_bytes.specs.code.Possible.{covers_first, has, is_covered}
use Rattle.tl_bytes.{specs.declared.read_bytes.ReadBytes.ReadBytes, specs.declared.telling.Possible.Possible}
use Rattle.tl_bytes.specs.declared.known_bytes.KnownBytes.{KnownBytes}
use Rattle.tl_bytes.specs.statement.Bytes.{could_be}
use Rattle.tl_bytes.specs.statement.KnownBytes.{known_at}
use Rattle.tl_bytes.specs.statement.Known.{is_among, is_listed, may_bring}
use Rattle.tl_bytes.specs.code.Tellings.{covers_value, is_written, leaves, left_as, value_at}

-- ---- truths

or_assoc : (a b c : Bool) → ((a || b) || c) ≡ (a || (b || c))
or_assoc true b c = refl
or_assoc false b c = refl

or_false : (a : Bool) → a ≡ (a || false)
or_false true = refl
or_false false = refl

pub either-some : {X : Type 0} (b : Bool) (x : X) (o : Option X) → is_some (if b then Some x else o) ≡ (b || is_some o)
either-some true x o = refl
either-some false x o = refl

-- ---- one value more

found-last : {X : Type 0} (test : X → Bool) (xs : List X) (x : X)
    → is_some (find test (xs ++ x ∷ [])) ≡ (is_some (find test xs) || test x)
found-last test [] x = either-some (test x) x None ∙ sym (or_false (test x))
found-last test (y ∷ xs) x = elim (cases_Bool (test y)) [
  | inl here ↦ rw here refl
  | inr other ↦ rw other (found-last test xs x)
]

-- one that is kept beside the others
pub offered-more : (old new : ReadBytes) (place : ℕ) (value : Option ℕ) (at v : ℕ) → new.first ≡ old.first
    → new.more.items ≡ old.more.items ++ record { place = place; value = value } ∷ []
    → may_bring new at v ≡ (may_bring old at v || ((place == at) && could_be v value))
offered-more old new place value at v first more =
    ap₂ (λ f m. is_among f at v || is_listed at v m) first more
    ∙ ap (λ b. is_among old.first at v || b)
    (found-last (λ x. (x.place == at) && could_be v x.value) old.more.items (record { place = place; value = value }))
    ∙ sym (or_assoc (is_among old.first at v) (is_listed at v old.more.items) ((place == at) && could_be v value))

covers-could : (v : ℕ) (a b : Option ℕ) → covers_value a b ≡ true → could_be v b ≡ true → could_be v a ≡ true
covers-could v None b e f = refl
covers-could v (Some u) None e f = absurd cc
covers-could v (Some u) (Some z) e f = rw (eqb-true u z e) f

covered-listed : (place v : ℕ) (value : Option ℕ) (more : List Possible) → is_covered place value more ≡ true
    → could_be v value ≡ true → is_listed place v more ≡ true
covered-listed place v value [] e could = absurd cc
covered-listed place v value (x ∷ more) e could = elim (cases_Bool ((x.place == place) && covers_value x.value value)) [
  | inl here ↦
      let parts = and_parts (x.place == place) (covers_value x.value value) here in
      rw (parts.0, covers-could v x.value value parts.1 could) refl
  | inr other ↦ either-some ((x.place == place) && could_be v x.value) x
      (find (λ y. (y.place == place) && could_be v y.value) more) ∙ or_right ((x.place == place) && could_be v x.value)
      (is_listed place v more) (covered-listed place v value more (rw other at e) could)
]

-- what it has may be brought
covers-among : (first : Option KnownBytes) (place v : ℕ) (value : Option ℕ) → covers_first first place value ≡ true
    → could_be v value ≡ true → is_among first place v ≡ true
covers-among None place v value e could = absurd cc
covers-among (Some values) place v value e could = covers-could v (known_at values place) value e could

has-brought : (read : ReadBytes) (place v : ℕ) (value : Option ℕ) → has read place value ≡ true
    → could_be v value ≡ true → may_bring read place v ≡ true
has-brought read place v value e could =
    elim (or_cases (covers_first read.first place value) (is_covered place value read.more.items) e) [
      | inl first ↦ or_left (is_among read.first place v) (is_listed place v read.more.items)
          (covers-among read.first place v value first could)
      | inr other ↦ or_right (is_among read.first place v) (is_listed place v read.more.items)
          (covered-listed place v value read.more.items other could)
    ]

-- so one that it has is left out
pub offered-again : (read : ReadBytes) (place : ℕ) (value : Option ℕ) (at v : ℕ) → has read place value ≡ true
    → may_bring read at v ≡ (may_bring read at v || ((place == at) && could_be v value))
offered-again read place value at v e = elim (cases_Bool ((place == at) && could_be v value)) [
  | inr other ↦ rw other (or_false (may_bring read at v))
  | inl here ↦
      let parts = and_parts (place == at) (could_be v value) here in
      let brought : may_bring read at v ≡ true =
      rw (← eqb-true place at parts.0) (has-brought read place v value e parts.1) in
      brought ∙ sym (or_left (may_bring read at v) ((place == at) && could_be v value) brought)
]

-- ---- place by place

module _ (start : Bool) (could : ℕ → Bool) where
  -- with those that are offered of the places before this one
  abbrev pub with_first : ℕ → ℕ → Bool
  with_first k at = start || (nat_lt at k && could at)

  pub none-first : (at : ℕ) → start ≡ with_first 0 at
  none-first at = rw (le-ltb at 0 (omega arith)) (or_false start)

  pub all-first : (k at : ℕ) → at < k → with_first k at ≡ (start || could at)
  all-first k at lt = rw (lt-ltb at k lt) refl

  same-first : (k at : ℕ) → (at ≡ k → ⊥) → with_first k at ≡ with_first (k + 1) at
  same-first k at ne = elim (cases_lt at k) [
    | inl lt ↦ rw (lt-ltb at k lt, lt-ltb at (k + 1) (omega arith)) refl
    | inr le ↦
        let less : k + 1 ≤ at = omega (arith, ne) in
        rw (le-ltb at k le, le-ltb at (k + 1) less) refl
  ]

  pub one-offered : (k at : ℕ) (now new : Bool) → now ≡ with_first k at → new ≡ (now || ((k == at) && could k))
      → new ≡ with_first (k + 1) at
  one-offered k at now new so_far more = elim (cases_eq k at) [
    | inl same ↦ more ∙ rw (
      so_far,
      same,
      le-ltb at at (omega arith),
      eq-eqb at at refl,
      lt-ltb at (at + 1)
          (omega arith),
    ) (ap (λ b. b || could at) (sym (or_false start)))
    | inr ne ↦ more ∙ rw (so_far, ne_eqb k at ne) (sym (or_false (with_first k at)) ∙ same-first k at (λ e. ne (sym e)))
  ]

  pub one-kept : (k at : ℕ) (now : Bool) → now ≡ with_first k at → could k ≡ false → now ≡ with_first (k + 1) at
  one-kept k at now so_far off = elim (cases_eq k at) [
    | inl same ↦
        so_far ∙ rw (same, le-ltb at at (omega arith), lt-ltb at (at + 1) (omega arith), ap could (sym same) ∙ off) refl
    | inr ne ↦ so_far ∙ same-first k at (λ e. ne (sym e))
  ]

pub written-leaves : (write : Write) (place v : ℕ) (value : Option ℕ) → is_written write place ≡ true
    → value ≡ value_at write place → could_be v value ≡ leaves place v write
written-leaves write place v value on is = ap (could_be v) is ∙ sym (rw on refl)

pub unwritten : (write : Write) (place v : ℕ) → is_written write place ≡ false → leaves place v write ≡ false
unwritten write place v off = rw off refl

-- ---- one after another

pub offered-next : (now new one rest all whole : Bool) → (now || all) ≡ whole → all ≡ (one || rest)
    → new ≡ (now || one) → (new || rest) ≡ whole
offered-next now new one rest all whole so_far split more =
    ap (λ b. b || rest) more ∙ or_assoc now one rest ∙ ap (λ b. now || b) (sym split) ∙ so_far

pub offered-all : (now all whole : Bool) → (now || all) ≡ whole → all ≡ false → now ≡ whole
offered-all now all whole so_far none = or_false now ∙ ap (λ b. now || b) (sym none) ∙ so_far

pub told-first : (at v : ℕ) (told : List Told) (i : ℕ) (d : Told) → i < length told
    → told_as v (tellings_at at (drop i told))
    ≡ ((((get_or told i d).place == at) && could_be v (get_or told i d).telling.value)
    || told_as v (tellings_at at (drop (i + 1) told)))
unfolding tellings_at
told-first at v told i d lt =
    at_drop_more (λ l. told_as v (tellings_at at l)) told i d lt
    ∙ one ((get_or told i d).place == at) (get_or told i d).telling (tellings_at at (drop (i + 1) told))
  where
    one : (b : Bool) (e : Telling) (l : List Telling)
        → told_as v (if b then e ∷ l else l) ≡ ((b && could_be v e.value) || told_as v l)
    one true e l = either-some (could_be v e.value) e (find (λ x. could_be v x.value) l)
    one false e l = refl

pub told-none : (at v : ℕ) (told : List Told) (i : ℕ) → length told ≤ i
    → told_as v (tellings_at at (drop i told)) ≡ false
unfolding tellings_at
told-none at v told i le = at_drop_all (λ l. told_as v (tellings_at at l)) told i le

pub left-first : (at v : ℕ) (writes : List Write) (i : ℕ) (d : Write) → i < length writes
    → left_as at v (drop i writes) ≡ (leaves at v (get_or writes i d) || left_as at v (drop (i + 1) writes))
left-first at v writes i d lt =
    at_drop_more (left_as at v) writes i d lt
    ∙ either-some (leaves at v (get_or writes i d)) (get_or writes i d) (find (leaves at v) (drop (i + 1) writes))

pub left-none : (at v : ℕ) (writes : List Write) (i : ℕ) → length writes ≤ i → left_as at v (drop i writes) ≡ false
left-none at v writes i le = at_drop_all (left_as at v) writes i le

-- ---- all that is told

pub told-either : (v : ℕ) (e : Telling) (l : List Telling) → (could_be v e.value || told_as v l) ≡ told_as v (e ∷ l)
told-either v e l = sym (either-some (could_be v e.value) e (find (λ x. could_be v x.value) l))

-- in the first window what was told last
pub first-found : (old new : ReadBytes) (values : KnownBytes) (at v : ℕ) (value : Option ℕ)
    → is_some old.first ≡ false → new.first ≡ Some values → new.more ≡ old.more → known_at values at ≡ value
    → may_bring new at v ≡ (may_bring old at v || could_be v value)
first-found old new values at v value none first same last =
    ap₂ (λ f m. is_among f at v || is_listed at v m) first (ap (λ (m : Vec Possible). m.items) same)
    ∙ ap (λ o. could_be v o || is_listed at v old.more.items) last
    ∙ swapped (could_be v value) (is_listed at v old.more.items)
    ∙ ap (λ b. (b || is_listed at v old.more.items) || could_be v value) (sym (unmet old.first none))
  where
    unmet : (o : Option KnownBytes) → is_some o ≡ false → is_among o at v ≡ false
    unmet None e = refl
    unmet (Some values) e = absurd cc

    swapped : (a b : Bool) → (a || b) ≡ ((false || b) || a)
    swapped true true = refl
    swapped true false = refl
    swapped false b = or_false b

-- the others, and what is written
pub found-all : (before latest others written one two all told : Bool) → one ≡ (before || latest)
    → two ≡ (one || others) → all ≡ (two || written) → (latest || others) ≡ told → all ≡ (before || (told || written))
found-all before latest others written one two all told first second third same =
    third ∙ ap (λ b. b || written) (second ∙ ap (λ b. b || others) first ∙ or_assoc before latest others
    ∙ ap (λ b. before || b) same) ∙ or_assoc before told written
