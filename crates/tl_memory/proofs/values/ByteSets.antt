-- Sets of values of a byte, with more of them.
use Rattle.std.proofs.Common.{◌≡◌, ℕ, Bool, true, false, ◌||◌, ◌<◌, ◌≤◌, ◌^◌, ◌*◌, ◌%◌, ◌/◌, ◌+◌, ◌≢◌, ◌-◌, List, ◌∷◌, get_or, set}
use Rattle.std.proofs.Common.{length, refl, sym, ap, ap₂, ◌∙◌, arith, inl, inr, drop, replicate}
use Rattle.std.specs.Prelude.{if◌then◌else◌, ◌==◌, find, is_some, nat_lt, Option, Some}
use Rattle.std.specs.Int.{w64}
use Rattle.std.specs.Int.Bits.{bit_or}
use Rattle.std.proofs.Math.ListN.{drop_of_length-le}
use Rattle.std.proofs.lemmas.Bool.{cases_eq, cases_lt, eq-eqb, le-ltb, lt-ltb, ne_eqb}
use Rattle.std.proofs.lemmas.List.{at_drop_more, get_or-replicate, get_or-set_same, get_or-set_other}
use Rattle.std.proofs.lemmas.Nat.Bits.{bit_at_ones, bit_at_set_other, bit_at_set_same}
use Rattle.tl_burst.specs.statement.Burst.{bit}
use Rattle.tl_memory.specs.code.ByteSet.{has, has_at, nothing}
use Rattle.tl_memory.specs.declared.byte_set.ByteSet.{ByteSet}
use Rattle.tl_bytes.specs.declared.telling.Telling.{Telling}
use Rattle.tl_bytes.specs.declared.telling.Told.{Told}
use Rattle.tl_bytes.specs.declared.write.Write.{Write}
use Rattle.tl_bytes.specs.code.Tellings.{is_written, leaves, value_at}
use Rattle.tl_bytes.specs.statement.Bytes.{could_be, told_as}
unfoldable use Rattle.tl_bytes.specs.statement.Known.{tellings_at}

or-true : (b : Bool) → (b || true) ≡ true
or-true true = refl
or-true false = refl

or-false : (b : Bool) → (b || false) ≡ b
or-false true = refl
or-false false = refl

or-assoc : (a b c : Bool) → ((a || b) || c) ≡ (a || (b || c))
or-assoc true b c = refl
or-assoc false b c = refl

-- a set of all
pub has-all : (full : ByteSet) (v : ℕ) → full.words ≡ replicate 4 (2 ^ 64 - 1) → v < 256 → has full v ≡ true
has-all full v all lt =
    let word : get_or full.words (v / 64) 0 ≡ 2 ^ 64 - 1 =
    ap (λ (l : List ℕ). get_or l (v / 64) 0) all ∙ get_or-replicate 4 (v / 64) (2 ^ 64 - 1) 0 (omega arith) in
    rw word (ap (λ n. n == 1) (bit_at_ones 64 (v % 64) (omega arith)))

-- one value more
pub has-one : (old new : ByteSet) (byte v : ℕ) → byte < 256 → v < 256 → length old.words ≡ 4
    → new.words
    ≡ set old.words (byte / 64) (bit_or (get_or old.words (byte / 64) 0) (1 * 2 ^ (byte % 64) % 2 ^ 64))
    → has new v ≡ (has old v || v == byte)
has-one old new byte v fits small long words = elim (cases_eq v byte) [
  | inl same ↦
      let word : get_or new.words (v / 64) 0 ≡ bit_or (get_or old.words (byte / 64) 0) (1 * 2 ^ (byte % 64) % 2 ^ 64) =
      rw (words, same) (get_or-set_same old.words (byte / 64) _ 0 (omega (arith, long))) in
      let on : has new v ≡ true = rw (word, same)
      (ap (λ n. n == 1) (bit_at_set_same w64 (get_or old.words (byte / 64) 0) (byte % 64) (omega arith))) in
      rw (eq-eqb v byte same) (on ∙ sym (or-true (has old v)))
  | inr ne ↦ rw (ne_eqb v byte ne) (others ne ∙ sym (or-false (has old v)))
]
  where
    others : v ≢ byte → has new v ≡ has old v
    others ne = elim (cases_eq (v / 64) (byte / 64)) [
      | inl same ↦
          let word : get_or new.words (v / 64) 0
          ≡ bit_or (get_or old.words (byte / 64) 0) (1 * 2 ^ (byte % 64) % 2 ^ 64) =
          rw (words, same) (get_or-set_same old.words (byte / 64) _ 0 (omega (arith, long))) in
          let apart : v % 64 ≢ byte % 64 = λ e. ne (omega (arith, same, e)) in
          rw word (ap (λ n. n == 1) (bit_at_set_other w64 (get_or old.words (byte / 64) 0) (byte % 64) (omega arith)
          (v % 64) apart) ∙ ap (λ i. bit (get_or old.words i 0) (v % 64)) (sym same))
      | inr other ↦
          let word : get_or new.words (v / 64) 0 ≡ get_or old.words (v / 64) 0 =
          rw words (get_or-set_other old.words (byte / 64) (v / 64) _ 0 other) in
          ap (λ n. bit n (v % 64)) word
    ]

-- the possible values of a place, one after the other
pub told-next : (p v : ℕ) (items : List Told) (i : ℕ) (d : Told) (before now : Bool) → i < length items
    → (get_or items i d).place ≡ p → now ≡ (before || could_be v (get_or items i d).telling.value)
    → (now || told_as v (tellings_at p (drop (i + 1) items))) ≡ (before || told_as v (tellings_at p (drop i items)))
unfolding tellings_at
told-next p v items i d before now lt same is =
    let next : told_as v (tellings_at p (drop i items))
    ≡ (could_be v (get_or items i d).telling.value || told_as v (tellings_at p (drop (i + 1) items))) =
    at_drop_more (λ l. told_as v (tellings_at p l)) items i d lt
    ∙ rw (eq-eqb _ p same) (first (get_or items i d).telling (tellings_at p (drop (i + 1) items))) in
    rw (is, next) (or-assoc before (could_be v (get_or items i d).telling.value)
    (told_as v (tellings_at p (drop (i + 1) items))))
  where
    first : (e : Telling) (l : List Telling) → told_as v (e ∷ l) ≡ (could_be v e.value || told_as v l)
    first e l = go (could_be v e.value)
      where
        go : (b : Bool) → is_some (if b then Some e else find (λ x. could_be v x.value) l)
            ≡ (b || is_some (find (λ x. could_be v x.value) l))
        go true = refl
        go false = refl

pub told-apart : (p v : ℕ) (items : List Told) (i : ℕ) (d : Told) → i < length items
    → ((get_or items i d).place ≡ p → ⊥)
    → told_as v (tellings_at p (drop (i + 1) items)) ≡ told_as v (tellings_at p (drop i items))
unfolding tellings_at
told-apart p v items i d lt other =
    sym (at_drop_more (λ l. told_as v (tellings_at p l)) items i d lt ∙ rw (ne_eqb _ p other) refl)

pub told-none : (p v : ℕ) (items : List Told) (i : ℕ) (before : Bool) → length items ≤ i
    → (before || told_as v (tellings_at p (drop i items))) ≡ before
unfolding tellings_at
told-none p v items i before le = rw (drop_of_length-le items le) (or-false before)

-- each value, with one that is possible
pub any-or : (before : Bool) {each now : Bool} → each ≡ true → true ≡ now → each ≡ (before || now)
any-or before all is = all ∙ sym (ap (λ b. before || b) (sym is) ∙ or-true before)

-- no value more
pub none-or : (before : Bool) {now : Bool} → now ≡ false → before ≡ (before || now)
none-or before off = sym (ap (λ b. before || b) off ∙ or-false before)

-- ---- sets by their places

-- a place that isn't the next one is as far as before
past-other : (i at : ℕ) → i ≢ at → nat_lt i at ≡ nat_lt i (at + 1)
past-other i at apart = elim (cases_lt i at) [
  | inl below ↦ lt-ltb i at below ∙ sym (lt-ltb i (at + 1) (omega (arith, below)))
  | inr above ↦ le-ltb i at above ∙ sym (le-ltb i (at + 1) (omega (arith, above, apart)))
]

-- one of them has the next of the possible values
pub set-told : (sets : List ByteSet) (next : ByteSet) (first at i v idx : ℕ) (told : List Told) (d : Told)
    → at < length sets → idx < length told → first ≤ (get_or told idx d).place
    → at ≡ (get_or told idx d).place - first → has next v ≡ (has_at sets at v || could_be v (get_or told idx d).telling.value)
    → (has_at (set sets at next) i v || told_as v (tellings_at (first + i) (drop (idx + 1) told)))
    ≡ (has_at sets i v || told_as v (tellings_at (first + i) (drop idx told)))
set-told sets next first at i v idx told d within lt from at_is more = elim (cases_eq i at) [
  | inl same ↦ rw same (told-next (first + at) v told idx d (has_at sets at v) (has_at (set sets at next) at v) lt
      (omega (arith, from, at_is))
      (ap (λ s. has s v) (get_or-set_same sets at next nothing within) ∙ more))
  | inr apart ↦
      let other : (get_or told idx d).place ≢ first + i = λ e. apart (omega (arith, e, at_is)) in
      ap₂ (λ a b. a || b) (ap (λ s. has s v) (get_or-set_other sets at i next nothing apart))
      (told-apart (first + i) v told idx d lt other)
]

-- none has one of a place before theirs, or past them
pub set-before : (sets : List ByteSet) (first i v idx : ℕ) (told : List Told) (d : Told) → idx < length told
    → (first ≤ (get_or told idx d).place → ⊥)
    → (has_at sets i v || told_as v (tellings_at (first + i) (drop (idx + 1) told)))
    ≡ (has_at sets i v || told_as v (tellings_at (first + i) (drop idx told)))
set-before sets first i v idx told d lt before =
    let other : (get_or told idx d).place ≢ first + i = λ e. before (omega (arith, e)) in
    ap (λ b. has_at sets i v || b) (told-apart (first + i) v told idx d lt other)

pub set-past : (sets : List ByteSet) (first at i v idx count : ℕ) (told : List Told) (d : Told) → idx < length told
    → first ≤ (get_or told idx d).place → at ≡ (get_or told idx d).place - first → count ≤ at → i < count
    → (has_at sets i v || told_as v (tellings_at (first + i) (drop (idx + 1) told)))
    ≡ (has_at sets i v || told_as v (tellings_at (first + i) (drop idx told)))
set-past sets first at i v idx count told d lt from at_is past few =
    let other : (get_or told idx d).place ≢ first + i = λ e. omega (arith, e, at_is, past, few) in
    ap (λ b. has_at sets i v || b) (told-apart (first + i) v told idx d lt other)

-- one of them is replaced, and those before it were
pub set-next : (sets : List ByteSet) (next : ByteSet) (at i v : ℕ) (now before : Bool) → at < length sets
    → has_at sets i v ≡ (if nat_lt i at then now else before) → (i ≡ at → has next v ≡ now)
    → has_at (set sets at next) i v ≡ (if nat_lt i (at + 1) then now else before)
set-next sets next at i v now before within was is = elim (cases_eq i at) [
  | inl same ↦
      let past : i < at + 1 = omega (arith, same) in
      rw (lt-ltb i (at + 1) past) (ap (λ j. has_at (set sets at next) j v) same
      ∙ ap (λ s. has s v) (get_or-set_same sets at next nothing within) ∙ is same)
  | inr apart ↦ ap (λ s. has s v) (get_or-set_other sets at i next nothing apart) ∙ was
      ∙ ap (λ b. if b then now else before) (past-other i at apart)
]

-- one of them stays
pub set-left : (at i : ℕ) (there now before : Bool) → there ≡ (if nat_lt i at then now else before)
    → (i ≡ at → before ≡ now) → there ≡ (if nat_lt i (at + 1) then now else before)
set-left at i there now before was is = elim (cases_eq i at) [
  | inl same ↦
      let past : i < at + 1 = omega (arith, same) in
      let not_yet : at ≤ i = omega (arith, same) in
      rw (lt-ltb i (at + 1) past) (was ∙ rw (le-ltb i at not_yet) (is same))
  | inr apart ↦ was ∙ ap (λ b. if b then now else before) (past-other i at apart)
]

-- the place of the next one is written
pub set-written : (sets first : List ByteSet) (next : ByteSet) (at place v : ℕ) (write : Write) (value : Option ℕ)
    → at < length sets → is_written write at ≡ true → value ≡ value_at write at
    → has next v ≡ (has_at sets at v || could_be v value)
    → has_at sets place v
    ≡ (if nat_lt place at then (has_at first place v || leaves place v write) else has_at first place v)
    → has_at (set sets at next) place v
    ≡ (if nat_lt place (at + 1) then (has_at first place v || leaves place v write) else has_at first place v)
set-written sets first next at place v write value within on value_is more was =
    set-next sets next at place v (has_at first place v || leaves place v write) (has_at first place v) within was
    (λ same.
    let one : has_at sets at v ≡ has_at first place v =
    ap (λ i. has_at sets i v) (sym same) ∙ was ∙ rw (le-ltb place at (omega (arith, same))) refl in
    let there : could_be v (value_at write at) ≡ leaves place v write = rw (same, on) refl in
    more ∙ ap₂ (λ a b. a || b) one (ap (could_be v) value_is ∙ there))

-- and isn't
pub set-unwritten : (sets first : List ByteSet) (at place v : ℕ) (write : Write) → is_written write at ≡ false
    → has_at sets place v
    ≡ (if nat_lt place at then (has_at first place v || leaves place v write) else has_at first place v)
    → has_at sets place v
    ≡ (if nat_lt place (at + 1) then (has_at first place v || leaves place v write) else has_at first place v)
set-unwritten sets first at place v write off was =
    set-left at place (has_at sets place v) (has_at first place v || leaves place v write) (has_at first place v) was
    (λ same. rw (same, off) (sym (or-false (has_at first at v))))
