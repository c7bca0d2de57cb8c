-- Bytes by their places, of which some are known.
use Rattle.std.proofs.Common.{◌≡◌, ℕ, Bool, true, false, ◌&&◌, ◌<◌, ◌^◌, ◌*◌, ◌%◌, ◌-◌, ◌+◌, ◌/◌, ◌≤◌, ◌≢◌, ◌++◌}
use Rattle.std.proofs.Common.{List, get_or, set}
use Rattle.std.proofs.Common.{length, refl, sym, ap, ◌∙◌, arith, inl, inr, take, drop, slice_get}
use Rattle.std.specs.Prelude.{if◌then◌else◌, ◌==◌, max, nat_le, nat_lt, None, Some}
use Rattle.std.specs.Int.{bit_at}
use Rattle.std.proofs.Math.Bool.{and-false}
use Rattle.std.proofs.Math.ListN.{get_or-append}
use Rattle.std.specs.Int.{w64}
use Rattle.std.specs.Int.Bits.{bit_or}
use Rattle.std.proofs.lemmas.Bool.{and_parts, cases_eq, cases_lt, eq-eqb, eqb-false, eqb-true, le-leb, le-ltb}
use Rattle.std.proofs.lemmas.Bool.{leb-true, lt-leb}
use Rattle.std.proofs.lemmas.Bool.{lt-ltb, ltb-true, ne_eqb}
use Rattle.std.proofs.lemmas.List.{get_or-append_right, get_or-drop, get_or-set_same, get_or-set_other, get_or-take}
use Rattle.std.proofs.lemmas.List.{length-take-le}
use Rattle.std.proofs.lemmas.Option.{slice_get-get_or}
use Rattle.std.proofs.lemmas.Nat.Bits.{bit_at_ones, bit_at_or, bit_at_set_other, bit_at_set_same, bit_at-lt}
use Rattle.std.proofs.lemmas.Nat.Bits.{bit_at-zero}
use Rattle.tl_burst.specs.statement.Burst.{bit}
use Rattle.tl_bytes.specs.declared.known_bytes.KnownBytes.{KnownBytes}
use Rattle.tl_bytes.specs.statement.KnownBytes.{known_at}

-- a place whose bit is set, one whose bit isn't, and one past the block
pub known-here : (b : KnownBytes) (p : ℕ) → p < 64 → b.known / 2 ^ p % 2 ≡ 1 → Some (get_or b.bytes p 0) ≡ known_at b p
unfolding known_at
known-here b p lt on = rw (lt-ltb p 64 lt, eq-eqb (b.known / 2 ^ p % 2) 1 on) refl

pub unknown-here : (b : KnownBytes) (p : ℕ) → p < 64 → b.known / 2 ^ p % 2 ≢ 1 → None ≡ known_at b p
unfolding known_at
unknown-here b p lt off = rw (lt-ltb p 64 lt, ne_eqb (b.known / 2 ^ p % 2) 1 off) refl

pub known-past : (b : KnownBytes) (p : ℕ) → 64 ≤ p → None ≡ known_at b p
unfolding known_at
known-past b p le = rw (le-ltb p 64 le) refl

-- where no bit is set none is known
pub known-none : (b : KnownBytes) (p : ℕ) → b.known ≡ 0 → known_at b p ≡ None
unfolding known_at
known-none b p none = elim (cases_lt p 64) [
  | inl lt ↦ rw (lt-ltb p 64 lt, none, ap (λ n. n == 1) (bit_at-zero p)) refl
  | inr le ↦ rw (le-ltb p 64 le) refl
]

-- where all bits are set each is
pub known-all : (b : KnownBytes) (p : ℕ) → b.known ≡ 2 ^ 64 - 1 → p < 64 → known_at b p ≡ Some (get_or b.bytes p 0)
unfolding known_at
known-all b p all lt =
    let set : bit (2 ^ 64 - 1) p ≡ true = ap (λ n. n == 1) (bit_at_ones 64 p lt) in
    rw (lt-ltb p 64 lt, all, set) refl

-- with one more
pub known-set : (old new : KnownBytes) (place byte p : ℕ) → place < 64 → length old.bytes ≡ 64
    → new.bytes ≡ set old.bytes place byte → new.known ≡ bit_or old.known (1 * 2 ^ place % 2 ^ 64)
    → known_at new p ≡ (if p == place then Some byte else known_at old p)
unfolding known_at
known-set old new place byte p lt long bytes known = elim (cases_eq p place) [
  | inl same ↦
      let on : bit new.known place ≡ true = rw known (ap (λ n. n == 1) (bit_at_set_same w64 old.known place lt)) in
      rw (eq-eqb p place same, same, lt-ltb place 64 lt, on)
      (ap Some (ap (λ l. get_or l place 0) bytes ∙ get_or-set_same old.bytes place byte 0 (omega (arith, long, lt))))
  | inr ne ↦
      let other : bit new.known p ≡ bit old.known p = rw known (ap (λ n. n == 1) (bit_at_set_other w64 old.known place lt p ne)) in
      rw (ne_eqb p place ne, other)
      (ap (λ v. if nat_lt p 64 && bit old.known p then Some v else None)
      (ap (λ l. get_or l p 0) bytes ∙ get_or-set_other old.bytes place p byte 0 ne))
]

-- with those of a beat

-- it has its lanes at their places, and the others stay
put_at : (old lanes : List ℕ) (first p : ℕ) → first + length lanes ≤ length old
    → get_or (take first old ++ (lanes ++ drop (first + length lanes) old)) p 0
    ≡ (if nat_le first p && nat_lt p (first + length lanes) then get_or lanes (p - first) 0 else get_or old p 0)
put_at old lanes first p room = elim (cases_lt p first) [
  | inl below ↦ rw (lt-leb first p below)
      (get_or-append (take first old) (lanes ++ drop (first + length lanes) old) 0 p
      (omega (arith, below, front)) ∙ get_or-take first old p 0 below)
  | inr from ↦ get_or-append_right (take first old) (lanes ++ drop (first + length lanes) old) first p 0 front from
      ∙ elim (cases_lt p (first + length lanes)) [
        | inl inside ↦ rw (le-leb first p from, lt-ltb p (first + length lanes) inside)
            (get_or-append lanes (drop (first + length lanes) old) 0 (p - first) (omega (arith, from, inside)))
        | inr past ↦
            let back : first + length lanes + (p - first - length lanes) ≡ p = omega (arith, from, past) in
            rw (le-leb first p from, le-ltb p (first + length lanes) past)
            (get_or-append_right lanes (drop (first + length lanes) old) (length lanes) (p - first) 0 refl
            (omega (arith, from, past))
            ∙ get_or-drop (first + length lanes) old (p - first - length lanes) 0
            ∙ ap (λ i. get_or old i 0) back)
      ]
]
  where
    front : length (take first old) ≡ first
    front = length-take-le first old (omega (arith, room))

-- a bit that is set in the second of two masks, and one that isn't
bit_on : (a b p : ℕ) → bit b p ≡ true → bit (bit_or a b) p ≡ true
bit_on a b p on =
    let one : bit_at b p ≡ 1 = eqb-true (bit_at b p) 1 on in
    let small = bit_at-lt a p in
    ap (λ n. n == 1) (bit_at_or a b p ∙ ap (max (bit_at a p)) one ∙ most (bit_at a p) small)
  where
    most : (n : ℕ) → n < 2 → max n 1 ≡ 1
    most n lt = grind (arith, lt)

bit_off : (a b p : ℕ) → bit b p ≡ false → bit (bit_or a b) p ≡ bit a p
bit_off a b p off =
    let zero' : bit_at b p ≡ 0 = omega (arith, bit_at-lt b p, eqb-false (bit_at b p) 1 off) in
    ap (λ n. n == 1) (bit_at_or a b p ∙ ap (max (bit_at a p)) zero' ∙ least (bit_at a p))
  where
    least : (n : ℕ) → max n 0 ≡ n
    least n = grind (arith)

pub known-put : (old new : KnownBytes) (lanes : List ℕ) (first mask p : ℕ) → first + length lanes ≤ 64
    → length old.bytes ≡ 64 → new.bytes ≡ take first old.bytes ++ (lanes ++ drop (first + length lanes) old.bytes)
    → new.known ≡ bit_or old.known mask
    → ((place : ℕ) → place < 64 → bit mask place ≡ (nat_le first place && nat_lt place (first + length lanes)))
    → known_at new p
    ≡ (if nat_le first p && nat_lt p (first + length lanes) then slice_get lanes (p - first) else known_at old p)
unfolding known_at
known-put old new lanes first mask p room long bytes known are = elim (cases_lt p 64) [
  | inr past ↦ rw (
    le-ltb p 64 past,
    le-ltb p (first + length lanes) (omega (arith, past, room)),
    and-false (nat_le first p),
  )
      refl
  | inl lt ↦ go (nat_le first p && nat_lt p (first + length lanes)) refl (lt-ltb p 64 lt) (are p lt)
]
  where
    value : get_or new.bytes p 0
        ≡ (if nat_le first p && nat_lt p (first + length lanes) then get_or lanes (p - first) 0
        else get_or old.bytes p 0)
    value = ap (λ l. get_or l p 0) bytes ∙ put_at old.bytes lanes first p (omega (arith, room, long))

    go : (inside : Bool) → (nat_le first p && nat_lt p (first + length lanes)) ≡ inside → nat_lt p 64 ≡ true
        → bit mask p ≡ (nat_le first p && nat_lt p (first + length lanes))
        → (if nat_lt p 64 && bit new.known p then Some (get_or new.bytes p 0) else None)
        ≡ (if nat_le first p && nat_lt p (first + length lanes) then slice_get lanes (p - first)
        else (if nat_lt p 64 && bit old.known p then Some (get_or old.bytes p 0) else None))
    go true is lt set =
        let both = and_parts (nat_le first p) (nat_lt p (first + length lanes)) is in
        let from = leb-true first p both.0 in
        let to = ltb-true p (first + length lanes) both.1 in
        rw (is, lt, known, bit_on old.known mask p (set ∙ is))
        (ap Some (value ∙ rw is refl) ∙ sym (slice_get-get_or lanes (p - first) 0 (omega (arith, from, to))))
    go false is lt set =
        rw (is, lt, known, bit_off old.known mask p (set ∙ is))
        (ap (λ v. if bit old.known p then Some v else None) (value ∙ rw is refl))

-- a place of which nothing is known, where nothing is told
pub known-unset : (b : KnownBytes) (place p : ℕ) → known_at b place ≡ None
    → known_at b p ≡ (if p == place then None else known_at b p)
known-unset b place p none = elim (cases_eq p place) [
  | inl same ↦ rw (eq-eqb p place same) (ap (known_at b) same ∙ none)
  | inr ne ↦ rw (ne_eqb p place ne) refl
]
