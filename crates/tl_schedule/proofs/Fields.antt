-- Fields cut from a line, and the numbers and bytes that they spell.
use Rattle.tl_schedule.proofs.Imports.{pieces, number_in, bytes_in, ◌>>=◌}
use Rattle.std.proofs.Common.{◌≡◌, ℕ, zero, suc, ◌+◌, ◌*◌, ◌-◌, ◌^◌, ◌<◌, ◌≤◌, Bool, true, false, cond, List, [], ◌∷◌}
use Rattle.std.proofs.Common.{◌++◌, length, take, drop, get_or, replicate, set, refl, sym, ap, ◌∙◌, arith, lit<, inl}
use Rattle.std.proofs.Common.{inr}
use Rattle.std.{proofs.Math.Nat.pow-le-pow_right, proofs.Math.Seq.drop-cons, specs.List.position_or_len}
use Rattle.std.{proofs.lemmas.Bool.cases_lt, proofs.lemmas.Bool.lt-ltb, proofs.lemmas.Bool.Decides.nat_tests}
use Rattle.std.specs.Prelude.{not, Option, Some, None, option_map, position, ◌==◌}
use Rattle.std.proofs.lemmas.List.{take_all, drop_all, replicate-append-replicate}
use Rattle.tl_beat.{specs.statement.Line.onto_first, proofs.Pieces.pieces-some, proofs.Spaces.position_some}
use Rattle.tl_beat.{specs.code.FromLeft.digit_of}
use Rattle.tl_client.specs.statement.Offer.{padded}
use Rattle.tl_schedule.specs.code.FieldReading.{pair_at, pairs_in, fields_behind, is_none_left, with_rest}

-- ---- the first field

abbrev is_space : ℕ → Bool
is_space c = c == 32

first_piece : (xs : List ℕ) → pieces xs ≡ take (position_or_len is_space xs) xs ∷ fields_behind
    (drop (position_or_len is_space xs) xs)
unfolding pieces
first_piece [] = refl
first_piece (c ∷ cs) = go (c == 32) (position_or_len is_space cs) (first_piece cs)
  where
    go : (b : Bool) (n : ℕ) → pieces cs ≡ take n cs ∷ fields_behind (drop n cs)
        → cond b ([] ∷ pieces cs) (onto_first c (pieces cs)) ≡ take (cond (not b) (1 + n) 0) (c ∷ cs) ∷ fields_behind
        (drop (cond (not b) (1 + n) 0) (c ∷ cs))
    go true n h = refl
    go false n h = let next : 1 + n ≡ suc n = omega arith in rw (next, h) refl

pub one_piece : (xs : List ℕ) → position is_space xs ≡ None → pieces xs ≡ xs ∷ []
one_piece xs e = elim (cases_lt (position_or_len is_space xs) (length xs)) [
  | inl lt ↦ absurd (let none = rw (lt-ltb (position_or_len is_space xs) (length xs) lt) at e in cc)
  | inr past ↦ first_piece xs ∙ rw (
    take_all (position_or_len is_space xs) xs past,
    drop_all (position_or_len is_space xs) xs past,
  ) refl
]

pub piece_before : (xs front back : List ℕ) (i : ℕ) → position is_space xs ≡ Some i → front ≡ take i xs
    → back ≡ drop i xs → pieces xs ≡ front ∷ fields_behind back
piece_before xs front back i e f b =
    let place = position_some is_space xs i e in
    rw (f, b, place) (first_piece xs)

-- ---- numbers

pub number-step : (n i d : ℕ) (field : List ℕ) → i < length field → digit_of (get_or field i 0) ≡ Some d
    → number_in n (length field - i) (drop i field) ≡ number_in (16 * n + d) (length field - (i + 1))
    (drop (i + 1) field)
unfolding number_in
number-step n i d field l e =
    let left : length field - i ≡ suc (length field - (i + 1)) = omega arith in
    let next : i + 1 ≡ suc i = omega arith in
    rw (left, drop-cons field i 0 l, e, next) refl

pub number-fails : (n i : ℕ) (field : List ℕ) → i < length field → digit_of (get_or field i 0) ≡ None
    → number_in n (length field - i) (drop i field) ≡ None
unfolding number_in
number-fails n i field l e =
    let left : length field - i ≡ suc (length field - (i + 1)) = omega arith in
    rw (left, drop-cons field i 0 l, e) refl

pub number-done : (n i : ℕ) (field : List ℕ) → i ≡ length field → number_in n (length field - i) (drop i field) ≡ Some n
unfolding number_in
number-done n i field e =
    let left : length field - i ≡ 0 = omega arith in
    rw (left, drop_all i field (omega arith)) refl

pub number-long : (n w : ℕ) (field : List ℕ) → (length field ≡ w → ⊥) → number_in n w field ≡ None
unfolding number_in
number-long n zero [] other = absurd (other refl)
number-long n zero (c ∷ cs) other = refl
number-long n (suc w) [] other = refl
number-long n (suc w) (c ∷ cs) other = by_digit (λ m. number-long m w cs (λ e. other (ap suc e))) (digit_of c)
  where
    by_digit : ((m : ℕ) → number_in m w cs ≡ None) → (d : Option ℕ)
        → (d >>= with_rest cs) >>= (λ d. number_in (16 * n + d.0) w d.1) ≡ None
    by_digit rest None = refl
    by_digit rest (Some d) = rest (16 * n + d)

pub fits_in_64 : (c : ℕ) → c ≤ 15 → 16 ^ (c + 1) ≤ 2 ^ 64
fits_in_64 c le = let more : c + 1 ≤ 16 = omega arith in pow-le-pow_right {n = 16} (lit< tt) {i = c + 1} {j = 16} more

-- ---- bytes

set_last : (k x : ℕ) (tail : List ℕ) → set (replicate (suc k) 0 ++ tail) k x ≡ replicate k 0 ++ x ∷ tail
set_last zero x tail = refl
set_last (suc k) x tail = ap (λ (xs : List ℕ). 0 ∷ xs) (set_last k x tail)

abbrev zeros : ℕ → List ℕ
zeros n = replicate n 0

-- this many bytes of that many have been read
abbrev pub Reads : ℕ → ℕ → List ℕ → List ℕ → List ℕ → Type 0
Reads count i bytes field rest =
    (done : List ℕ) × (length done ≡ i) × (bytes ≡ replicate (count - i) 0 ++ (done ++ replicate (64 - count) 0))
    × (pairs_in [] count field ≡ pairs_in done (count - i) rest)

pub data-init : (count : ℕ) (field : List ℕ) → count ≤ 64 → Reads count 0 (replicate 64 0) field field
data-init count field le =
    let whole : 64 ≡ count - 0 + (64 - count) = omega arith in
    let none : count ≡ count - 0 = omega arith in (
      [],
      refl,
      ap zeros whole ∙ sym (replicate-append-replicate (count - 0) (64 - count) 0),
      ap (λ (k : ℕ). pairs_in [] k field) none,
    )

pub data-step : (count i byte : ℕ) (bytes field rest after : List ℕ) → i < count → Reads count i bytes field rest
    → pair_at rest ≡ Some (byte, after) → Reads count (i + 1) (set bytes (count - 1 - i) byte) field after
unfolding pairs_in
data-step count i byte bytes field rest after lt (done, len, is, same) read =
    let one : count - i ≡ suc (count - (i + 1)) = omega arith in
    let at : count - 1 - i ≡ count - (i + 1) = omega arith in
    let more : length (byte ∷ done) ≡ i + 1 = omega (arith, len) in
    let written : set bytes (count - 1 - i) byte ≡ replicate (count - (i + 1)) 0
    ++ (byte ∷ (done ++ replicate (64 - count) 0)) =
    rw (is, one, at) (set_last (count - (i + 1)) byte (done ++ replicate (64 - count) 0)) in
    (byte ∷ done, more, written, same ∙ rw (one, read) refl)

pub data-fails : (count i : ℕ) (bytes field rest : List ℕ) → i < count → Reads count i bytes field rest
    → pair_at rest ≡ None → option_map padded (bytes_in count field) ≡ None
unfolding pairs_in
data-fails count i bytes field rest lt (done, len, is, same) none =
    let one : count - i ≡ suc (count - (i + 1)) = omega arith in
    let nothing : pairs_in [] count field ≡ None = same ∙ rw (one, none) refl in
    rw nothing refl

data-whole : (count i : ℕ) (bytes field rest : List ℕ) → count - i ≡ 0 → i ≡ count → Reads count i bytes field rest
    → true ≡ (length rest == 0) → option_map padded (bytes_in count field) ≡ Some bytes
unfolding pairs_in
data-whole count i bytes field [] none all (done, len, is, same) empty =
    let read : pairs_in [] count field ≡ Some done = same ∙ rw none refl in
    let size : length done ≡ count = len ∙ all in
    rw (read, is, none, size) refl
data-whole count i bytes field (c ∷ cs) none all r empty = absurd (grind (arith, nat_tests))

data-more : (count i : ℕ) (bytes field rest : List ℕ) → count - i ≡ 0 → Reads count i bytes field rest
    → false ≡ (length rest == 0) → option_map padded (bytes_in count field) ≡ None
unfolding pairs_in
data-more count i bytes field [] none r some = absurd (grind (arith, nat_tests))
data-more count i bytes field (c ∷ cs) none (done, len, is, same) some =
    let nothing : pairs_in [] count field ≡ None = same ∙ rw none refl in
    rw nothing refl

pub data-done : (count i : ℕ) (bytes field rest : List ℕ) → i ≡ count → Reads count i bytes field rest
    → true ≡ (length rest == 0) → option_map padded (bytes_in count field) ≡ Some bytes
data-done count i bytes field rest all r empty = data-whole count i bytes field rest (omega arith) all r empty

pub data-left : (count i : ℕ) (bytes field rest : List ℕ) → i ≡ count → Reads count i bytes field rest
    → false ≡ (length rest == 0) → option_map padded (bytes_in count field) ≡ None
data-left count i bytes field rest all r some = data-more count i bytes field rest (omega arith) r some

-- ---- the end of the fields

some_left : (fields : List (List ℕ)) → 0 < length fields → false ≡ is_none_left fields
some_left [] some = absurd (omega arith)
some_left (field ∷ fields) some = refl

-- a space is left where a field is
pub none_left : (bytes : List ℕ) → (length bytes == 0) ≡ is_none_left (fields_behind bytes)
none_left [] = refl
none_left (c ∷ cs) =
    let some : (length (c ∷ cs) == 0) ≡ false = grind (arith, nat_tests) in
    some ∙ some_left (pieces cs) (pieces-some cs)
