-- The bytes of the numbers that are stored and loaded, and their block.
use Rattle.std.proofs.Common.{◌≡◌, ℕ, zero, suc, ◌==◌, eqb-true, ◌+◌, ◌-◌, ◌*◌, ◌%◌, ◌^◌, ◌<◌, ◌≤◌, true, List}
use Rattle.std.proofs.Common.{length, take, drop, get_or, inl, inr}
use Rattle.std.proofs.Common.{refl, sym, ◌∙◌, ap, arith, length-drop, length-take, lit<, All}
use Rattle.std.specs.Int.{from_le_bytes, w64}
use Rattle.std.specs.Prelude.{nat_le, nat_lt}
use Rattle.std.proofs.lemmas.Bool.{and_parts, cases_lt, leb-true, ltb-true}
use Rattle.std.proofs.lemmas.List.{get_or_past}
use Rattle.std.proofs.lemmas.Nat.{le_bytes_8}
use Rattle.tl_burst.specs.statement.Burst.{reaches}
use Rattle.tl_client.specs.statement.Ask.{is_word}
use Rattle.tl_rules.specs.statement.Effect.{Memory, byte_of, number_from}
use Rattle.tl_rules.specs.statement.History.{block_at}
use Rattle.tl_rules.proofs.Numbers.{byte_of_rest, number_byte, part_byte, written_byte}

-- the byte that a piece of a number has is the one of the number
pub in-piece : (base size value a : ℕ) → reaches base size a ≡ true
    → byte_of (value % 2 ^ (8 * 2 ^ size)) (a - base) ≡ byte_of value (a - base)
in-piece base size value a e =
    let both = and_parts (nat_le base a) (nat_lt a (base + 2 ^ size)) e in
    let from = leb-true base a both.0 in
    let to = ltb-true a (base + 2 ^ size) both.1 in
    byte_of_rest value (2 ^ size) (a - base) (omega (arith, from, to))

-- a number that was loaded has the byte of memory
pub loaded-is : (memory : Memory) (base size a : ℕ) → ((i : ℕ) → memory i < 256) → reaches base size a ≡ true
    → byte_of (number_from memory base (2 ^ size) % 2 ^ (8 * 2 ^ size)) (a - base) ≡ memory a
loaded-is memory base size a bytes e =
    let both = and_parts (nat_le base a) (nat_lt a (base + 2 ^ size)) e in
    let from = leb-true base a both.0 in
    let to = ltb-true a (base + 2 ^ size) both.1 in
    let place : base + (a - base) ≡ a = omega (arith, from) in
    in-piece base size (number_from memory base (2 ^ size)) a e
    ∙ number_byte memory base (2 ^ size) (a - base) (λ i lt. bytes (base + i)) (omega (arith, from, to)) ∙ ap memory
    place

-- ---- the words of a block

-- the bytes of word i of a block
abbrev word_bytes : List ℕ → ℕ → List ℕ
word_bytes bytes i = take 8 (drop (8 * i) bytes)

word-long : (bytes : List ℕ) (i : ℕ) → length bytes ≡ 64 → i < 8 → length (word_bytes bytes i) ≡ 8
word-long bytes i long lt = rw (length-take 8 (drop (8 * i) bytes), length-drop (8 * i) bytes, long) (omega (arith, lt))

pub word-byte : (bytes : List ℕ) (i j : ℕ) → length bytes ≡ 64 → ((k : ℕ) → get_or bytes k 0 < 256) → i < 8 → j < 8
    → byte_of (from_le_bytes w64 (word_bytes bytes i)) j ≡ get_or bytes (8 * i + j) 0
word-byte bytes i j long small lt below =
    sym (written_byte (from_le_bytes w64 (word_bytes bytes i)) j below)
    ∙ ap (λ (l : List ℕ). get_or l j 0) (le_bytes_8 (word_bytes bytes i) (from_le_bytes w64 (word_bytes bytes i))
    (word-long bytes i long lt) each refl)
    ∙ part_byte bytes (8 * i) 8 j below
  where
    each : (k : ℕ) → get_or (word_bytes bytes i) k 0 < 256
    each k = elim (cases_lt k 8) [
      | inl less ↦ rw (part_byte bytes (8 * i) 8 k less) (small (8 * i + k))
      | inr more ↦ rw (get_or_past (word_bytes bytes i) k 0
          (let whole = word-long bytes i long lt in omega (arith, more, whole))) (lit< tt)
    ]

pub small-byte : (bytes : List ℕ) → All (λ byte. byte < 2 ^ 8) bytes → (k : ℕ) → get_or bytes k 0 < 256
small-byte bytes all k = elim (cases_lt k (length bytes)) [
  | inl lt ↦ all k 0 lt
  | inr past ↦ rw (get_or_past bytes k 0 past) (lit< tt)
]

-- ---- an aligned piece

-- the bytes of an aligned piece are in one block
one-block : (size address i : ℕ) → size ≤ 3 → address % 2 ^ size ≡ 0 → i < 2 ^ size
    → block_at (address + i) ≡ block_at address
one-block zero address i le even small = omega arith
one-block (suc zero) address i le even small = omega arith
one-block (suc (suc zero)) address i le even small = omega arith
one-block (suc (suc (suc zero))) address i le even small = omega arith
one-block (suc (suc (suc (suc n)))) address i le even small = absurd (omega arith)

pub word-block : (address size i : ℕ) → is_word address size ≡ true → i < 2 ^ size
    → block_at (address + i) ≡ block_at address
word-block address size i word small =
    let both = and_parts (nat_le size 3) (address % 2 ^ size == 0) word in
    one-block size address i (leb-true size 3 both.0) (eqb-true (address % 2 ^ size) 0 both.1) small
