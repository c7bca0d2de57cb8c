-- The bytes of the blocks, read and written.
use Rattle.tl_manager.proofs.Imports.{Memory, bytes_from, AreBlocks, with_block}
use Rattle.std.proofs.Common.{◌≡◌, ℕ, ◌+◌, ◌*◌, ◌/◌, ◌%◌, ◌<◌, ◌≤◌, List, length, refl, sym, ◌∙◌, ap, arith, inl, inr}
use Rattle.std.specs.Prelude.{slice_index, slice_index_or, slice_set, replicate, ◌≢◌}
use Rattle.std.proofs.lemmas.Bool.{eq-eqb, ne_eqb, cases_eq}
use Rattle.std.proofs.lemmas.List.{get_or-set_same, get_or-set_other, get_or-replicate, length-replicate, length-set}
use Rattle.tl_rules.specs.statement.Effect.{IsBlock}
use Rattle.tl_manager.proofs.blocks.Written.{bytes_are}

-- the bytes of a block are read off it
pub block-read : (memory : Memory) (n : ℕ) (bytes : List ℕ) → length bytes ≡ 64 → IsBlock memory n bytes
    → bytes ≡ bytes_from memory (64 * n) 64
block-read memory n bytes long is =
    sym (ap (bytes_from memory (64 * n)) (sym long) ∙ bytes_are memory (64 * n) bytes
    (λ i lt. is i (omega (arith, lt, long))))

-- memories that have the same bytes in a block have the same block
pub block-same : (f g : Memory) (n : ℕ) (bytes : List ℕ) → ((address : ℕ) → address / 64 ≡ n → g address ≡ f address)
    → IsBlock f n bytes → IsBlock g n bytes
block-same f g n bytes same is = λ i lt. same (64 * n + i) (omega (arith, lt)) ∙ is i lt

-- where one block is replaced and the memory changes in no other
pub blocks-set : (blocks : List (List ℕ)) (n : ℕ) (bytes : List ℕ) (f g : Memory) → n < length blocks
    → length bytes ≡ 64 → IsBlock g n bytes
    → ((address : ℕ) → address / 64 ≢ n → g address ≡ f address) → AreBlocks blocks f
    → AreBlocks (slice_set blocks n bytes) g
blocks-set blocks n bytes f g inside long here elsewhere are = λ k past lt. elim (cases_eq k n) [
  | inl same ↦ rw (same, get_or-set_same blocks n bytes past inside) (long, here)
  | inr other ↦
      let within : k < length blocks = omega (arith, lt, length-set blocks n bytes) in
      rw (get_or-set_other blocks n k bytes past other) (
        (are k past within).0,
        block-same f g k (slice_index_or blocks k past)
            (λ address at. elsewhere address (λ e. other (sym at ∙ e))) (are k past within).1,
      )
]

-- a block that is written
pub block-put : (memory : Memory) (n : ℕ) (bytes : List ℕ) → IsBlock (with_block n bytes memory) n bytes
block-put memory n bytes = λ i lt.
    let block : (64 * n + i) / 64 ≡ n = omega (arith, lt) in
    let place : (64 * n + i) % 64 ≡ i = omega (arith, lt) in
    rw (block, place, eq-eqb n n refl) refl

pub put-elsewhere : (memory : Memory) (n : ℕ) (bytes : List ℕ) (address : ℕ) → address / 64 ≢ n
    → with_block n bytes memory address ≡ memory address
put-elsewhere memory n bytes address other = rw (ne_eqb (address / 64) n other) refl

-- a block that is written outside of the map
pub blocks-outside : (blocks : List (List ℕ)) (n : ℕ) (bytes : List ℕ) (memory : Memory) → length blocks ≤ n
    → AreBlocks blocks memory → AreBlocks blocks (with_block n bytes memory)
blocks-outside blocks n bytes memory outside are = λ k past lt. (
  (are k past lt).0,
  block-same memory (with_block n bytes memory) k (slice_index_or blocks k past)
      (λ address at. put-elsewhere memory n bytes address (λ e. omega (arith, at, e, lt, outside))) (are k past lt).1,
)

-- blocks of zeros
zero-byte : (n i : ℕ) → i < n → 0 ≡ slice_index (replicate n 0) i
zero-byte n i lt = sym (get_or-replicate n i 0 0 lt)

pub zero-blocks : (blocks : List (List ℕ)) (count : ℕ) (zeros : List ℕ) → zeros ≡ replicate 64 0
    → blocks ≡ replicate count zeros → AreBlocks blocks (λ address. 0)
zero-blocks blocks count zeros are is = λ k past lt.
    let below : k < count = omega (arith, lt, ap length is, length-replicate count zeros) in
    let block : slice_index_or blocks k past ≡ zeros = ap (λ (bs : List (List ℕ)). slice_index_or bs k past)
    is ∙ get_or-replicate count k zeros past below in
    rw (block, are) (length-replicate 64 zero, λ i within. zero-byte 64 i within)
  where
    zero : ℕ
    zero = 0
