-- The payloads of what a manager hands out have 64 bytes, which are zero where no beat carries them.
use Rattle.tl_manager.proofs.Imports.{IsWidth, IsZeroFrom, Memory, bytes_from}
use Rattle.std.proofs.Common.{◌≡◌, ℕ, zero, suc, ◌+◌, ◌-◌, ◌*◌, ◌%◌, ◌^◌, ◌≤◌, List, ◌++◌, length, refl, sym, ap, ◌∙◌}
use Rattle.std.proofs.Common.{arith, inl, inr}
use Rattle.std.specs.Prelude.{replicate, drop}
use Rattle.std.proofs.lemmas.List.{drop_at, drop_all, length-append, length-replicate, replicate-append-replicate}
use Rattle.std.proofs.lemmas.List.{append_assoc}
use Rattle.tl_burst.specs.statement.Burst.{data_beats}
use Rattle.tl_rules.{specs.statement.Effect.as_payload, proofs.Widths.whole_block}

pub length-bytes : (memory : Memory) (from n : ℕ) → length (bytes_from memory from n) ≡ n
unfolding bytes_from
length-bytes memory from zero = refl
length-bytes memory from (suc n) = ap suc (length-bytes memory (from + 1) n)

-- the bytes of an aligned request are carried by its beats (to stand in tl_rules)
pub room_in_beats : (w size address : ℕ) → IsWidth w → size ≤ 6 → address % 2 ^ size ≡ 0
    → address % w + 2 ^ size ≤ w * data_beats w size
room_in_beats w zero address is le e =
    elim is [
      | inl w_is ↦ rw w_is (omega (arith, e))
      | inr more ↦ elim more
          [ inl w_is ↦ rw w_is (omega (arith, e)) | inr w_is ↦ rw w_is (omega (arith, e)) ]
    ]
room_in_beats w (suc zero) address is le e =
    elim is [
      | inl w_is ↦ rw w_is (omega (arith, e))
      | inr more ↦ elim more
          [ inl w_is ↦ rw w_is (omega (arith, e)) | inr w_is ↦ rw w_is (omega (arith, e)) ]
    ]
room_in_beats w (suc (suc zero)) address is le e =
    elim is [
      | inl w_is ↦ rw w_is (omega (arith, e))
      | inr more ↦ elim more
          [ inl w_is ↦ rw w_is (omega (arith, e)) | inr w_is ↦ rw w_is (omega (arith, e)) ]
    ]
room_in_beats w (suc (suc (suc zero))) address is le e =
    elim is [
      | inl w_is ↦ rw w_is (omega (arith, e))
      | inr more ↦ elim more
          [ inl w_is ↦ rw w_is (omega (arith, e)) | inr w_is ↦ rw w_is (omega (arith, e)) ]
    ]
room_in_beats w (suc (suc (suc (suc zero)))) address is le e =
    elim is [
      | inl w_is ↦ rw w_is (omega (arith, e))
      | inr more ↦ elim more
          [ inl w_is ↦ rw w_is (omega (arith, e)) | inr w_is ↦ rw w_is (omega (arith, e)) ]
    ]
room_in_beats w (suc (suc (suc (suc (suc zero))))) address is le e =
    elim is [
      | inl w_is ↦ rw w_is (omega (arith, e))
      | inr more ↦ elim more
          [ inl w_is ↦ rw w_is (omega (arith, e)) | inr w_is ↦ rw w_is (omega (arith, e)) ]
    ]
room_in_beats w (suc (suc (suc (suc (suc (suc zero)))))) address is le e =
    elim is [
      | inl w_is ↦ rw w_is (omega (arith, e))
      | inr more ↦ elim more
          [ inl w_is ↦ rw w_is (omega (arith, e)) | inr w_is ↦ rw w_is (omega (arith, e)) ]
    ]
room_in_beats w (suc (suc (suc (suc (suc (suc (suc n))))))) address is le e = absurd (omega (arith, le))

-- and fit into a payload
pub data_room : (w size : ℕ) → IsWidth w → size ≤ 6 → w * data_beats w size ≤ 64
data_room w zero is le =
    elim is [
      | inl w_is ↦ rw w_is (omega arith)
      | inr more ↦ elim more [
        | inl w_is ↦ rw w_is (omega arith)
        | inr w_is ↦ rw
            w_is (omega arith)
      ]
    ]
data_room w (suc zero) is le =
    elim is [
      | inl w_is ↦ rw w_is (omega arith)
      | inr more ↦ elim more [
        | inl w_is ↦ rw w_is (omega arith)
        | inr w_is ↦ rw
            w_is (omega arith)
      ]
    ]
data_room w (suc (suc zero)) is le =
    elim is [
      | inl w_is ↦ rw w_is (omega arith)
      | inr more ↦ elim more [
        | inl w_is ↦ rw w_is (omega arith)
        | inr w_is ↦ rw
            w_is (omega arith)
      ]
    ]
data_room w (suc (suc (suc zero))) is le =
    elim is [
      | inl w_is ↦ rw w_is (omega arith)
      | inr more ↦ elim more [
        | inl w_is ↦ rw w_is (omega arith)
        | inr w_is ↦ rw
            w_is (omega arith)
      ]
    ]
data_room w (suc (suc (suc (suc zero)))) is le =
    elim is [
      | inl w_is ↦ rw w_is (omega arith)
      | inr more ↦ elim more [
        | inl w_is ↦ rw w_is (omega arith)
        | inr w_is ↦ rw
            w_is (omega arith)
      ]
    ]
data_room w (suc (suc (suc (suc (suc zero))))) is le =
    elim is [
      | inl w_is ↦ rw w_is (omega arith)
      | inr more ↦ elim more [
        | inl w_is ↦ rw w_is (omega arith)
        | inr w_is ↦ rw
            w_is (omega arith)
      ]
    ]
data_room w (suc (suc (suc (suc (suc (suc zero)))))) is le =
    elim is [
      | inl w_is ↦ rw w_is (omega arith)
      | inr more ↦ elim more [
        | inl w_is ↦ rw w_is (omega arith)
        | inr w_is ↦ rw
            w_is (omega arith)
      ]
    ]
data_room w (suc (suc (suc (suc (suc (suc (suc n))))))) is le = absurd (omega (arith, le))

-- the whole of a block is
abbrev blank : ℕ → List ℕ
blank n = replicate n 0

zeros : (n : ℕ) → length (blank n) ≡ n
zeros n = let none : ℕ = 0 in length-replicate n none

-- the length of bytes between zeros
between : (first k : ℕ) (bytes : List ℕ) → length (replicate first 0 ++ bytes ++ replicate k 0) ≡ first + length
    bytes + k
between first k bytes =
    let whole = length-append (replicate first 0 ++ bytes) (replicate k 0) in
    let rest = length-append (replicate first 0) bytes in
    let front = zeros first in
    let back = zeros k in
    omega (arith, whole, rest, front, back)

pub payload-long : (first n : ℕ) (bytes : List ℕ) → length bytes ≡ n → first + n ≤ 64
    → length (as_payload first bytes) ≡ 64
payload-long first n bytes long room = let total = between first (64 - first - length bytes) bytes in
    omega (arith, total, long, room)

more_zeros : (m n : ℕ) → blank m ++ blank n ≡ blank (m + n)
more_zeros m n = let none : ℕ = 0 in replicate-append-replicate m n none

pub payload-zero : (first n k : ℕ) (bytes : List ℕ) → length bytes ≡ n → first + n ≤ k → k ≤ 64
    → IsZeroFrom k (as_payload first bytes)
payload-zero first n k bytes long le room =
    let split : 64 - first - length bytes ≡ (k - (first + n)) + (64 - k) = omega (arith, long, le, room) in
    let total = between first (k - (first + n)) bytes in
    let size : length (replicate first 0 ++ bytes ++ replicate (k - (first + n)) 0) ≡ k =
    omega (arith, total, long, le) in
    let whole : as_payload first bytes ≡ (replicate first 0 ++ bytes ++ replicate (k - (first + n)) 0) ++ replicate
    (64 - k) 0 =
    (ap (λ i. replicate first 0 ++ bytes ++ replicate i 0) split ∙ ap
    (λ (zs : List ℕ). replicate first 0 ++ bytes ++ zs) (sym (more_zeros (k - (first + n)) (64 - k)))
    ∙ sym (append_assoc (replicate first 0 ++ bytes) (replicate (k - (first + n)) 0) (replicate (64 - k) 0))) in
    ap (drop k) whole ∙ drop_at (replicate first 0 ++ bytes ++ replicate (k - (first + n)) 0) (replicate (64 - k) 0) k
    size

-- a whole block has nothing past it
pub block-zero : (w : ℕ) (memory : Memory) (from : ℕ) → IsWidth w
    → IsZeroFrom (w * data_beats w 6) (bytes_from memory from 64)
block-zero w memory from width =
    rw (whole_block w width) (drop_all 64 (bytes_from memory from 64) (let long = length-bytes memory from 64 in
    omega (arith, long)))
