-- A Store changes its bytes alone, and a Load reads them back.
use Rattle.std.proofs.Common.{◌≡◌, ℕ, zero, suc, ◌+◌, ◌%◌, ◌^◌, ◌<◌, ◌≤◌, ◌⊎◌, true, List, ◌++◌, length, take, drop}
use Rattle.std.proofs.Common.{get_or, refl, ◌∙◌, ap, arith}
use Rattle.std.specs.Prelude.{◌==◌}
use Rattle.std.proofs.lemmas.Bool.{and_parts, eqb-true, leb-true}
use Rattle.std.proofs.lemmas.List.{length-append, length-take-le, length-drop}
use Rattle.tl_rules.specs.statement.Effect.{byte_of}
use Rattle.tl_rules.proofs.Blocks.{splice_inside, splice_outside}
use Rattle.tl_rules.proofs.Rooms.{room_in_block}
use Rattle.tl_client.specs.statement.Ask.{is_word, low_bytes, copy_stored}

length-low_bytes : (value i n : ℕ) → length (low_bytes value i n) ≡ n
unfolding low_bytes
length-low_bytes value i zero = refl
length-low_bytes value i (suc n) = ap suc (length-low_bytes value (i + 1) n)

low_byte : (value i n j : ℕ) → j < n → get_or (low_bytes value i n) j 0 ≡ byte_of value (i + j)
unfolding low_bytes
low_byte value i zero j lt = absurd (omega (arith, lt))
low_byte value i (suc n) zero lt = let at_first : i + 0 ≡ i = omega arith in rw at_first refl
low_byte value i (suc n) (suc j) lt = let later : i + suc j ≡ i + 1 + j = omega arith in
    rw later (low_byte value (i + 1) n j (omega (arith, lt)))

pub word_room : (address size : ℕ) → is_word address size ≡ true → address % 64 + 2 ^ size ≤ 64
word_room address size e =
    let parts = and_parts _ (address % 2 ^ size == 0) e in
    let small = leb-true size 3 parts.0 in
    room_in_block size address (omega (arith, small)) (eqb-true (address % 2 ^ size) 0 parts.1)

pub length-stored : (address size value : ℕ) (copy : List ℕ) → length copy ≡ 64 → address % 64 + 2 ^ size ≤ 64
    → length (copy_stored address size value copy) ≡ 64
length-stored address size value copy long room =
    let front : length (take (address % 64) copy) ≡ address % 64 =
    length-take-le (address % 64) copy (omega (arith, long, room)) in
    let mid = length-low_bytes value 0 (2 ^ size) in
    let back = length-drop (address % 64 + 2 ^ size) copy in
    let two = length-append (take (address % 64) copy) (low_bytes value 0 (2 ^ size)) in
    let all = length-append (take (address % 64) copy ++ low_bytes value 0 (2 ^ size))
    (drop (address % 64 + 2 ^ size) copy) in
    omega (arith, long, room, front, mid, back, two, all)

-- the bytes of a Store are those of its value
pub stored-inside : (address size value j : ℕ) (copy : List ℕ) → length copy ≡ 64 → address % 64 + 2 ^ size ≤ 64
    → j < 2 ^ size
    → get_or (copy_stored address size value copy) (address % 64 + j) 0 ≡ byte_of value j
stored-inside address size value j copy long room lt =
    splice_inside (address % 64) (2 ^ size) copy (low_bytes value 0 (2 ^ size)) (copy_stored address size value copy)
    (length-low_bytes value 0 (2 ^ size)) (omega (arith, long, room)) refl j lt
    ∙ low_byte value 0 (2 ^ size) j lt ∙ (let same : 0 + j ≡ j = omega arith in ap (byte_of value) same)

-- and the others stay
pub stored-outside : (address size value i : ℕ) (copy : List ℕ) → length copy ≡ 64 → address % 64 + 2 ^ size ≤ 64
    → (i < address % 64) ⊎ (address % 64 + 2 ^ size ≤ i)
    → get_or (copy_stored address size value copy) i 0 ≡ get_or copy i 0
stored-outside address size value i copy long room out =
    splice_outside (address % 64) (2 ^ size) copy (low_bytes value 0 (2 ^ size)) (copy_stored address size value copy)
    (length-low_bytes value 0 (2 ^ size)) (omega (arith, long, room)) refl i out
