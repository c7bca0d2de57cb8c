-- What was written to a block, as a memory that has the block sees it.
use Rattle.std.proofs.Common.{◌≡◌, ℕ, zero, suc, ◌+◌, ◌-◌, ◌*◌, ◌/◌, ◌%◌, ◌^◌, ◌<◌, ◌≤◌, ◌⊎◌, ◌≢◌, eqb, leb, ltb, cond}
use Rattle.std.proofs.Common.{true, false, Bool, List, [], ◌∷◌, ◌++◌}
use Rattle.std.proofs.Common.{length, take, drop, get_or, replicate, Some, None, unwrap_or, refl, sym, ap, ◌∙◌, arith}
use Rattle.std.proofs.Common.{inl, inr, zero-add, add-zero, append_assoc}
use Rattle.std.specs.Int.{to_le_bytes, w64}
use Rattle.std.proofs.lemmas.Bool.{cases_lt, lt-ltb, le-ltb, le-leb, lt-leb, and_right, cases_Bool, eqb-true}
use Rattle.std.proofs.lemmas.List.{length-append, length-take-le, length-replicate, get_or_append_left}
use Rattle.std.proofs.lemmas.List.{get_or-append_right, get_or-take, get_or-drop, drop_more}
use Rattle.std.proofs.lemmas.Option.{slice_get-get_or}
use Rattle.std.specs.Prelude.{slice_get}
use Rattle.tl_beat.specs.declared.channel.Channel.TheVariants as channel
use Rattle.tl_beat.specs.declared.opcode.OpA.{OpA}
use Rattle.tl_beat.specs.declared.opcode.OpA.TheVariants as a
use Rattle.tl_beat.specs.statement.Opcode.{a_carries_data}
use Rattle.tl_beat.specs.statement.Width.{IsWidth}
use Rattle.tl_burst.specs.declared.message.MessageA.{MessageA}
use Rattle.tl_burst.specs.declared.message.Message.{Message}
use Rattle.tl_burst.specs.declared.message.Message.TheVariants.{A, B, C, D, E}
use Rattle.tl_burst.specs.statement.Burst.{bit, data_beats, beats_of, IsBlankAfter}
use Rattle.tl_params.specs.declared.param.Arithmetic.{Arithmetic}
use Rattle.tl_params.specs.declared.param.Logical.{Logical}
use Rattle.tl_params.specs.statement.Param.{arithmetic_of, logical_of}
use Rattle.tl_rules.specs.declared.answer.Answer.{Answer}
use Rattle.tl_params.specs.declared.level.Level.TheVariants as level
use Rattle.tl_rules.specs.statement.Legality.{illegal_message}
use Rattle.tl_rules.specs.code.Merge.{merged}
use Rattle.tl_rules.specs.code.Place.{base_of, moved_up}
use Rattle.tl_rules.specs.statement.Effect.{Memory, number_from, byte_of, arithmetic_result, logical_result, by_param}
use Rattle.tl_rules.specs.statement.Effect.{byte_count, operand_of, number_stored, with_number}
use Rattle.tl_rules.specs.statement.Effect.{after, as_payload, bytes_from, IsBlock, request_block, effect}
use Rattle.tl_rules.specs.statement.Effect.{access_result, answer_at, answer_of}
use Rattle.std.proofs.Math.Nat.{mod-mod}
use Rattle.std.proofs.lemmas.Nat.{div-add-mod'}
use Rattle.std.proofs.lemmas.Nat.Bits.{bit_at_above}
use Rattle.tl_rules.proofs.Bursts.{control_of_legal, control_aligned}
use Rattle.tl_rules.proofs.Masks.{shifted_bit_below, shifted_bit_from}
use Rattle.tl_rules.proofs.Numbers.{byte_of_rest, written_byte, number_byte, logical_byte}
use Rattle.tl_rules.proofs.Numbers.{part_byte}
use Rattle.std.specs.Simd.Lanes.{zip2}
use Rattle.std.proofs.lemmas.Simd.{get_or-zip2, length-zip2}
use Rattle.std.proofs.lemmas.List.{length-drop, drop-drop}
use Rattle.tl_rules.proofs.Places.{number_same}
use Rattle.tl_rules.proofs.Rooms.{base_in_memory, room_of_base, room_in_block}
use Rattle.tl_rules.proofs.Widths.{width-bounds}

-- ---- a part of a list that is replaced

pub splice_inside : (at count : ℕ) (old mid new : List ℕ) → length mid ≡ count → at + count ≤ length old
    → new ≡ take at old ++ mid ++ drop (at + count) old
    → (j : ℕ) → j < count → get_or new (at + j) 0 ≡ get_or mid j 0
splice_inside at count old mid new long le is j lt =
    let front : length (take at old) ≡ at = length-take-le at old (omega arith) in
    let within : at + j < length (take at old ++ mid) = omega (arith, length-append (take at old) mid) in
    let place : at + j - at ≡ j = omega arith in
    ap (λ xs. get_or xs (at + j) 0) is ∙ get_or_append_left (take at old ++ mid) (drop (at + count) old) 0 (at + j)
    within
    ∙ get_or-append_right {X = ℕ} (take at old) mid at (at + j) 0 front (omega arith) ∙ ap (λ i. get_or mid i 0) place

pub splice_outside : (at count : ℕ) (old mid new : List ℕ) → length mid ≡ count → at + count ≤ length old
    → new ≡ take at old ++ mid ++ drop (at + count) old
    → (i : ℕ) → (i < at) ⊎ (at + count ≤ i) → get_or new i 0 ≡ get_or old i 0
splice_outside at count old mid new long le is i out =
    let front : length (take at old) ≡ at = length-take-le at old (omega arith) in
    let both : length (take at old ++ mid) ≡ at + count = omega (arith, length-append (take at old) mid) in
    ap (λ xs. get_or xs i 0) is ∙ elim out [
      | inl below ↦
          get_or_append_left (take at old ++ mid) (drop (at + count) old) 0 i (omega arith) ∙ get_or_append_left
          (take at old) mid 0 i (omega arith) ∙ get_or-take at old i 0 below
      | inr above ↦
          let place : at + count + (i - (at + count)) ≡ i = omega arith in
          get_or-append_right {X = ℕ} (take at old ++ mid) (drop (at + count) old) (at + count) i 0 both
          above ∙ get_or-drop (at + count) old (i - (at + count)) 0 ∙ ap (λ k. get_or old k 0) place
    ]

-- ---- a masked merge, byte by byte

pub merged_byte : (mask k : ℕ) (olds news : List ℕ) (i : ℕ) → length olds ≡ length news → i < length olds
    → get_or (merged mask k olds news) i 0 ≡ cond (bit mask (k + i)) (get_or news i 0) (get_or olds i 0)
merged_byte mask k [] news i same lt = absurd (omega arith)
merged_byte mask k (x ∷ xs) [] i same lt = absurd (omega arith)
merged_byte mask k (x ∷ xs) (y ∷ ys) zero same lt = let e : k ≡ k + 0 = omega arith in ap (λ n. cond (bit mask n) y x) e
merged_byte mask k (x ∷ xs) (y ∷ ys) (suc i) same lt =
    let e : k + 1 + i ≡ k + suc i = omega arith in
    merged_byte mask (k + 1) xs ys i (omega arith) (omega arith) ∙ ap
    (λ n. cond (bit mask n) (get_or ys i 0) (get_or xs i 0)) e

pub moved_byte : (n : ℕ) (bytes : List ℕ) (i : ℕ) → n ≤ i → i < 64
    → get_or (moved_up n bytes) i 0 ≡ get_or bytes (i - n) 0
moved_byte n bytes i le lt =
    get_or-append_right {X = ℕ} (replicate n 0) (take (64 - n) bytes) n i 0 (length-replicate {A = ℕ} n 0)
    le ∙ get_or-take (64 - n) bytes (i - n) 0 (omega arith)

-- ---- a number in place of the bytes that a request reaches

reached : {w : ℕ} (m : MessageA w) (n : ℕ) (memory : Memory) (x : ℕ) → m.address ≤ x → x < m.address + 2 ^ m.size
    → with_number m n memory x ≡ byte_of n (x - m.address)
reached m n memory x le lt = rw (le-leb m.address x le, lt-ltb x (m.address + 2 ^ m.size) lt) refl

not_reached : {w : ℕ} (m : MessageA w) (n : ℕ) (memory : Memory) (x : ℕ)
    → (x < m.address) ⊎ (m.address + 2 ^ m.size ≤ x) → with_number m n memory x ≡ memory x
not_reached m n memory x out = elim out [
  | inl below ↦ rw (lt-leb m.address x below) refl
  | inr above ↦ rw (le-ltb x (m.address + 2 ^ m.size) above, and_right (leb m.address x) false refl) refl
]

pub number_written : {w : ℕ} (m : MessageA w) (n : ℕ) (memory : Memory) (old new : List ℕ)
    → m.address % 64 + 2 ^ m.size ≤ 64 → IsBlock memory (m.address / 64) old
    → ((j : ℕ) → j < 2 ^ m.size → get_or new (m.address % 64 + j) 0 ≡ byte_of n j)
    → ((i : ℕ) → i < 64 → (i < m.address % 64) ⊎ (m.address % 64 + 2 ^ m.size ≤ i) → get_or new i 0 ≡ get_or old i 0)
    → IsBlock (with_number m n memory) (m.address / 64) new
number_written m n memory old new room is inside outside = λ i lt.
    let x = 64 * (m.address / 64) + i in
    elim (cases_lt i (m.address % 64)) [
      | inl below ↦ not_reached m n memory x (inl (omega arith)) ∙ is i lt ∙ sym (outside i lt (inl below))
      | inr from ↦ elim (cases_lt i (m.address % 64 + 2 ^ m.size)) [
        | inl to ↦
            let j : x - m.address ≡ i - m.address % 64 = omega arith in
            let place : m.address % 64 + (i - m.address % 64) ≡ i = omega arith in
            reached m n memory x (omega arith) (omega arith) ∙ ap (byte_of n) j ∙ sym
            (inside (i - m.address % 64) (omega arith)) ∙ ap (λ k. get_or new k 0) place
        | inr above ↦ not_reached m n memory x (inr (omega arith)) ∙ is i lt ∙ sym (outside i lt (inr above))
      ]
    ]

-- ---- the old value and the operand

pub old_value : {w : ℕ} (m : MessageA w) (memory : Memory) (old : List ℕ) → m.address % 64 + 2 ^ m.size ≤ 64
    → IsBlock memory (m.address / 64) old
    → number_from (λ i. get_or old i 0) (m.address % 64) (2 ^ m.size) ≡ number_from memory m.address (2 ^ m.size)
old_value m memory old room is =
    number_same (λ i. get_or old i 0) memory (m.address % 64) m.address (2 ^ m.size)
    (λ i lt. let place : 64 * (m.address / 64) + (m.address % 64 + i) ≡ m.address + i = omega arith in
    sym (is (m.address % 64 + i) (omega arith)) ∙ ap memory place)

pub operand_value : {w : ℕ} (m : MessageA w) → IsWidth w → number_from (λ i. get_or m.payload i 0) (m.address % w)
    (2 ^ m.size) ≡ number_from (operand_of m) m.address (2 ^ m.size)
operand_value {w} m is =
    let bounds = width-bounds w is in
    number_same (λ i. get_or m.payload i 0) (operand_of m) (m.address % w) m.address (2 ^ m.size)
    (λ i lt. let place : m.address % w + i ≡ m.address + i - w * (m.address / w) = omega (arith, bounds.0) in
    ap (λ k. get_or m.payload k 0) place)

-- the number that was put is the one that an atomic stores, as far as its bytes go
number_put : {w : ℕ} (m : MessageA w) (memory : Memory) (old new : List ℕ) (at count n number : ℕ) → at ≡ m.address % 64
    → count ≡ 2 ^ m.size → count ≤ 8 → at + count ≤ 64 → length old ≡ 64
    → n % 2 ^ (8 * count) ≡ number % 2 ^ (8 * count)
    → new ≡ take at old ++ take count (to_le_bytes w64 n) ++ drop (at + count) old
    → IsBlock memory (m.address / 64) old → IsBlock (with_number m number memory) (m.address / 64) new
number_put m memory old new at count n number at_is count_is few room long n_is new_is is =
    let room' : m.address % 64 + 2 ^ m.size ≤ 64 = omega arith in
    let eight : length (to_le_bytes w64 n) ≡ 8 = refl in
    let mid : length (take count (to_le_bytes w64 n)) ≡ count = length-take-le count (to_le_bytes w64 n) (omega arith)
    in
    number_written m number memory old new room' is
    (λ j lt.
    let less : j < count = omega arith in
    ap (λ k. get_or new (k + j) 0) (sym at_is) ∙ splice_inside at count old (take count (to_le_bytes w64 n)) new mid
    (omega arith) new_is j less
    ∙ get_or-take count (to_le_bytes w64 n) j 0 less ∙ written_byte n j (omega arith) ∙ sym
    (byte_of_rest n count j less) ∙ ap (λ k. byte_of k j) n_is ∙ byte_of_rest number count j less)
    (λ i lt out. splice_outside at count old (take count (to_le_bytes w64 n)) new mid (omega arith) new_is i
    (rw (← at_is, ← count_is) at out))

pub arithmetic_done : {w : ℕ} (m : MessageA w) (operation : Arithmetic) (memory : Memory) (old new : List ℕ)
    (at first count v o n : ℕ) → IsWidth w → Some operation ≡ arithmetic_of m.param
    → at ≡ m.address % 64 → first ≡ m.address % w → count ≡ 2 ^ m.size → count ≤ 8 → at + count ≤ 64 → length old ≡ 64
    → v ≡ number_from (λ i. get_or old i 0) at count → o ≡ number_from (λ i. get_or m.payload i 0) first count
    → n % 2 ^ (8 * count) ≡ arithmetic_result operation (8 * count) v o
    → new ≡ take at old ++ take count (to_le_bytes w64 n) ++ drop (at + count) old
    → IsBlock memory (m.address / 64) old
    → IsBlock (with_number m
    (number_stored m (by_param (λ o. arithmetic_result o (8 * byte_count m)) (arithmetic_of m.param)) memory)
    memory) (m.address / 64) new
arithmetic_done {w} m operation memory old new at first count v o n is_width param at_is first_is count_is few room long
    v_is o_is n_is new_is is =
    let room' : m.address % 64 + 2 ^ m.size ≤ 64 = omega arith in
    let v_as : v ≡ number_from memory m.address (2 ^ m.size) =
    v_is ∙ rw (at_is, count_is) (old_value m memory old room' is) in
    let o_as : o ≡ number_from (operand_of m) m.address (2 ^ m.size) =
    o_is ∙ rw (first_is, count_is) (operand_value m is_width) in
    let number = number_stored m (by_param (λ o. arithmetic_result o (8 * byte_count m)) (arithmetic_of m.param)) memory
    in
    let number_is : n % 2 ^ (8 * count) ≡ number = n_is ∙ rw (← param, ← v_as, ← o_as, count_is) refl in
    number_put m memory old new at count n number at_is count_is few room long
    (sym (mod-mod n (2 ^ (8 * count))) ∙ ap (λ k. k % 2 ^ (8 * count)) number_is) new_is is

pub logical_done : {w : ℕ} (m : MessageA w) (operation : Logical) (memory : Memory) (old mid new : List ℕ)
    (at first count : ℕ) → IsWidth w → Some operation ≡ logical_of m.param
    → at ≡ m.address % 64 → first ≡ m.address % w → count ≡ 2 ^ m.size → at + count ≤ 64 → first + count ≤ 64
    → length old ≡ 64 → length m.payload ≡ 64
    → mid ≡ zip2 (logical_result operation) (take count (drop at old)) (take count (drop first m.payload))
    → ((i : ℕ) → get_or (take count (drop at old)) i 0 < 256)
    → ((i : ℕ) → get_or (take count (drop first m.payload)) i 0 < 256)
    → new ≡ take at old ++ (mid ++ drop count (drop at old))
    → IsBlock memory (m.address / 64) old
    → IsBlock (with_number m (number_stored m (by_param logical_result (logical_of m.param)) memory) memory)
    (m.address / 64) new
logical_done {w} m operation memory old mid new at first count is_width param at_is first_is count_is room from long
    long_payload mid_is old_fits operand_fits spliced is =
    let new_is : new ≡ take at old ++ mid ++ drop (at + count) old =
    spliced ∙ rw drop-drop (sym (append_assoc (take at old) mid (drop (at + count) old))) in
    let room' : m.address % 64 + 2 ^ m.size ≤ 64 = omega arith in
    let olds = take count (drop at old) in
    let operands = take count (drop first m.payload) in
    let v = number_from (λ i. get_or old i 0) at count in
    let o = number_from (λ i. get_or m.payload i 0) first count in
    let v_as : v ≡ number_from memory m.address (2 ^ m.size) = rw (at_is, count_is) (old_value m memory old room' is) in
    let o_as : o ≡ number_from (operand_of m) m.address (2 ^ m.size) =
    rw (first_is, count_is) (operand_value m is_width) in
    let number = number_stored m (by_param logical_result (logical_of m.param)) memory in
    let number_is : logical_result operation v o ≡ number = rw (← param, ← v_as, ← o_as) refl in
    let olds_long : length olds ≡ count = length-take-le count (drop at old) (omega (arith, length-drop at old)) in
    let operands_long : length operands ≡ count =
    length-take-le count (drop first m.payload) (omega (arith, length-drop first m.payload)) in
    let mid_long : length mid ≡ count =
    ap length mid_is ∙ length-zip2 (logical_result operation) olds operands (omega arith) ∙ olds_long in
    let old_byte : (j : ℕ) → j < count → byte_of v j ≡ get_or olds j 0 =
    λ j lt. number_byte (λ i. get_or old i 0) at count j
    (λ i less. rw (part_byte old at count i less) at (old_fits i)) lt ∙ sym (part_byte old at count j lt) in
    let operand_byte : (j : ℕ) → j < count → byte_of o j ≡ get_or operands j 0 =
    λ j lt. number_byte (λ i. get_or m.payload i 0) first count j
    (λ i less. rw (part_byte m.payload first count i less) at (operand_fits i)) lt
    ∙ sym (part_byte m.payload first count j lt) in
    number_written m number memory old new room' is
    (λ j lt.
    let less : j < count = omega arith in
    ap (λ k. get_or new (k + j) 0) (sym at_is) ∙ splice_inside at count old mid new mid_long (omega arith) new_is j less
    ∙ ap (λ xs. get_or xs j 0) mid_is
    ∙ get_or-zip2 (logical_result operation) olds operands j 0 0 0 (omega arith) (omega arith)
    ∙ rw (← old_byte j less, ← operand_byte j less) (sym (logical_byte operation v o j)) ∙ ap (λ n. byte_of n j)
    number_is)
    (λ i lt out. splice_outside at count old mid new mid_long (omega arith) new_is i
    (rw (← at_is, ← count_is) at out))

-- ---- Puts

choose : (t : Bool) (y z : ℕ) → unwrap_or (cond t (Some y) None) z ≡ cond t y z
choose true y z = refl
choose false y z = refl

pub put_done : {w : ℕ} (m : MessageA w) (memory : Memory) (old new moved : List ℕ) (base : ℕ) → IsWidth w
    → a_carries_data m.opcode ≡ true → length old ≡ 64 → length m.payload ≡ 64 → length moved ≡ 64
    → base ≡ base_of w m.address → moved ≡ moved_up base m.payload
    → new ≡ merged (m.mask * 2 ^ base % 2 ^ 64) 0 old moved
    → IsBlock memory (m.address / 64) old
    → IsBlock (after a.PutFullData m memory) (m.address / 64) new
put_done {w} m memory old new moved base is_width carries long long_payload long_moved base_is moved_is new_is is =
    λ i lt.
    let x = 64 * (m.address / 64) + i in
    let start : w * (m.address / w) ≡ 64 * (m.address / 64) + base =
    base_in_memory w m.address is_width ∙ ap (λ n. 64 * (m.address / 64) + n) (sym base_is) in
    let new_byte : get_or new i 0 ≡ cond (bit (m.mask * 2 ^ base % 2 ^ 64) i) (get_or moved i 0) (get_or old i 0) =
    ap (λ xs. get_or xs i 0) new_is ∙ merged_byte (m.mask * 2 ^ base % 2 ^ 64) 0 old moved i (omega arith) (omega arith)
    ∙ rw zero-add refl in
    elim (cases_lt i base) [
      | inl below ↦ rw (
        new_byte,
        shifted_bit_below m.mask base i lt below,
        carries,
        lt-leb (w * (m.address / w)) x
            (omega arith),
      ) (is i lt)
      | inr from ↦
          let place : x - w * (m.address / w) ≡ i - base = omega arith in
          let byte : slice_get m.payload (i - base) ≡ Some (get_or m.payload (i - base) 0) =
          slice_get-get_or m.payload (i - base) 0 (omega arith) in
          let moved_one : get_or moved i 0 ≡ get_or m.payload (i - base) 0 =
          ap (λ xs. get_or xs i 0) moved_is ∙ moved_byte base m.payload i from lt in
          rw (
            new_byte,
            shifted_bit_from m.mask base i lt from,
            moved_one,
            carries,
            le-leb (w * (m.address / w)) x
                (omega arith),
            place,
            byte,
          )
          (choose (bit m.mask (i - base)) (get_or m.payload (i - base) 0) (memory x) ∙ ap
          (λ n. cond (bit m.mask (i - base)) (get_or m.payload (i - base) 0) n) (is i lt))
    ]

-- ---- reads

bytes_in_block : (memory : Memory) (old : List ℕ) (x at n : ℕ) → at + n ≤ length old
    → ((i : ℕ) → i < n → memory (x + i) ≡ get_or old (at + i) 0) → bytes_from memory x n ≡ take n (drop at old)
unfolding bytes_from
bytes_in_block memory old x at zero le same = refl
bytes_in_block memory old x at (suc n) le same =
    let first : memory x ≡ get_or old at 0 = rw (add-zero, add-zero) at (same 0 (omega arith)) in
    let more : (i : ℕ) → i < n → memory (x + 1 + i) ≡ get_or old (at + 1 + i) 0 =
    λ i lt. ap memory (omega arith) ∙ same (i + 1) (omega arith) ∙ ap (λ k. get_or old k 0) (omega arith) in
    rw (drop_more old at 0 (omega arith), first, bytes_in_block memory old (x + 1) (at + 1) n (omega arith) more) refl

pub read_done : {w : ℕ} (m : MessageA w) (memory : Memory) (old out : List ℕ) (at first count : ℕ) → at ≡ m.address % 64
    → first ≡ m.address % w → count ≡ 2 ^ m.size → at + count ≤ 64
    → length old ≡ 64
    → out ≡ as_payload first (take count (drop at old)) → IsBlock memory (m.address / 64) old
    → out ≡ as_payload (m.address % w) (bytes_from memory m.address (byte_count m))
read_done m memory old out at first count at_is first_is count_is room long out_is is =
    let bytes : bytes_from memory m.address count ≡ take count (drop at old) =
    bytes_in_block memory old m.address at count (omega arith)
    (λ i lt. let place : 64 * (m.address / 64) + (at + i) ≡ m.address + i = omega arith in
    ap memory (sym place) ∙ is (at + i) (omega arith)) in
    out_is ∙ rw (← bytes, first_is, count_is) refl

-- ---- what lies elsewhere

reaches_block : {w : ℕ} (m : MessageA w) (n : ℕ) (memory : Memory) (x : ℕ) → m.address % 64 + 2 ^ m.size ≤ 64
    → x / 64 ≢ m.address / 64 → with_number m n memory x ≡ memory x
reaches_block m n memory x room ne = not_reached m n memory x (elim (cases_lt x m.address) [
  | inl below ↦ inl below
  | inr from ↦ elim (cases_lt x (m.address + 2 ^ m.size)) [ inl to ↦ absurd (ne (omega arith)) | inr above ↦ inr above ]
])

carried_room : (w size address : ℕ) → IsWidth w → address % 64 + 2 ^ size ≤ 64
    → base_of w address + w * data_beats w size ≤ 64
carried_room w size address is room = go (cases_Bool (ltb w (2 ^ size)))
  where
    go : (ltb w (2 ^ size) ≡ true) ⊎ (ltb w (2 ^ size) ≡ false) → base_of w address + w * data_beats w size ≤ 64
    go (inl more) =
        let pos : 0 < w = omega (arith, (width-bounds w is).0) in
        let base : base_of w address ≤ address % 64 = omega (arith, div-add-mod' (address % 64) w) in
        rw more (omega arith)
    go (inr few) = rw few (omega (arith, room_of_base w address is))

put_elsewhere : {w : ℕ} (m : MessageA w) (memory : Memory) (x : ℕ) → IsWidth w → a_carries_data m.opcode ≡ true
    → m.address % 64 + 2 ^ m.size ≤ 64 → m.mask < 2 ^ (w * data_beats w m.size)
    → x / 64 ≢ m.address / 64
    → after a.PutFullData m memory x ≡ memory x
put_elsewhere {w} m memory x is carries room blank ne =
    let start = base_in_memory w m.address is in
    let inside = carried_room w m.size m.address is room in
    elim (cases_lt x (w * (m.address / w))) [
      | inl below ↦ rw (carries, lt-leb (w * (m.address / w)) x below) refl
      | inr from ↦
          let past : w * data_beats w m.size ≤ x - w * (m.address / w) =
          elim (cases_lt (x - w * (m.address / w)) (w * data_beats w m.size))
          [ inl lt ↦ absurd (ne (omega arith)) | inr le ↦ le ] in
          let none : bit m.mask (x - w * (m.address / w)) ≡ false =
          ap (λ k. eqb k 1) (bit_at_above m.mask (w * data_beats w m.size) (x - w * (m.address / w)) blank past) in
          rw (carries, le-leb (w * (m.address / w)) x from, none) refl
    ]

-- a request changes no other block than its own
pub effect_elsewhere : {w : ℕ} (m : Message w) → IsWidth w → illegal_message level.UH channel.A m ≡ None
    → IsBlankAfter (beats_of m) m → (memory : Memory) (x : ℕ) → x / 64 ≢ request_block m
    → (effect m memory).0 x ≡ memory x
unfolding effect
effect_elsewhere {w} (A m) is legal blank memory x ne = go m.opcode refl
  where
    room : m.address % 64 + 2 ^ m.size ≤ 64
    room = room_in_block m.size m.address m.small
        (eqb-true (m.address % 2 ^ m.size) 0 (control_aligned w level.UH m.opcode m.param m.size m.address
        (control_of_legal level.UH m is legal)))

    put_is : a_carries_data m.opcode ≡ true → after a.PutFullData m memory x ≡ memory x
    put_is carries = put_elsewhere m memory x is carries room (rw carries at blank.1) ne

    go : (opcode : OpA) → m.opcode ≡ opcode → after opcode m memory x ≡ memory x
    go a.PutFullData e = put_is (ap a_carries_data e)
    go a.PutPartialData e = put_is (ap a_carries_data e)
    go a.ArithmeticData e = reaches_block m _ memory x room ne
    go a.LogicalData e = reaches_block m _ memory x room ne
    go a.Get e = refl
    go a.Intent e = refl
    go a.AcquireBlock e = refl
    go a.AcquirePerm e = refl
effect_elsewhere (B m) is legal blank memory x ne = refl
effect_elsewhere (C m) is legal blank memory x ne = refl
effect_elsewhere (D m) is legal blank memory x ne = refl
effect_elsewhere (E m) is legal blank memory x ne = refl

-- ---- messages

pub message_memory : {w : ℕ} (m : Message w) (r : MessageA w) (old new : List ℕ) → m ≡ A r
    → ((memory : Memory) → IsBlock memory (r.address / 64) old → IsBlock (after r.opcode r memory) (r.address / 64) new)
    → (memory : Memory) → IsBlock memory (request_block m) old → IsBlock (effect m memory).0 (request_block m) new
unfolding effect
message_memory m r old new e h = rw e h

pub message_answer : {w : ℕ} (m : Message w) (r : MessageA w) (old : List ℕ) (out : Answer) → m ≡ A r
    → ((memory : Memory) → IsBlock memory (r.address / 64) old
    → out ≡ answer_at w r.address (access_result r.opcode r memory))
    → (memory : Memory) → IsBlock memory (request_block m) old → out ≡ answer_of m (effect m memory).1
unfolding effect
message_answer m r old out e h = rw e h
