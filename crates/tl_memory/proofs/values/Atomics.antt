-- What an atomic leaves in its block.
use Rattle.tl_memory.proofs.Imports.{Beat, OpA, a_carries_data, IsWidth, MessageA, bit, data_beats, reaches, first_if}
use Rattle.tl_memory.proofs.Imports.{L1, L2, L3, a_has_param, a_has_size, a_of_level, base_of, base_in_memory, Access}
use Rattle.tl_memory.proofs.Imports.{access_writes, writes, Level}
use Rattle.tl_bytes.specs.statement.Bytes.{is_put}
use Rattle.std.proofs.Common.{◌≡◌, ℕ, Bool, true, false, not, ◌&&◌, ◌+◌, ◌-◌, ◌*◌, ◌/◌, ◌%◌, ◌^◌, ◌<◌, ◌≤◌, List}
use Rattle.std.proofs.Common.{length, refl, sym, ap, ◌∙◌, ◌⊎◌, [], ◌∷◌, arith, inl, inr, pow_pos}
use Rattle.std.specs.Prelude.{if◌then◌else◌, nat_le, nat_lt, None, Option, slice_index, unwrap_or, ◌==◌}
use Rattle.std.proofs.lemmas.Bool.{cases_eq, eqb-true, ne_eqb}
use Rattle.std.{proofs.lemmas.Nat.div-add-mod', proofs.Math.Nat.div-eq_of_lt, specs.Bool.beq}
use Rattle.tl_burst.specs.declared.message.Message.{Message}
use Rattle.tl_burst.specs.statement.Burst.{beats_of, mask_at}
use Rattle.tl_beat.specs.declared.channel.Channel.{Channel}
use Rattle.tl_rules.{specs.code.Control.a_control, specs.code.Control.a_own, proofs.Checks.a_beats, proofs.Checks.both}
use Rattle.tl_rules.{proofs.Legal.legal_from_beats, specs.code.Place.moved_up, proofs.Blocks.moved_byte}
use Rattle.tl_rules.{proofs.Places.number_same, proofs.Rooms.room_in_block}
use Rattle.tl_rules.specs.statement.Legality.{a_has_mask, each_below, illegal_message, is_aligned, is_full_mask, is_one_of}
use Rattle.tl_rules.specs.statement.Effect.{IsBlock, Memory, after, effect, number_from, operand_of, arithmetic_result}
use Rattle.tl_rules.specs.statement.Effect.{by_param, byte_of, logical_result}
use Rattle.tl_params.{specs.declared.rule.Rule.Rule, specs.declared.rule.Rule.TheVariants.L4}
use Rattle.tl_params.specs.statement.Param.{arithmetic_of, logical_of}
use Rattle.tl_bytes.specs.statement.Bytes.{carried_byte, found_memory}
use Rattle.tl_memory.specs.statement.Known.{IsPerformable, is_atomic}

-- an access that writes and is no Put is an atomic
pub atomic-writes : {w : ℕ} (op : OpA) (m : MessageA w) (x : ℕ) → is_put op ≡ false → writes op m x ≡ true
    → (is_atomic op ≡ true) × (reaches m.address m.size x ≡ true) × (a_carries_data op ≡ true)
atomic-writes OpA.ArithmeticData m x e written = (refl, written, refl)
atomic-writes OpA.LogicalData m x e written = (refl, written, refl)
atomic-writes v m x e written = absurd cc

-- what an operation on the numbers that these fields reach leaves
abbrev left_by : (ℕ → ℕ → ℕ → ℕ → ℕ) → ℕ → ℕ → ℕ → ℕ → List ℕ → Memory → ℕ → ℕ
left_by result w param size address payload f x =
    if reaches address size x
    then byte_of (result param size (number_from f address (2 ^ size))
    (number_from (λ y. slice_index payload (y - w * (address / w))) address (2 ^ size))) (x - address)
    else f x

same_left : (result : ℕ → ℕ → ℕ → ℕ → ℕ) (w p q s t b c x : ℕ) (one other : List ℕ) (f g : Memory) → p ≡ q → s ≡ t
    → b ≡ c → number_from f c (2 ^ t) ≡ number_from g c (2 ^ t) → number_from (λ y. slice_index one (y - w * (c / w))) c
    (2 ^ t) ≡ number_from (λ y. slice_index other (y - w * (c / w))) c (2 ^ t) → reaches c t x ≡ true
    → left_by result w p s b one f x ≡ left_by result w q t c other g x
same_left result w p q s t b c x one other f g param size address old operand reach =
    rw (param, size, address, reach, old, operand) refl

-- two atomics of the same fields leave the same of memories and operands that are the same where they reach
same_after : {w : ℕ} (op : OpA) (m r : MessageA w) (f g : Memory) (x : ℕ) → is_atomic op ≡ true → m.param ≡ r.param
    → m.size ≡ r.size → m.address ≡ r.address → number_from f r.address (2 ^ r.size) ≡ number_from g r.address
    (2 ^ r.size) → number_from (λ y. slice_index m.payload (y - w * (r.address / w))) r.address (2 ^ r.size)
    ≡ number_from (operand_of r) r.address (2 ^ r.size) → reaches r.address r.size x ≡ true
    → after op m f x ≡ after op r g x
same_after {w} OpA.ArithmeticData m r f g x is param size address old operand reach =
    same_left (λ p s. by_param (λ o. arithmetic_result o (8 * 2 ^ s)) (arithmetic_of p)) w m.param r.param m.size r.size
    m.address r.address x m.payload r.payload f g param size address old operand reach
same_after {w} OpA.LogicalData m r f g x is param size address old operand reach =
    same_left (λ p s. by_param logical_result (logical_of p)) w m.param r.param m.size r.size
    m.address r.address x m.payload r.payload f g param size address old operand reach
same_after OpA.PutFullData m r f g x is param size address old operand reach = absurd cc
same_after OpA.PutPartialData m r f g x is param size address old operand reach = absurd cc
same_after OpA.Get m r f g x is param size address old operand reach = absurd cc
same_after OpA.Intent m r f g x is param size address old operand reach = absurd cc
same_after OpA.AcquireBlock m r f g x is param size address old operand reach = absurd cc
same_after OpA.AcquirePerm m r f g x is param size address old operand reach = absurd cc

unmasked : (result : ℕ → ℕ → ℕ → ℕ → ℕ) (w p q s t b c x : ℕ) (one other : List ℕ) (f : Memory)
    → p ≡ q → s ≡ t → b ≡ c → one ≡ other → left_by result w p s b one f x ≡ left_by result w q t c other f x
unmasked result w p q s t b c x one other f param size address payload = rw (param, size, address, payload) refl

-- and whatever their masks are
pub same-fields : {w : ℕ} (op : OpA) (m r : MessageA w) (f : Memory) (x : ℕ) → is_atomic op ≡ true → m.param ≡ r.param
    → m.size ≡ r.size → m.address ≡ r.address → m.payload ≡ r.payload → after op m f x ≡ after op r f x
same-fields {w} OpA.ArithmeticData m r f x is param size address payload =
    unmasked (λ p s. by_param (λ o. arithmetic_result o (8 * 2 ^ s)) (arithmetic_of p)) w m.param r.param m.size r.size
    m.address r.address x m.payload r.payload f param size address payload
same-fields {w} OpA.LogicalData m r f x is param size address payload =
    unmasked (λ p s. by_param logical_result (logical_of p)) w m.param r.param m.size r.size
    m.address r.address x m.payload r.payload f param size address payload
same-fields OpA.PutFullData m r f x is param size address payload = absurd cc
same-fields OpA.PutPartialData m r f x is param size address payload = absurd cc
same-fields OpA.Get m r f x is param size address payload = absurd cc
same-fields OpA.Intent m r f x is param size address payload = absurd cc
same-fields OpA.AcquireBlock m r f x is param size address payload = absurd cc
same-fields OpA.AcquirePerm m r f x is param size address payload = absurd cc

-- what was performed on the bytes that an answer brought is what the access leaves of the memory that it found
pub atomic-leaves : {w : ℕ} (access : Access w) (m : MessageA w) (found block new : List ℕ) (base p : ℕ)
    (answer : List (Beat w)) → IsWidth w → m.opcode ≡ access.request.opcode → m.param ≡ access.request.param
    → m.size ≡ access.request.size → m.address ≡ access.request.address → is_put access.request.opcode ≡ false
    → base ≡ base_of w access.request.address → block ≡ moved_up base found
    → ((q : ℕ) → q < 64 → slice_index found q ≡ unwrap_or (carried_byte answer q) 0)
    → ((q : ℕ) → q < length access.request.payload → slice_index m.payload q ≡ slice_index access.request.payload q)
    → IsPerformable w access.request.opcode access.request.param access.request.size access.request.address
    → access.request.address % w + 2 ^ access.request.size ≤ length access.request.payload
    → ((memory : Memory) → is_atomic m.opcode ≡ true → IsPerformable w m.opcode m.param m.size m.address
    → IsBlock memory (m.address / 64) block → IsBlock (after m.opcode m memory) (m.address / 64) new) → p < 64
    → access_writes (64 * (access.request.address / 64) + p) access ≡ true
    → slice_index new p ≡ (effect (Message.A access.request) (found_memory access.request answer)).0
    (64 * (access.request.address / 64) + p)
unfolding effect
atomic-leaves {w} access m found block new base p answer is opcode param size address put base_is block_is found_is
    payload_is lawful whole performs lt written =
    let r = access.request in
    let x = 64 * (r.address / 64) + p in
    let atomic = atomic-writes r.opcode r x put written in
    let memory : Memory = λ y. slice_index block (y - 64 * (r.address / 64)) in
    let lawful_m : IsPerformable w m.opcode m.param m.size m.address = rw (opcode, param, size, address) lawful in
    let is_block : IsBlock memory (m.address / 64) block =
    λ i less. ap (slice_index block) (offset m.address r.address i address) in
    let done = performs memory (ap is_atomic opcode ∙ atomic.0) lawful_m is_block p lt in
    sym done ∙ ap (λ n. after m.opcode m memory (64 * (n / 64) + p)) address
    ∙ ap (λ o. after o m memory x) opcode
    ∙ same_after r.opcode m r memory (found_memory r answer) x atomic.0 param size address
    (number_same memory (found_memory r answer) r.address r.address (2 ^ r.size) (λ i less. found_at i less))
    (number_same (λ y. slice_index m.payload (y - w * (r.address / w))) (operand_of r) r.address r.address (2 ^ r.size)
    (λ i less. payload_is (r.address + i - w * (r.address / w)) (operand_inside i less)))
    atomic.1
  where
    offset : (b c i : ℕ) → b ≡ c → 64 * (b / 64) + i - 64 * (c / 64) ≡ i
    offset b c i e = rw e (omega arith)

    room : access.request.address % 64 + 2 ^ access.request.size ≤ 64
    room = room_in_block access.request.size access.request.address access.request.small
        (eqb-true (access.request.address % 2 ^ access.request.size) 0 lawful.aligned)

    start : w * (access.request.address / w) ≡ 64 * (access.request.address / 64) + base
    start = base_in_memory w access.request.address is ∙ ap (λ n. 64 * (access.request.address / 64) + n) (sym base_is)

    below : base ≤ access.request.address % 64
    below = let whole = div-add-mod' access.request.address w in omega (
      arith,
      start,
      whole,
      turned w (access.request.address / w),
    )
      where
        turned : (m n : ℕ) → m * n ≡ n * m
        turned m n = omega arith

    found_at : (i : ℕ) → i < 2 ^ access.request.size
        → slice_index block (access.request.address + i - 64 * (access.request.address / 64))
        ≡ found_memory access.request answer (access.request.address + i)
    found_at i less =
        let place : access.request.address + i - 64 * (access.request.address / 64)
        ≡ access.request.address % 64 + i = omega arith in
        let inside : access.request.address % 64 + i < 64 = omega (arith, room, less) in
        let same : access.request.address % 64 + i - base
        ≡ access.request.address + i - w * (access.request.address / w) = omega (arith, start, below) in
        ap (slice_index block) place ∙ ap (λ xs. slice_index xs (access.request.address % 64 + i)) block_is
        ∙ moved_byte base found (access.request.address % 64 + i) (omega (arith, below)) inside
        ∙ found_is (access.request.address % 64 + i - base) (omega (arith, inside))
        ∙ ap (λ n. unwrap_or (carried_byte answer n) 0) same

    operand_inside : (i : ℕ) → i < 2 ^ access.request.size
        → access.request.address + i - w * (access.request.address / w) < length access.request.payload
    operand_inside i less =
        let parts = div-add-mod' access.request.address w in
        let turned : access.request.address / w * w ≡ w * (access.request.address / w) = omega arith in
        omega (arith, parts, turned, whole, less)

-- ---- an atomic with its whole mask breaks no rule

passed : (b : Bool) (r : Rule) (rest : Option Rule) → b ≡ true → rest ≡ None → first_if (not b) r rest ≡ None
passed b r rest e f = rw (e, f) refl

two_or_three : (size : ℕ) → is_one_of size (2 ∷ 3 ∷ []) ≡ true → (size ≡ 2) ⊎ (size ≡ 3)
two_or_three size e = elim (cases_eq size 2) [
  | inl two ↦ inl two
  | inr apart ↦ elim (cases_eq size 3) [
    | inl three ↦ inr three
    | inr far ↦ absurd (none (rw (ne_eqb size 2 apart, ne_eqb size 3 far) at e))
  ]
]
  where
    none : false ≡ true → ⊥
    none e = cc

-- the sizes of atomics, which are the same at each level
atomic_sized : (w : ℕ) (op : OpA) (size : ℕ) → is_atomic op ≡ true → a_has_size w Level.UH op size ≡ true
    → (size ≡ 2) ⊎ (size ≡ 3)
atomic_sized w OpA.ArithmeticData size is e = two_or_three size e
atomic_sized w OpA.LogicalData size is e = two_or_three size e
atomic_sized w v size is e = absurd cc

atomic_mask : (w : ℕ) (op : OpA) (size address mask : ℕ) → is_atomic op ≡ true
    → a_has_mask w op size address mask ≡ is_full_mask w size address mask
atomic_mask w OpA.ArithmeticData size address mask is = refl
atomic_mask w OpA.LogicalData size address mask is = refl
atomic_mask w v size address mask is = absurd cc

-- the mask of each beat is that of its lanes
abbrev whole_mask : ℕ → ℕ → ℕ
whole_mask size k = (if size == 2 then 15 else 255) * 2 ^ k % 2 ^ 64

module _ (address i : ℕ) where
  full_at : (w size k : ℕ) → address % w ≡ k
      → each_below 16 (λ lane. beq (bit (mask_at w (whole_mask size k) i) lane)
      (if nat_le w (2 ^ size) then nat_lt lane w else nat_le k lane && nat_lt lane (k + 2 ^ size))) ≡ true
      → is_full_mask w size address (mask_at w (whole_mask size (address % w)) i) ≡ true
  full_at w size k e computed = rw e computed

  full_4_2 : i ≡ 0 → address % 4 ≡ 0 → is_full_mask 4 2 address (mask_at 4 (whole_mask 2 (address % 4)) i) ≡ true
  unfolding each_below
  full_4_2 first e = full_at 4 2 0 e (rw first refl)

  full_4_3 : i < 2 → address % 4 ≡ 0 → is_full_mask 4 3 address (mask_at 4 (whole_mask 3 (address % 4)) i) ≡ true
  unfolding each_below
  full_4_3 lt e = full_at 4 3 0 e (elim (cases_eq i 0) [
    | inl first ↦ rw first refl
    | inr other ↦ let second : i ≡ 1 = omega (arith, lt, other) in rw second refl
  ])

  full_8_2 : i ≡ 0 → address % 4 ≡ 0 → is_full_mask 8 2 address (mask_at 8 (whole_mask 2 (address % 8)) i) ≡ true
  unfolding each_below
  full_8_2 first e = elim (cases_eq (address % 8) 0) [
    | inl low ↦ full_at 8 2 0 low (rw first refl)
    | inr high ↦ full_at 8 2 4 (omega (arith, e, high)) (rw first refl)
  ]

  full_8_3 : i ≡ 0 → address % 8 ≡ 0 → is_full_mask 8 3 address (mask_at 8 (whole_mask 3 (address % 8)) i) ≡ true
  unfolding each_below
  full_8_3 first e = full_at 8 3 0 e (rw first refl)

  full_16_2 : i ≡ 0 → address % 4 ≡ 0 → is_full_mask 16 2 address (mask_at 16 (whole_mask 2 (address % 16)) i) ≡ true
  unfolding each_below
  full_16_2 first e = elim (cases_eq (address % 16) 0) [
    | inl zero ↦ full_at 16 2 0 zero (rw first refl)
    | inr n0 ↦ elim (cases_eq (address % 16) 4) [
      | inl four ↦ full_at 16 2 4 four (rw first refl)
      | inr n4 ↦ elim (cases_eq (address % 16) 8) [
        | inl eight ↦ full_at 16 2 8 eight (rw first refl)
        | inr n8 ↦ full_at 16 2 12 (omega (arith, e, n0, n4, n8)) (rw first refl)
      ]
    ]
  ]

  full_16_3 : i ≡ 0 → address % 8 ≡ 0 → is_full_mask 16 3 address (mask_at 16 (whole_mask 3 (address % 16)) i) ≡ true
  unfolding each_below
  full_16_3 first e = elim (cases_eq (address % 16) 0) [
    | inl low ↦ full_at 16 3 0 low (rw first refl)
    | inr high ↦ full_at 16 3 8 (omega (arith, e, high)) (rw first refl)
  ]

-- in each width and size
full_mask : (w size address i : ℕ) → IsWidth w → (size ≡ 2) ⊎ (size ≡ 3) → address % 2 ^ size ≡ 0
    → i < data_beats w size → is_full_mask w size address (mask_at w (whole_mask size (address % w)) i) ≡ true
full_mask w size address i (inl w4) (inl s) e lt = rw (w4, s)
    (full_4_2 address i (zero_at (rw (w4, s) at lt)) (rw s at e))
  where
    zero_at : i < 1 → i ≡ 0
    zero_at less = omega (arith, less)
full_mask w size address i (inl w4) (inr s) e lt = rw (w4, s)
    (full_4_3 address i (rw (w4, s) at lt) (fourth (rw s at e)))
  where
    fourth : address % 8 ≡ 0 → address % 4 ≡ 0
    fourth h = omega (arith, h)
full_mask w size address i (inr (inl w8)) (inl s) e lt = rw (w8, s)
    (full_8_2 address i (zero_at (rw (w8, s) at lt)) (rw s at e))
  where
    zero_at : i < 1 → i ≡ 0
    zero_at less = omega (arith, less)
full_mask w size address i (inr (inl w8)) (inr s) e lt = rw (w8, s)
    (full_8_3 address i (zero_at (rw (w8, s) at lt)) (rw s at e))
  where
    zero_at : i < 1 → i ≡ 0
    zero_at less = omega (arith, less)
full_mask w size address i (inr (inr w16)) (inl s) e lt = rw (w16, s)
    (full_16_2 address i (zero_at (rw (w16, s) at lt)) (rw s at e))
  where
    zero_at : i < 1 → i ≡ 0
    zero_at less = omega (arith, less)
full_mask w size address i (inr (inr w16)) (inr s) e lt = rw (w16, s)
    (full_16_3 address i (zero_at (rw (w16, s) at lt)) (rw s at e))
  where
    zero_at : i < 1 → i ≡ 0
    zero_at less = omega (arith, less)

pub atomic_carries : (op : OpA) → is_atomic op ≡ true → a_carries_data op ≡ true
atomic_carries OpA.ArithmeticData e = refl
atomic_carries OpA.LogicalData e = refl
atomic_carries v e = absurd cc

own_legal : (w : ℕ) (op : OpA) (size address mask : ℕ) → is_atomic op ≡ true → is_full_mask w size address mask ≡ true
    → a_own w op size address mask false ≡ None
own_legal w op size address mask is full = rw (atomic_mask w op size address mask is, full) refl

no_bit : (n i : ℕ) → n ≡ 0 → bit n i ≡ false
no_bit n i e = rw (e, div-eq_of_lt (pow_pos i)) refl

-- an atomic that breaks no rule has one of these sizes
pub performable-sized : (w : ℕ) (op : OpA) (param size address : ℕ) → is_atomic op ≡ true
    → IsPerformable w op param size address → (size ≡ 2) ⊎ (size ≡ 3)
performable-sized w op param size address atomic lawful = atomic_sized w op size atomic lawful.has_size

control : {w : ℕ} {op : OpA} {param size address : ℕ} → IsPerformable w op param size address
    → a_control w Level.UH op param size address ≡ None
control {w} {op} {param} {size} {address} lawful =
    passed (a_of_level Level.UH op) L1 _ lawful.of_level
    (passed (a_has_param op param) L2 _ lawful.has_param
    (passed (a_has_size w Level.UH op size) L3 _ lawful.has_size
    (passed (is_aligned address size) L4 None lawful.aligned refl)))

-- and lies in its block
pub performable-room : (w : ℕ) (op : OpA) (param size address : ℕ) → is_atomic op ≡ true
    → IsPerformable w op param size address → address % 64 + 2 ^ size ≤ 64
performable-room w op param size address atomic lawful = room_in_block size address (elim
    (performable-sized w op param size address atomic lawful) [
      | inl two ↦ omega (arith, two)
      | inr three ↦ omega (arith, three)
    ])
    (eqb-true (address % 2 ^ size) 0 lawful.aligned)

pub atomic-legal : {w : ℕ} (m : MessageA w) → IsWidth w → is_atomic m.opcode ≡ true
    → IsPerformable w m.opcode m.param m.size m.address → m.mask ≡ whole_mask m.size (m.address % w) → m.corrupt ≡ 0
    → illegal_message Level.UH Channel.A (Message.A m) ≡ None
atomic-legal {w} m is atomic lawful mask corrupt = legal_from_beats Level.UH Channel.A (Message.A m) (λ i lt.
    a_beats Level.UH m i ∙ both (a_control w Level.UH m.opcode m.param m.size m.address) _ (control lawful)
    (ap (λ b. a_own w m.opcode m.size m.address (mask_at w m.mask i) b) (no_bit m.corrupt i corrupt)
    ∙ ap (λ n. a_own w m.opcode m.size m.address (mask_at w n i) false) mask
    ∙ own_legal w m.opcode m.size m.address (mask_at w (whole_mask m.size (m.address % w)) i) atomic
    (full_mask w m.size m.address i is sized aligned (beats i lt))))
  where
    sized : (m.size ≡ 2) ⊎ (m.size ≡ 3)
    sized = performable-sized w m.opcode m.param m.size m.address atomic lawful

    aligned : m.address % 2 ^ m.size ≡ 0
    aligned = eqb-true (m.address % 2 ^ m.size) 0 lawful.aligned

    beats : (i : ℕ) → i < beats_of (Message.A m) → i < data_beats w m.size
    beats i lt = rw (atomic_carries m.opcode atomic) at lt
