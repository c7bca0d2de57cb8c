-- What an access does and is answered depends on its own block alone.
use Rattle.std.proofs.Common.{◌≡◌, ℕ, zero, suc, ◌+◌, ◌*◌, ◌/◌, ◌%◌, ◌^◌, ◌<◌, ◌≤◌, ◌∷◌, refl, ap, ap₂, arith}
use Rattle.std.specs.Prelude.{unwrap_or}
use Rattle.tl_beat.specs.declared.opcode.OpA.{OpA}
use Rattle.tl_beat.specs.declared.opcode.OpA.TheVariants as a
use Rattle.tl_burst.specs.declared.message.MessageA.{MessageA}
use Rattle.tl_burst.specs.declared.message.Message.TheVariants.{A}
use Rattle.tl_burst.specs.statement.Burst.{byte_at}
use Rattle.tl_params.specs.statement.Param.{arithmetic_of, logical_of}
use Rattle.tl_rules.specs.statement.Effect.{Memory, bytes_from, number_from, operand_of, byte_count, number_stored}
use Rattle.tl_rules.specs.statement.Effect.{with_number, by_param, arithmetic_result}
use Rattle.tl_rules.specs.statement.Effect.{logical_result, after, Bytes, access_result, SameBlock}
use Rattle.tl_rules.proofs.Places.{number_same}

pub bytes_same : (f g : Memory) (x n : ℕ) → ((i : ℕ) → i < n → f (x + i) ≡ g (x + i))
    → bytes_from f x n ≡ bytes_from g x n
unfolding bytes_from
bytes_same f g x zero e = refl
bytes_same f g x (suc n) e =
    let here : f x ≡ g x = rw (let none : x + 0 ≡ x = omega arith in none) at (e 0 (omega arith)) in
    ap₂ (λ b bs. b ∷ bs) here (bytes_same f g (x + 1) n (λ i lt. let next : x + 1 + i ≡ x + (i + 1) = omega arith in
    rw next (e (i + 1) (omega (arith, lt)))))

-- the bytes that a request reaches are of one block
in_block : (address n i : ℕ) → address % 64 + n ≤ 64 → i < n → (address + i) / 64 ≡ address / 64
in_block address n i room lt = omega (arith, room, lt)

reached_same : {w : ℕ} (m : MessageA w) (f g : Memory) → m.address % 64 + 2 ^ m.size ≤ 64
    → SameBlock (m.address / 64) f g → (i : ℕ) → i < 2 ^ m.size → f (m.address + i) ≡ g (m.address + i)
reached_same m f g room same i lt = same (m.address + i) (in_block m.address (2 ^ m.size) i room lt)

stored_same : {w : ℕ} (m : MessageA w) (result : ℕ → ℕ → ℕ) (f g : Memory) → m.address % 64 + 2 ^ m.size ≤ 64
    → SameBlock (m.address / 64) f g → number_stored m result f ≡ number_stored m result g
stored_same m result f g room same =
    ap (λ n. result n (number_from (operand_of m) m.address (byte_count m)))
    (number_same f g m.address m.address (2 ^ m.size) (reached_same m f g room same))

number_kept : {w : ℕ} (m : MessageA w) (n k : ℕ) (f g : Memory) (x : ℕ) → n ≡ k → f x ≡ g x
    → with_number m n f x ≡ with_number m k g x
number_kept m n k f g x e s = rw (e, s) refl

-- the memory after a request, in its block
pub after-local : {w : ℕ} (opcode : OpA) (m : MessageA w) (f g : Memory) → m.address % 64 + 2 ^ m.size ≤ 64
    → SameBlock (m.address / 64) f g
    → SameBlock (m.address / 64) (after opcode m f) (after opcode m g)
after-local a.PutFullData m f g room same x e = ap (unwrap_or (byte_at 0 (A m) x)) (same x e)
after-local a.PutPartialData m f g room same x e = ap (unwrap_or (byte_at 0 (A m) x)) (same x e)
after-local a.ArithmeticData m f g room same x e =
    let result = by_param (λ o. arithmetic_result o (8 * byte_count m)) (arithmetic_of m.param) in
    number_kept m (number_stored m result f) (number_stored m result g) f g x (stored_same m result f g room same)
    (same x e)
after-local a.LogicalData m f g room same x e =
    let result = by_param logical_result (logical_of m.param) in
    number_kept m (number_stored m result f) (number_stored m result g) f g x (stored_same m result f g room same)
    (same x e)
after-local a.Get m f g room same x e = same x e
after-local a.Intent m f g room same x e = same x e
after-local a.AcquireBlock m f g room same x e = same x e
after-local a.AcquirePerm m f g room same x e = same x e

-- and what it is answered
pub reply-local : {w : ℕ} (opcode : OpA) (m : MessageA w) (f g : Memory) → m.address % 64 + 2 ^ m.size ≤ 64
    → SameBlock (m.address / 64) f g → access_result opcode m f ≡ access_result opcode m g
reply-local a.PutFullData m f g room same = refl
reply-local a.PutPartialData m f g room same = refl
reply-local a.ArithmeticData m f g room same =
    ap Bytes (bytes_same f g m.address (2 ^ m.size) (reached_same m f g room same))
reply-local a.LogicalData m f g room same =
    ap Bytes (bytes_same f g m.address (2 ^ m.size) (reached_same m f g room same))
reply-local a.Get m f g room same = ap Bytes (bytes_same f g m.address (2 ^ m.size) (reached_same m f g room same))
reply-local a.Intent m f g room same = refl
reply-local a.AcquireBlock m f g room same = refl
reply-local a.AcquirePerm m f g room same = refl
