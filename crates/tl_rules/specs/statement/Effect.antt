-- The effect of a request on a memory, and the answer to it.
use Rattle.std.specs.Prelude.{ℕ, zero, suc, ◌+◌, ◌-◌, ◌*◌, ◌/◌, ◌%◌, ◌^◌, ◌<◌, ◌≡◌, nat_lt, min, max, ℤ, pos, ◌-ℤ◌}
use Rattle.std.specs.Prelude.{int_lt, bit_xor, bit_or, bit_and}
use Rattle.std.specs.Prelude.{if◌then◌else◌, List, [], ◌∷◌, ◌++◌, length, replicate, slice_index, Option, Some, None}
use Rattle.std.specs.Prelude.{unwrap_or}
use Rattle.tl_beat.specs.declared.opcode.OpA.{OpA}
use Rattle.tl_beat.specs.declared.opcode.OpA.TheVariants as a
use Rattle.tl_burst.specs.declared.message.MessageA.{MessageA}
use Rattle.tl_burst.specs.declared.message.Message.{Message}
use Rattle.tl_burst.specs.declared.message.Message.TheVariants as message
use Rattle.tl_burst.specs.statement.Burst.{byte_at, reaches}
use Rattle.tl_rules.specs.declared.answer.Answer.{Answer}
use Rattle.tl_rules.specs.declared.answer.Answer.TheVariants as answer
use Rattle.tl_params.specs.declared.param.Arithmetic.{Arithmetic}
use Rattle.tl_params.specs.declared.param.Arithmetic.TheVariants as arithmetic
use Rattle.tl_params.specs.declared.param.Logical.{Logical}
use Rattle.tl_params.specs.declared.param.Logical.TheVariants as logical
use Rattle.tl_params.specs.statement.Param.{arithmetic_of, logical_of}

-- a memory gives the byte at each address
abbrev pub Memory : Type 0
Memory = ℕ → ℕ

-- n bytes of a memory from an address on
unfoldable pub bytes_from : Memory → ℕ → ℕ → List ℕ
bytes_from memory from zero = []
bytes_from memory from (suc n) = memory from ∷ bytes_from memory (from + 1) n

-- the number that n bytes spell, the lowest byte first
unfoldable pub number_from : Memory → ℕ → ℕ → ℕ
number_from memory from zero = 0
number_from memory from (suc n) = memory from + 256 * number_from memory (from + 1) n

-- byte i of a number
abbrev pub byte_of : ℕ → ℕ → ℕ
byte_of n i = n / 256 ^ i % 256

-- ---- atomic operations on numbers below 2 ^ k

-- the value of a number of k bits, read with sign
abbrev pub signed : ℕ → ℕ → ℤ
signed k n = if nat_lt n (2 ^ (k - 1)) then pos n else pos n -ℤ pos (2 ^ k)

-- the result of an arithmetic operation on numbers of k bits; Min and Max compare with sign, Add wraps
abbrev pub arithmetic_result : Arithmetic → ℕ → ℕ → ℕ → ℕ
arithmetic_result arithmetic.Min k old operand = if int_lt (signed k operand) (signed k old) then operand else old
arithmetic_result arithmetic.Max k old operand = if int_lt (signed k old) (signed k operand) then operand else old
arithmetic_result arithmetic.MinU k old operand = min old operand
arithmetic_result arithmetic.MaxU k old operand = max old operand
arithmetic_result arithmetic.Add k old operand = (old + operand) % 2 ^ k

-- the result of a logical operation
abbrev pub logical_result : Logical → ℕ → ℕ → ℕ
logical_result logical.Xor old operand = bit_xor old operand
logical_result logical.Or old operand = bit_or old operand
logical_result logical.And old operand = bit_and old operand
logical_result logical.Swap old operand = operand

-- the result of the operation that the param names; the old number if it names none
abbrev pub by_param : {O : Type 0} → (O → ℕ → ℕ → ℕ) → Option O → ℕ → ℕ → ℕ
by_param result None old operand = old
by_param result (Some operation) old operand = result operation old operand

-- ---- requests

-- the number of bytes of a request
abbrev pub byte_count : {w : ℕ} → MessageA w → ℕ
byte_count m = 2 ^ m.size

-- the operand as a memory: the byte of the payload for each address
abbrev pub operand_of : {w : ℕ} → MessageA w → Memory
operand_of {w} m address = slice_index m.payload (address - w * (m.address / w))

-- the number that an atomic stores: the result of the old number and the operand
abbrev pub number_stored : {w : ℕ} → MessageA w → (ℕ → ℕ → ℕ) → Memory → ℕ
number_stored m result memory = result (number_from memory m.address (byte_count m))
    (number_from (operand_of m) m.address (byte_count m))

-- the memory with this number in place of the bytes of the request
abbrev pub with_number : {w : ℕ} → MessageA w → ℕ → Memory → Memory
with_number m n memory address = if reaches m.address m.size address then byte_of n (address - m.address) else memory
    address

-- the memory after a request
abbrev pub after : {w : ℕ} → OpA → MessageA w → Memory → Memory
after a.PutFullData m memory = λ address. unwrap_or (byte_at 0 (message.A m) address) (memory address)
after a.PutPartialData m memory = λ address. unwrap_or (byte_at 0 (message.A m) address) (memory address)
after a.ArithmeticData m memory =
    with_number m (number_stored m (by_param (λ o. arithmetic_result o (8 * byte_count m)) (arithmetic_of m.param))
    memory) memory
after a.LogicalData m memory = with_number m (number_stored m (by_param logical_result (logical_of m.param)) memory)
    memory
after _ m memory = memory

-- the answer to a request
pub data AccessResult : Type 0 where
  Done : AccessResult
  Hinted : AccessResult
  Bytes : List ℕ → AccessResult

-- the answer to a request at this memory: Done to a Put, the bytes before it to a Get or an atomic, else Hinted
abbrev pub access_result : {w : ℕ} → OpA → MessageA w → Memory → AccessResult
access_result a.PutFullData m memory = Done
access_result a.PutPartialData m memory = Done
access_result a.ArithmeticData m memory = Bytes (bytes_from memory m.address (byte_count m))
access_result a.LogicalData m memory = Bytes (bytes_from memory m.address (byte_count m))
access_result a.Get m memory = Bytes (bytes_from memory m.address (byte_count m))
access_result _ m memory = Hinted

-- the memory after a message, and the answer to it
unfoldable pub effect : {w : ℕ} → Message w → Memory → Memory × AccessResult
effect (message.A m) memory = (after m.opcode m memory, access_result m.opcode m memory)
effect _ memory = (memory, Hinted)

-- ---- blocks

-- these are the 64 bytes of a block
abbrev pub IsBlock : Memory → ℕ → List ℕ → Type 0
IsBlock memory block bytes = (i : ℕ) → i < 64 → memory (64 * block + i) ≡ slice_index bytes i

-- two memories have the same bytes in the block
abbrev pub SameBlock : ℕ → Memory → Memory → Type 0
SameBlock block f g = (address : ℕ) → address / 64 ≡ block → f address ≡ g address

-- the block of a request; 0 for a message of another channel
abbrev pub request_block : {w : ℕ} → Message w → ℕ
request_block (message.A m) = m.address / 64
request_block _ = 0

-- a payload with these bytes from this place on, and zeros before and after them
abbrev pub as_payload : ℕ → List ℕ → List ℕ
as_payload first bytes = replicate first 0 ++ bytes ++ replicate (64 - first - length bytes) 0

-- the answer to a request at this address, as an agent hands it out
abbrev pub answer_at : ℕ → ℕ → AccessResult → Answer
answer_at w address Done = answer.Ack
answer_at w address Hinted = answer.Hint
answer_at w address (Bytes bytes) = answer.Data (as_payload (address % w) bytes)

-- the answer to an access, with the bytes on the lanes of the request's address
abbrev pub answer_of : {w : ℕ} → Message w → AccessResult → Answer
answer_of {w} (message.A m) r = answer_at w m.address r
answer_of {w} _ r = answer_at w 0 r
