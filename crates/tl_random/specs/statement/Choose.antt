-- The operation of a client, chosen by the words of a generator.
use Rattle.std.specs.Prelude.{ℕ, ◌+◌, ◌-◌, ◌*◌, ◌/◌, ◌^◌, [], ◌∷◌, filter, length, nat_le}
use Rattle.std.specs.Prelude.{bit_and}
use Rattle.rand_core.specs.Stream.{next_u64}
use Rattle.tl_beat.specs.declared.channel.Channel.{Channel}
use Rattle.tl_beat.specs.declared.channel.Channel.TheVariants as channel
use Rattle.tl_burst.specs.statement.Burst.{data_beats}
use Rattle.tl_params.specs.declared.level.Level.{Level}
use Rattle.tl_params.specs.declared.level.Level.TheVariants as level
use Rattle.tl_params.specs.declared.param.Arithmetic.{Arithmetic}
use Rattle.tl_params.specs.declared.param.Arithmetic.TheVariants.{Min, Max, MinU, MaxU, Add}
use Rattle.tl_params.specs.declared.param.Grow.{Grow}
use Rattle.tl_params.specs.declared.param.Grow.TheVariants.{NtoB, NtoT, BtoT}
use Rattle.tl_params.specs.declared.param.Intent.{Intent}
use Rattle.tl_params.specs.declared.param.Intent.TheVariants.{PrefetchRead, PrefetchWrite}
use Rattle.tl_params.specs.declared.param.Logical.{Logical}
use Rattle.tl_params.specs.declared.param.Logical.TheVariants.{Xor, Or, And, Swap}
use Rattle.tl_params.specs.declared.param.Prune.{Prune}
use Rattle.tl_params.specs.declared.param.Prune.TheVariants.{TtoB, TtoN, BtoN}
use Rattle.tl_params.specs.declared.perm.Perm.{Perm}
use Rattle.tl_params.specs.declared.perm.Perm.TheVariants as perm
use Rattle.tl_schedule.specs.statement.EventLine.{lanes_of}
use Rattle.tl_random.specs.declared.request.Asked.{Asked}
use Rattle.tl_random.specs.declared.request.Asked.TheVariants as asked
use Rattle.tl_random.specs.declared.request.Request.{Request}
use Rattle.tl_random.specs.declared.request.Request.TheVariants.{Load, Store, Acquire, Whole, Release, Access}
use Rattle.tl_random.specs.statement.Draw.{Choice, ◌>>=◌, always, below, block_of_bytes, by_either, by_one_of, either}
use Rattle.tl_random.specs.statement.Draw.{one_of}

-- ---- address and size

-- an address in a block, a multiple of 2^size
unfoldable pub address_in : ℕ → ℕ → Choice ℕ
address_in block size = below 64 >>= λ n. always (64 * block + n / 2 ^ size * 2 ^ size)

-- a size of 1 to 8 bytes
unfoldable pub word_size : Choice ℕ
word_size = below 4

-- the size of an atomic: 4 or 8 bytes
unfoldable pub atomic_size : Choice ℕ
atomic_size = either 2 3

-- the most bytes of an access at a level: a beat at TL-UL, a block above it
abbrev pub most_bytes : ℕ → Level → ℕ
most_bytes w level.UL = w
most_bytes w _ = 64

-- the number of sizes, from 0 to 6, with at most this many bytes
abbrev pub sizes_within : ℕ → ℕ
sizes_within most = length (filter (λ size. nat_le (2 ^ size) most) (0 ∷ 1 ∷ 2 ∷ 3 ∷ 4 ∷ 5 ∷ 6 ∷ []))

-- the size of an access at a level
unfoldable pub access_size : ℕ → Level → Choice ℕ
access_size w l = below (sizes_within (most_bytes w l))

-- ---- data and params

-- a number of 2^size bytes: the highest bytes of a word
unfoldable pub value_of : ℕ → Choice ℕ
value_of size s = ((next_u64 s).0 / 2 ^ (64 - 8 * 2 ^ size), (next_u64 s).1)

-- any of the lanes of an access
unfoldable pub mask_of : ℕ → ℕ → ℕ → Choice ℕ
mask_of w size address s =
    (bit_and (next_u64 s).0 (lanes_of w size address (data_beats w size)), (next_u64 s).1)

-- an operation of ArithmeticData, each with the same chances
unfoldable pub arithmetic : Choice Arithmetic
arithmetic = one_of 5 ((1, Min) ∷ (1, Max) ∷ (1, MinU) ∷ (1, MaxU) ∷ []) Add

-- an operation of LogicalData, each with the same chances
unfoldable pub logical : Choice Logical
logical = one_of 4 ((1, Xor) ∷ (1, Or) ∷ (1, And) ∷ []) Swap

-- an intent, each with the same chances
unfoldable pub intent : Choice Intent
intent = either PrefetchRead PrefetchWrite

-- BtoT from Branch, otherwise NtoB or NtoT, which don't fit Trunk
unfoldable pub grow_from : Perm → Choice Grow
grow_from perm.Branch = always BtoT
grow_from _ = either NtoB NtoT

-- TtoB or TtoN from Trunk, otherwise BtoN, which doesn't fit None
unfoldable pub prune_from : Perm → Choice Prune
prune_from perm.Trunk = either TtoB TtoN
prune_from _ = always BtoN

-- ---- accesses

-- a PutPartialData
abbrev pub part : ℕ → ℕ → ℕ → Choice Asked
part w size address = mask_of w size address >>= λ mask. block_of_bytes >>= λ bytes. always (asked.Part mask bytes)

-- a Get, PutFullData or PutPartialData
unfoldable pub plain_access : ℕ → Level → ℕ → Choice Request
plain_access w l block =
    access_size w l >>= λ size. address_in block size >>= λ address.
    by_one_of 3 ((1, always asked.Get) ∷ (1, block_of_bytes >>= λ bytes. always (asked.Put bytes)) ∷ [])
    (part w size address)
    >>= λ a. always (Access size address a)

-- an ArithmeticData or LogicalData
unfoldable pub atomic : ℕ → Choice Request
atomic block =
    atomic_size >>= λ size. address_in block size >>= λ address.
    by_either (arithmetic >>= λ operation. block_of_bytes >>= λ bytes. always (asked.Arith operation bytes))
    (logical >>= λ operation. block_of_bytes >>= λ bytes. always (asked.Logic operation bytes))
    >>= λ a. always (Access size address a)

-- an Intent
unfoldable pub hint : ℕ → Level → ℕ → Choice Request
hint w l block =
    access_size w l >>= λ size. address_in block size >>= λ address. intent >>= λ i.
    always (Access size address (asked.Hint i))

-- an access that the level has
unfoldable pub access : ℕ → Level → ℕ → Choice Request
access w level.UL block = plain_access w level.UL block
access w l block = by_one_of 6 ((3, plain_access w l block) ∷ (2, atomic block) ∷ []) (hint w l block)

-- ---- operations

-- a Load in this block
unfoldable pub load : ℕ → Choice Request
load block = word_size >>= λ size. address_in block size >>= λ address. always (Load size address)

-- a Store in this block
unfoldable pub store : ℕ → Choice Request
store block =
    word_size >>= λ size. address_in block size >>= λ address. value_of size >>= λ value.
    always (Store size address value)

-- an Acquire of this block by a client that holds this permission
abbrev pub acquire : ℕ → Perm → Choice Request
acquire block held = grow_from held >>= λ grow. always (Acquire block grow)

-- an AcquireWhole of this block
abbrev pub whole : ℕ → Choice Request
whole block = block_of_bytes >>= λ bytes. always (Whole block bytes)

-- a Release of this block by a client that holds this permission
abbrev pub release : ℕ → Perm → Choice Request
release block held = prune_from held >>= λ prune. always (Release block prune)

-- an operation of a client of TL-C that holds this permission of the block
unfoldable pub of_copies : ℕ → ℕ → Perm → Choice Request
of_copies w block held =
    by_one_of 12
    ((2, load block) ∷ (3, store block) ∷ (2, acquire block held) ∷ (1, whole block) ∷ (2, release block held) ∷ [])
    (access w level.C block)

-- an operation of a client of this level that holds this permission of the block
unfoldable pub request : ℕ → Level → ℕ → Perm → Choice Request
request w level.C block held = of_copies w block held
request w l block held = access w l block

-- a channel of the level
unfoldable pub channel_of : Level → Choice Channel
channel_of level.C = one_of 5 ((1, channel.A) ∷ (1, channel.B) ∷ (1, channel.C) ∷ (1, channel.D) ∷ []) channel.E
channel_of _ = either channel.A channel.D
