-- The state of the bytes of memory, after the beats of all links of a manager.
use Rattle.std.specs.Prelude.{ℕ, Bool, true, false, None, [], ◌∷◌, ◌+◌, ◌*◌, ◌%◌, ◌^◌, ◌==◌, ◌<◌, ◌≤◌}
use Rattle.std.specs.Prelude.{◌≡◌, ◌&&◌, ◌||◌, List, length, filter, find, is_some, Option, Some, slice_index, ⊤}
use Rattle.tl_beat.specs.declared.beat.Beat.{Beat}
use Rattle.tl_beat.specs.declared.beat.Beat.TheVariants as beat
use Rattle.tl_beat.specs.declared.beat.Link.{Link}
use Rattle.tl_beat.specs.declared.opcode.OpA.{OpA}
use Rattle.tl_beat.specs.declared.opcode.OpA.TheVariants as a
use Rattle.tl_beat.specs.statement.Opcode.{a_carries_data}
use Rattle.tl_burst.specs.statement.Burst.{bit, reaches}
use Rattle.tl_params.specs.declared.level.Level.TheVariants as level
use Rattle.tl_params.specs.declared.perm.Perm.{Perm}
use Rattle.tl_params.specs.declared.perm.Perm.TheVariants as perm
use Rattle.tl_rules.specs.statement.Legality.{a_has_param, a_has_size, a_of_level, is_aligned}
use Rattle.tl_rules.specs.statement.Admission.{is_spoiled, lanes_of}
use Rattle.tl_bytes.specs.statement.Bytes.{Access, access_writes, carried_mask, last_window, pending_accesses}
use Rattle.tl_bytes.specs.statement.Bytes.{is_put, may_find, may_read, pending_value}
use Rattle.tl_rules.specs.statement.Conformance.{Trace, on_link, same_perm}
use Rattle.tl_rules.specs.statement.History.{block_at}
use Rattle.tl_rules.specs.statement.Windows.{needs}
use Rattle.tl_bytes.specs.statement.Early.{Outrun, outrun_accesses}
use Rattle.tl_bytes.specs.statement.Free.{is_free}
use Rattle.tl_bytes.specs.statement.Shown.{shows}
use Rattle.tl_bytes.specs.code.Tellings.{is_written, value_at}
use Rattle.tl_bytes.specs.declared.read_bytes.ReadBytes.{ReadBytes}
use Rattle.tl_bytes.specs.declared.write.Write.{Write}
use Rattle.tl_bytes.specs.statement.Known.{KnowsBlock, KnowsCarried, KnowsRead, KnowsWindows, may_bring}
use Rattle.tl_memory.specs.declared.block.BlockState.{BlockState}
use Rattle.tl_memory.specs.declared.early.OutrunAccess.{OutrunAccess}
use Rattle.tl_memory.specs.declared.free.Freedom.{Freedom}
use Rattle.tl_memory.specs.declared.expected.Expected.{Expected}
use Rattle.tl_memory.specs.declared.pending.PendingAccess.{PendingAccess}
use Rattle.tl_memory.specs.declared.access.Asked.{Asked}
use Rattle.tl_memory.specs.declared.message.CarriedMessage.{CarriedMessage}

-- ---- messages

-- the mask of a beat, 0 if its channel has none
abbrev pub mask_of : {w : ℕ} → Beat w → ℕ
mask_of (beat.A x) = x.mask
mask_of _ = 0

-- a block has room for the bytes of one more beat, and the beat's mask has lanes of the beat alone
abbrev pub HasRoom : {w : ℕ} → Beat w → List (Beat w) → Type 0
HasRoom {w} x burst = (w * length burst + w ≤ 64) × (mask_of x < 2 ^ w)

-- these are the bytes and the mask of a message's beats, the newest of which is first, and whether one is corrupt or
-- denied
pub record KnowsMessage {w : ℕ} (m : CarriedMessage) (burst : List (Beat w)) : Type 0 where
  pub bytes_are : KnowsCarried m.bytes burst
  pub mask_is : m.mask ≡ carried_mask burst
  pub mask_below : m.mask < 2 ^ (w * length burst)
  pub spoiled_is : m.spoiled ≡ is_some (find is_spoiled burst)

-- each of these beats has a byte for each lane
abbrev pub AreWide : {w : ℕ} → List (Beat w) → Type 0
AreWide [] = ⊤
AreWide {w} (x ∷ beats) = (length (lanes_of x) ≡ w) × AreWide beats

-- ---- accesses

-- the request is an atomic
abbrev pub is_atomic : OpA → Bool
is_atomic a.ArithmeticData = true
is_atomic a.LogicalData = true
is_atomic _ = false

-- an access with these control fields breaks none of L1 to L4 at TL-UH, which has the accesses of all levels
pub record IsPerformable (w : ℕ) (opcode : OpA) (param size address : ℕ) : Type 0 where
  pub of_level : a_of_level level.UH opcode ≡ true
  pub has_param : a_has_param opcode param ≡ true
  pub has_size : a_has_size w level.UH opcode size ≡ true
  pub aligned : is_aligned address size ≡ true

-- This is the pending access. The mask of a request with data has only bytes that have come. For an atomic whose beats
-- aren't corrupt, the payload has these bytes.
pub record IsAsked {w : ℕ} (asked : Asked w) (access : Access w) : Type 0 where
  pub link_is : asked.link.0 ≡ access.link
  pub opcode_is : asked.request.opcode ≡ access.request.opcode
  pub param_is : asked.request.param ≡ access.request.param
  pub size_is : asked.request.size ≡ access.request.size
  pub source_is : asked.request.source ≡ access.request.source
  pub address_is : asked.request.address ≡ access.request.address
  pub mask_is : asked.request.mask ≡ access.request.mask
  pub spoiled_is : asked.spoiled ≡ access.spoiled
  pub moment_is : asked.moment ≡ access.asked
  pub payload_is : is_atomic access.request.opcode ≡ true → access.spoiled ≡ false → (place : ℕ)
      → place < length access.request.payload
      → slice_index asked.request.payload place ≡ slice_index access.request.payload place
  pub masked : a_carries_data access.request.opcode ≡ true → (place : ℕ) → bit access.request.mask place ≡ true
      → place < length access.request.payload

-- the beats of an atomic's request carried all bytes that it reaches
abbrev pub IsWhole : {w : ℕ} → Access w → Type 0
IsWhole {w} access =
    is_atomic access.request.opcode ≡ true
    → access.request.address % w + 2 ^ access.request.size ≤ length access.request.payload

-- the access breaks no rule by itself, and all its beats have come
abbrev pub IsLawful : {w : ℕ} → Access w → Type 0
IsLawful {w} access =
    IsPerformable w access.request.opcode access.request.param access.request.size access.request.address
    × IsWhole access

-- this is the write of a pending access to the block
abbrev pub IsPendingWrite : {w : ℕ} → Write → ℕ → Access w → Type 0
IsPendingWrite write block access = (place : ℕ) → place < 64
    → (is_written write place ≡ access_writes (64 * block + place) access)
    × (is_written write place ≡ true
    → value_at write place ≡ pending_value access.request.opcode access (64 * block + place))

-- the access is to the block
abbrev pub is_to : {w : ℕ} → ℕ → Access w → Bool
is_to block access = block_at access.request.address == block

-- the access writes in its own block alone
abbrev pub WritesInside : {w : ℕ} → Access w → Type 0
WritesInside access = (address : ℕ) → access_writes address access ≡ true
    → block_at address ≡ block_at access.request.address

-- each of these accesses does
abbrev pub AllWriteInside : {w : ℕ} → List (Access w) → Type 0
AllWriteInside [] = ⊤
AllWriteInside (access ∷ accesses) = WritesInside access × AllWriteInside accesses

-- The bytes that an access may have found after t are kept, but for those that it may find now: if it may be performed
-- now (`admitted`), these are added before the block changes.
abbrev pub KeepsFound : {w : ℕ} → ReadBytes → Bool → ℕ → ℕ → Access w → Trace w → Type 0
KeepsFound read admitted n block access t = (place byte : ℕ) → place < 64
    → may_read n access t (64 * block + place) byte
    ≡ ((admitted && may_find n access t (64 * block + place) byte) || may_bring read place byte)

-- The state of a pending access to the block after the trace `seen`. `admits` says for which permissions an access may
-- be performed then. For a Put the bytes found aren't kept, since its answer has none.
pub record KnowsAccess {w : ℕ} (pending : PendingAccess w) (admits : Perm → Bool) (n block : ℕ) (access : Access w)
    (seen : Trace w) : Type 0 where
  pub asked_is : IsAsked pending.writer.asked access
  pub lawful : IsLawful access
  pub write_is : IsPendingWrite pending.writer.write block access
  pub before : access.asked ≤ length seen
  pub windows_are : KnowsWindows pending.windows n block access.asked seen
  pub found_is : is_put access.request.opcode ≡ false
      → KeepsFound pending.read (admits (needs access.request.opcode)) n block access seen

-- the same for each of these accesses
abbrev pub AreKnown : {w : ℕ} → List (PendingAccess w) → (Perm → Bool) → ℕ → ℕ → List (Access w) → Trace w → Type 0
AreKnown [] admits n block [] seen = ⊤
AreKnown (pending ∷ more) admits n block (access ∷ accesses) seen =
    KnowsAccess pending admits n block access seen × AreKnown more admits n block accesses seen
AreKnown _ admits n block _ seen = ⊥

-- the states of the accesses to the block that are pending after t, the newest first; each pending access writes in its
-- own block alone
pub record KnowsAccesses {w : ℕ} (pending : List (PendingAccess w)) (admits : Perm → Bool) (n block : ℕ)
    (seen t : Trace w) : Type 0 where
  pub accesses_are : AreKnown pending admits n block (filter (is_to block) (pending_accesses t)) seen
  pub inside : AllWriteInside (pending_accesses t)

-- ---- accesses whose answers outran their requests

-- this is the access; in the block it may write any values to the bytes that it reaches
pub record IsOutrun (kept : OutrunAccess) (block : ℕ) (access : Outrun) : Type 0 where
  pub link_is : kept.link.0 ≡ access.link
  pub source_is : kept.source ≡ access.source
  pub answered_is : kept.answered ≡ access.answered
  pub reaches_it : (place : ℕ) → place < 64
      → is_written kept.write place ≡ reaches access.address access.size (64 * block + place)
  pub any : (place : ℕ) → value_at kept.write place ≡ None

-- these are the accesses
abbrev pub AreOutrun : List OutrunAccess → ℕ → List Outrun → Type 0
AreOutrun [] block [] = ⊤
AreOutrun (kept ∷ more) block (access ∷ accesses) = IsOutrun kept block access × AreOutrun more block accesses
AreOutrun _ block _ = ⊥

-- the access is to the block
abbrev pub outruns_in : ℕ → Outrun → Bool
outruns_in block access = block_at access.address == block

-- each of these accesses reaches bytes of its own block alone
abbrev pub AllReachInside : List Outrun → Type 0
AllReachInside [] = ⊤
AllReachInside (access ∷ accesses) =
    ((address : ℕ) → reaches access.address access.size address ≡ true
    → block_at address ≡ block_at access.address) × AllReachInside accesses

-- these are those of the accesses that are to the block; each reaches bytes of its own block alone
pub record KnowsOutrun (kept : List OutrunAccess) (block : ℕ) (accesses : List Outrun) : Type 0 where
  pub are : AreOutrun kept block (filter (outruns_in block) accesses)
  pub inside : AllReachInside accesses

-- each access that is pending after t writes in its own block alone, and so may those whose answers outran their requests
pub record AreInside {w : ℕ} (t : Trace w) : Type 0 where
  pub inside : AllWriteInside (pending_accesses t)
  pub reach_inside : AllReachInside (outrun_accesses t)

-- ---- blocks

-- whether the block is free with a beat for reading and for writing, and whether its bytes are shown
abbrev pub freedom : {w : ℕ} → ℕ → ℕ → Link × Beat w → Trace w → Freedom
freedom n block x t = record {
  reading = is_free n perm.Branch block (x ∷ t);
  writing = is_free n perm.Trunk block (x ∷ t);
  shown = shows block x.1 (on_link x.0.0 t);
}

-- the block is free for an access that needs this permission
abbrev pub free_for : Freedom → Perm → Bool
free_for free perm.Trunk = free.writing
free_for free perm.Branch = free.reading
free_for free perm.None = true

-- an access that needs this permission may be performed
abbrev pub open_for : Freedom → Perm → Bool
open_for free given = free_for free given || (same_perm given perm.Branch && free.shown)

-- no access may be performed
abbrev pub closed : Perm → Bool
closed given = false

-- The state of a block after t: its bytes and its pending accesses. The states of the accesses, whether the block is
-- free, and the last moment at which it was free for writing if it isn't, are those after the trace `seen`. `admits`
-- says for which permissions an access may be performed then.
pub record KnowsParts {w : ℕ} (s : BlockState w) (admits : Perm → Bool) (n block : ℕ) (seen t : Trace w) : Type 0 where
  pub bytes_are : KnowsBlock s.bytes n block t
  pub accesses_are : KnowsAccesses s.accesses.items admits n block seen t
  pub outrun_are : KnowsOutrun s.outrun block (outrun_accesses t)
  pub free_is : (given : Perm) → free_for s.free given ≡ is_free n given block seen
  pub last_is : s.free.writing ≡ false → s.last_free ≡ last_window n block seen

-- the state of a block after t
abbrev pub KnowsState : {w : ℕ} → BlockState w → ℕ → ℕ → Trace w → Type 0
KnowsState s n block t = KnowsParts s (open_for s.free) n block t t

-- the same after a beat, if it isn't noted yet whether the block is free with it
abbrev pub KnowsUnseen : {w : ℕ} → BlockState w → ℕ → ℕ → Link × Beat w → Trace w → Type 0
KnowsUnseen s n block x t = KnowsParts s closed n block t (x ∷ t)

-- the access, if there is one, is to the block
abbrev pub AnyIsTo : {w : ℕ} → ℕ → Option (Access w) → Type 0
AnyIsTo block None = ⊤
AnyIsTo block (Some access) = is_to block access ≡ true

-- the access, if there is one, is no Put
abbrev pub IsNoPut : {w : ℕ} → Option (Access w) → Type 0
IsNoPut None = ⊤
IsNoPut (Some access) = is_put access.request.opcode ≡ false

-- these are the bytes that the answer to a pending access to the block may bring, if there is one
abbrev pub Expects : {w : ℕ} → Option Expected → ℕ → ℕ → Option (Access w) → Trace w → Type 0
Expects None n block None t = ⊤
Expects (Some expected) n block (Some access) t =
    (expected.address ≡ access.request.address) × (expected.size ≡ access.request.size)
    × KnowsRead expected.bytes n block access t
Expects _ n block _ t = ⊥
