-- A run of one memory beside the beats of all links: when each access is performed, at once or byte by byte, and the
-- stores of clients to their copies, which no link carries.
use Rattle.std.specs.Prelude.{ℕ, zero, suc, Bool, true, false, List, [], ◌∷◌, ◌≡◌, ◌⊎◌, ◌==◌, ◌&&◌, ◌||◌, ◌+◌, ◌-◌, ◌*◌, ◌/◌}
use Rattle.std.specs.Prelude.{◌%◌, ◌≤◌, if◌then◌else◌, find, is_some, length, nat_lt, Option, Some, None, ⊤}
use Rattle.tl_beat.specs.declared.beat.Beat.{Beat}
use Rattle.tl_beat.specs.declared.beat.Beat.TheVariants as beat
use Rattle.tl_beat.specs.declared.beat.BeatA.{BeatA}
use Rattle.tl_beat.specs.declared.beat.BeatD.{BeatD}
use Rattle.tl_beat.specs.declared.beat.Link.{Link}
use Rattle.tl_beat.specs.declared.channel.Channel.TheVariants as channel
use Rattle.tl_beat.specs.declared.opcode.OpA.{OpA}
use Rattle.tl_beat.specs.declared.opcode.OpA.TheVariants as a
use Rattle.tl_beat.specs.declared.opcode.OpD.TheVariants as d
use Rattle.tl_burst.specs.declared.message.Message.TheVariants as message
use Rattle.tl_burst.specs.statement.Burst.{reaches}
use Rattle.tl_burst.specs.statement.Messages.{on, same_control, unfinished}
use Rattle.tl_params.specs.declared.perm.Perm.TheVariants as perm
use Rattle.tl_rules.specs.statement.OpenMessages.{open_request}
use Rattle.tl_rules.specs.declared.past.Request.{Request}
use Rattle.tl_rules.specs.statement.Admission.{is_spoiled, lanes_of}
use Rattle.tl_rules.specs.statement.Conformance.{Trace, answers, on_link}
use Rattle.tl_rules.specs.statement.Effect.{Memory, bytes_from, effect}
use Rattle.tl_rules.specs.statement.History.{block_at, is_release_ack}
use Rattle.tl_bytes.specs.statement.Free.{is_free}
use Rattle.tl_bytes.specs.statement.Bytes.{Access, access_writes, carried_byte, could_be, is_of, is_put}
use Rattle.tl_bytes.specs.statement.Bytes.{leaves_pending, pending_accesses, tells}
use Rattle.tl_bytes.specs.statement.Bytes as bytes
use Rattle.tl_bytes.specs.statement.Early.{Outrun, ends_request, is_outrun_of, is_overtaken, outrun_accesses}
use Rattle.tl_bytes.specs.statement.Early.{outruns}
use Rattle.tl_bytes.specs.statement.Early.{reaches_byte, telling_beats}
use Rattle.tl_bytes.specs.statement.Shown.{shows}
use Rattle.tl_memory.specs.statement.Known.{AreWide, is_atomic}

-- A beat is taken on a link; or the access with this source of a link is performed at the addresses that pass a test,
-- and leaves the bytes of this memory if its request was corrupt; or a client stores to its copy of a block, which has
-- the bytes of this memory afterwards; or the access with this source of a link, which was answered before its request
-- was complete, leaves the bytes of this memory at each address that it reaches.
pub data Happening (w : ℕ) : Type 0 where
  Takes : Link → Beat w → Happening w
  Performs : (link : ℕ) → (source : ℕ) → (ℕ → Bool) → Memory → Happening w
  Stores : (block : ℕ) → Memory → Happening w
  Leaves : (link : ℕ) → (source : ℕ) → Memory → Happening w

-- the test of an access that is performed at once
abbrev pub everywhere : ℕ → Bool
everywhere address = true

-- all happenings, the newest first
abbrev pub Run : ℕ → Type 0
Run w = List (Happening w)

-- ---- the beats that were taken, and the bytes of memory

-- the beats that were taken, the newest first
unfoldable pub trace_in : {w : ℕ} → Run w → Trace w
trace_in [] = []
trace_in (Takes link x ∷ run) = (link, x) ∷ trace_in run
trace_in (Performs link source test left ∷ run) = trace_in run
trace_in (Stores block bytes ∷ run) = trace_in run
trace_in (Leaves link source bytes ∷ run) = trace_in run

-- the run before the last k beats that were taken on channel D of a link
unfoldable pub run_before : {w : ℕ} → ℕ → ℕ → Run w → Run w
run_before link zero run = run
run_before link (suc k) [] = []
run_before link (suc k) (Takes l x ∷ run) =
    if (l.0 == link) && on channel.D x then run_before link k run else run_before link (suc k) run
run_before link (suc k) (Performs d i test left ∷ run) = run_before link (suc k) run
run_before link (suc k) (Stores block bytes ∷ run) = run_before link (suc k) run
run_before link (suc k) (Leaves d i bytes ∷ run) = run_before link (suc k) run

-- the byte that is left at an address by an access that is performed there: if it writes it, and its request was
-- corrupt, any
abbrev pub left_by : {w : ℕ} → Access w → Memory → Memory → ℕ → ℕ
left_by access left memory address =
    if access.spoiled && access_writes address access then left address
    else (effect (message.A access.request) memory).0 address

-- the memory after an access is performed at the addresses that pass a test, if one is pending
abbrev pub with_performed : {w : ℕ} → Option (Access w) → (ℕ → Bool) → Memory → Memory → Memory
with_performed None test left memory = memory
with_performed (Some access) test left memory = λ address.
    if test address then left_by access left memory address else memory address

-- the memory with the bytes of another one in a block
abbrev pub with_block_of : ℕ → Memory → Memory → Memory
with_block_of block bytes memory address = if block_at address == block then bytes address else memory address

-- the memory with the bytes of another one at each address that such an access reaches, if there is one
abbrev pub with_reached : Option Outrun → Memory → Memory → Memory
with_reached None bytes memory = memory
with_reached (Some access) bytes memory = λ address.
    if reaches access.address access.size address then bytes address else memory address

-- the memory after all that has happened
unfoldable pub memory_in : {w : ℕ} → Memory → Run w → Memory
memory_in first [] = first
memory_in first (Takes link x ∷ run) = memory_in first run
memory_in first (Performs link source test left ∷ run) =
    with_performed (find (is_of link source) (pending_accesses (trace_in run))) test left (memory_in first run)
memory_in first (Stores block bytes ∷ run) = with_block_of block bytes (memory_in first run)
memory_in first (Leaves link source bytes ∷ run) =
    with_reached (find (is_outrun_of link source) (outrun_accesses (trace_in run))) bytes (memory_in first run)

-- with the beat the access with this source of a link isn't pending any more: its answer is complete, or comes before
-- its request is complete
abbrev pub is_answered_by : {w : ℕ} → ℕ → ℕ → Link → Beat w → Trace w → Bool
is_answered_by c s link (beat.D z) t =
    ((link.0 == c) && (z.source == s)) && leaves_pending z (on_link link.0 t)
is_answered_by c s link _ t = false

-- the byte at an address that the access with this source of a link found, if it was performed there and has been
-- pending since
unfoldable pub found_in : {w : ℕ} → Memory → ℕ → ℕ → Run w → ℕ → Option ℕ
found_in first c s [] address = None
found_in first c s (Takes link x ∷ run) address =
    if is_answered_by c s link x (trace_in run) then None else found_in first c s run address
found_in first c s (Performs d i test left ∷ run) address =
    if ((d == c) && (i == s)) && test address then Some (memory_in first run address)
    else found_in first c s run address
found_in first c s (Stores block bytes ∷ run) address = found_in first c s run address
found_in first c s (Leaves d i bytes ∷ run) address = found_in first c s run address

-- ---- copies without a store

-- the message that sets the bytes of a block with the beat shows the byte at an address as memory has it, or as anything
abbrev pub TellsTrue : {w : ℕ} → Memory → ℕ → Link → Beat w → Run w → Type 0
TellsTrue first address link x run =
    could_be (memory_in first run address)
    (carried_byte (telling_beats x (on_link link.0 (trace_in run))) (address % 64)) ≡ true

-- the first of the two if a test is passed, and otherwise the second
abbrev pub OneOf : Bool → Type 0 → Type 0 → Type 0
OneOf true a b = a
OneOf false a b = b

-- No client has stored to its copy of the byte at an address since a message showed it as memory has it, or since no
-- link held Trunk of its block.
unfoldable pub IsClean : {w : ℕ} → ℕ → Memory → ℕ → Run w → Type 0
IsClean n first address [] = ⊤
IsClean n first address (Takes link x ∷ run) =
    (is_free n perm.Branch (block_at address) ((link, x) ∷ trace_in run) ≡ true)
    ⊎ OneOf (tells (block_at address) x (on_link link.0 (trace_in run))) (TellsTrue first address link x run)
    (IsClean n first address run)
IsClean n first address (Performs link source test left ∷ run) = IsClean n first address run
IsClean n first address (Stores block bytes ∷ run) = ((block_at address == block) ≡ false) × IsClean n first address run
IsClean n first address (Leaves link source bytes ∷ run) = IsClean n first address run

-- a report of the block is complete with the last beat that was taken, shows its bytes, and leaves its sender Trunk
abbrev pub shown_last : {w : ℕ} → ℕ → Trace w → Bool
shown_last block [] = false
shown_last block (x ∷ t) = shows block x.1 (on_link x.0.0 t)

-- the byte may be read: no link holds Trunk of its block, or a report shows a copy without a store
abbrev pub MayBeRead : {w : ℕ} → ℕ → Memory → ℕ → Run w → Type 0
MayBeRead n first address run =
    (is_free n perm.Branch (block_at address) (trace_in run) ≡ true)
    ⊎ ((shown_last (block_at address) (trace_in run) ≡ true) × IsClean n first address run)

-- ---- the conditions of each happening

-- the access is answered with the bytes that it finds
abbrev pub returns : OpA → Bool
returns a.Get = true
returns a.ArithmeticData = true
returns a.LogicalData = true
returns _ = false

-- the place of a byte in the data of an access, and in those of its answer
abbrev pub place_in : {w : ℕ} → Access w → ℕ → ℕ
place_in {w} access address = address - w * (access.request.address / w)

-- the beat goes on with a Put of which these beats have come, and the byte at an address came with one of them
abbrev pub has_come : {w : ℕ} → BeatA w → List (Beat w) → ℕ → Bool
has_come {w} z burst address = is_put z.opcode && nat_lt (address - w * (z.address / w)) (w * length burst)

-- Such a beat has the control fields of the newest of these, each of which brought a byte in each lane.
pub record GoesOn {w : ℕ} (z : BeatA w) (burst : List (Beat w)) (address : ℕ) : Type 0 where
  pub came : has_come z burst address ≡ true
  pub newest : BeatA w
  pub older : List (Beat w)
  pub burst_is : burst ≡ beat.A newest ∷ older
  pub same : same_control (beat.A z) (beat.A newest) ≡ true
  pub wide : AreWide burst

-- A pending access may be performed, once at each address, and an atomic at once: the bytes that it reaches may be
-- read, and no link holds anything of the bytes that it writes.
pub record IsPerformed {w : ℕ} (n : ℕ) (first : Memory) (link source : ℕ) (test : ℕ → Bool) (run : Run w) : Type 0
  where
    pub access : Access w
    pub pending : find (is_of link source) (pending_accesses (trace_in run)) ≡ Some access
    pub once : (address : ℕ) → test address ≡ true → found_in first link source run address ≡ None
    pub at_once : is_atomic access.request.opcode ≡ true → (address : ℕ)
        → reaches access.request.address access.request.size address ≡ true → test address ≡ true
    pub reads_free : (address : ℕ) → test address ≡ true
        → reaches access.request.address access.request.size address ≡ true → MayBeRead n first address run
    pub writes_free : (address : ℕ) → test address ≡ true → access_writes address access ≡ true
        → is_free n perm.Trunk (block_at address) (trace_in run) ≡ true

-- the beat that has this place is corrupt, or denied
abbrev pub spoiled_at : {w : ℕ} → List (Beat w) → ℕ → Bool
spoiled_at [] p = false
spoiled_at {w} (x ∷ older) p = if p / w == length older then is_spoiled x else spoiled_at older p

-- A byte has been found, and the answer with these beats, the newest first, has it at this place, if the beat there
-- isn't corrupt.
pub record IsBrought {w : ℕ} (found : Option ℕ) (burst : List (Beat w)) (place : ℕ) : Type 0 where
  pub byte : ℕ
  pub found_is : found ≡ Some byte
  pub carried_is : (spoiled_at burst place ≡ true) ⊎ (carried_byte burst place ≡ Some byte)

-- A beat of the answer to a pending access that isn't denied comes after the access wrote all that it writes, and is of
-- an answer to such a request, no beat of which was denied. Of an access that reads, the bytes that have come, but for
-- corrupt ones, are those that it found.
pub record IsAnswer {w : ℕ} (first : Memory) (link : ℕ) (z : BeatD w) (access : Access w) (run : Run w) : Type 0 where
  pub written : (address : ℕ) → access_writes address access ≡ true
      → is_some (found_in first link z.source run address) ≡ true
  pub admitted : answers z.opcode access.request.opcode ≡ true
  pub undenied : (y : BeatD w) (older : List (Beat w))
      → unfinished channel.D (on_link link (trace_in run)) ≡ beat.D y ∷ older → y.denied ≡ false
  pub lanes_fit : length (lanes_of (beat.D z)) ≤ w
  pub brings : returns access.request.opcode ≡ true → (address : ℕ)
      → reaches access.request.address access.request.size address ≡ true
      → (place_in access address / w ≤ length (unfinished channel.D (on_link link (trace_in run))))
      ⊎ (ends_request z (on_link link (trace_in run)) ≡ true)
      → IsBrought (found_in first link z.source run address)
      (beat.D z ∷ unfinished channel.D (on_link link (trace_in run))) (place_in access address)

-- Beat k of a GrantData of a block that isn't corrupt has the bytes that memory had before the first one, when no link
-- held Trunk.
pub record IsGranted {w : ℕ} (n : ℕ) (first : Memory) (link : ℕ) (z : BeatD w) (block k : ℕ) (run : Run w) : Type 0
  where
    pub within : w * k + w ≤ 64
    pub free : is_free n perm.Branch block (trace_in (run_before link k run)) ≡ true
    pub lanes_are : lanes_of (beat.D z) ≡ bytes_from (memory_in first (run_before link k run)) (64 * block + w * k) w

-- the access, if there is one, writes the byte at an address
abbrev pub writes_byte : {w : ℕ} → ℕ → Option (Access w) → Bool
writes_byte address None = false
writes_byte address (Some access) = access_writes address access

-- an access with this source of a link may have written the byte at an address: it is pending, or its answer came before
-- its request was complete
abbrev pub may_have_written : {w : ℕ} → ℕ → ℕ → ℕ → Trace w → Bool
may_have_written c s address t =
    writes_byte address (find (is_of c s) (pending_accesses t))
    || reaches_byte address (find (is_outrun_of c s) (outrun_accesses t))

-- The beat may be taken after a run.
pub record IsTaken {w : ℕ} (n : ℕ) (first : Memory) (link : Link) (x : Beat w) (run : Run w) : Type 0 where
  -- an access is neither performed, but for the bytes of a Put that have come, nor answered before its request is
  -- complete, unless its answer came before that
  pub asks_new : (z : BeatA w) (address : ℕ) → x ≡ beat.A z
      → bytes.asks_new link.0 z (on_link link.0 (trace_in run)) (outrun_accesses (trace_in run)) ≡ true
      → (found_in first link.0 z.source run address ≡ None)
      ⊎ GoesOn z (unfinished channel.A (on_link link.0 (trace_in run))) address
  pub asks_first : (z : BeatA w) (y : BeatD w) (older : List (Beat w)) → x ≡ beat.A z
      → bytes.asks_new link.0 z (on_link link.0 (trace_in run)) (outrun_accesses (trace_in run)) ≡ true
      → unfinished channel.D (on_link link.0 (trace_in run)) ≡ beat.D y ∷ older → is_release_ack y.opcode ≡ false
      → y.source ≡ z.source → ⊥
  -- an answer that comes before its request is complete is to the access that is pending with its source, and to the
  -- one that it was to before
  pub outruns_own : (z : BeatD w) (y : BeatA w) (older : List (Beat w)) (address : ℕ) → x ≡ beat.D z
      → outruns z (on_link link.0 (trace_in run)) ≡ true
      → unfinished channel.A (on_link link.0 (trace_in run)) ≡ beat.A y ∷ older
      → may_have_written link.0 z.source address (trace_in run) ≡ true → reaches y.address y.size address ≡ true
  -- and if it is pending that is a Put
  pub outruns_put : (z : BeatD w) (access : Access w) → x ≡ beat.D z
      → outruns z (on_link link.0 (trace_in run)) ≡ true
      → find (is_of link.0 z.source) (pending_accesses (trace_in run)) ≡ Some access
      → (is_put access.request.opcode ≡ true) × (answers z.opcode access.request.opcode ≡ true)
  -- a beat that continues a response has its opcode and its source
  pub continues : (z y : BeatD w) (older : List (Beat w)) → x ≡ beat.D z
      → unfinished channel.D (on_link link.0 (trace_in run)) ≡ beat.D y ∷ older
      → (z.opcode ≡ y.opcode) × (z.source ≡ y.source)
  -- one that is denied may have been performed, or not
  pub answers_rightly : (z : BeatD w) (access : Access w) → x ≡ beat.D z → is_release_ack z.opcode ≡ false
      → z.denied ≡ false → outruns z (on_link link.0 (trace_in run)) ≡ false
      → find (is_of link.0 z.source) (pending_accesses (trace_in run)) ≡ Some access
      → IsAnswer first link.0 z access run
  pub grants_rightly : (z : BeatD w) (asked : Request) → x ≡ beat.D z → z.opcode ≡ d.GrantData
      → is_spoiled (beat.D z) ≡ false
      → open_request z.source (on_link link.0 (trace_in run)) ≡ Some asked
      → is_overtaken asked.block z (on_link link.0 (trace_in run)) ≡ false
      → IsGranted n first link.0 z asked.block (length (unfinished channel.D (on_link link.0 (trace_in run)))) run
  -- if no link holds Trunk of the block with it, a message that shows the block shows the bytes of memory
  pub tells_rightly : (address : ℕ) → is_free n perm.Branch (block_at address) ((link, x) ∷ trace_in run) ≡ true
      → tells (block_at address) x (on_link link.0 (trace_in run)) ≡ true → TellsTrue first address link x run
  -- Trunk is given up with a message that shows the block, or of a copy without a store
  pub given_up_rightly : (address : ℕ) → is_free n perm.Branch (block_at address) (trace_in run) ≡ false
      → is_free n perm.Branch (block_at address) ((link, x) ∷ trace_in run) ≡ true
      → (tells (block_at address) x (on_link link.0 (trace_in run)) ≡ true) ⊎ IsClean n first address run

-- It may happen after a run. A client stores to its copy only while a link holds Trunk of it. An access that was
-- answered before its request was complete may leave any bytes, until both are complete.
abbrev pub Happens : {w : ℕ} → ℕ → Memory → Happening w → Run w → Type 0
Happens n first (Takes link x) run = IsTaken n first link x run
Happens n first (Performs link source test left) run = IsPerformed n first link source test run
Happens n first (Stores block bytes) run = is_free n perm.Branch block (trace_in run) ≡ false
Happens n first (Leaves link source bytes) run = ⊤

-- The run is one of a memory that was this at first, beside the beats of n links.
unfoldable pub IsRun : {w : ℕ} → ℕ → Memory → Run w → Type 0
IsRun n first [] = ⊤
IsRun n first (x ∷ run) = Happens n first x run × IsRun n first run
