-- Beats that bear on another block.
use Rattle.std.specs.Prelude.{ℕ, true, false, List, [], ◌∷◌, ◌+◌, ◌*◌, ◌<◌, ◌≡◌, Option, Some, None, filter, find, ⊤}
use Rattle.std.specs.Prelude.{if◌then◌else◌, ◌==◌, ◌&&◌}
use Rattle.tl_beat.specs.declared.beat.Beat.{Beat}
use Rattle.tl_beat.specs.declared.beat.Beat.TheVariants as beat
use Rattle.tl_beat.specs.declared.beat.BeatA.{BeatA}
use Rattle.tl_beat.specs.declared.beat.Link.{Link}
use Rattle.tl_beat.specs.declared.channel.Channel.TheVariants as channel
use Rattle.tl_burst.specs.statement.Messages.{History}
unfoldable use Rattle.tl_burst.specs.statement.Messages.{unfinished}
use Rattle.tl_rules.specs.code.Open.{open_request}
use Rattle.tl_rules.specs.declared.past.Request.{Request}
use Rattle.tl_rules.specs.statement.Conformance.{Trace, comes_in_request, on_link}
use Rattle.tl_rules.specs.statement.History.{asks_for, begins, block_at, is_grant, is_release, is_release_ack}
unfoldable use Rattle.tl_rules.specs.statement.History.{request_of}
use Rattle.tl_bytes.specs.statement.Free.{may_hold}
use Rattle.tl_bytes.specs.statement.Shown.{shows}
use Rattle.tl_bytes.specs.statement.Bytes.{Access, access_writes, ends_request, is_of, is_settled, pending_accesses}
use Rattle.tl_bytes.specs.statement.Bytes.{tells}
unfoldable use Rattle.tl_bytes.specs.statement.Early.{outrun_accesses}
use Rattle.tl_memory.specs.statement.Known.{AllReachInside, AllWriteInside, is_to, outruns_in}

-- the access, if there is one, doesn't write the byte at an address
abbrev pub WritesNot : {w : ℕ} → ℕ → Option (Access w) → Type 0
WritesNot address None = ⊤
WritesNot address (Some access) = access_writes address access ≡ false

-- the beat completes no answer to an access that writes the byte
abbrev pub KeepsByte : {w : ℕ} → ℕ → ℕ → Beat w → Trace w → Type 0
KeepsByte address link (beat.D y) t = ends_request y (on_link link t) ≡ true
    → WritesNot address (find (is_of link y.source) (pending_accesses t))
KeepsByte address link _ t = ⊤

-- each of these accesses that has this source on the link is to another block
abbrev pub NoneIsTo : {w : ℕ} → ℕ → ℕ → ℕ → List (Access w) → Type 0
NoneIsTo link source block [] = ⊤
NoneIsTo link source block (access ∷ accesses) =
    (is_of link source access ≡ true → is_to block access ≡ false) × NoneIsTo link source block accesses

-- the accesses to the block whose answers outran their requests are the same with the beat; each reaches bytes of its own
-- block alone
pub record LeavesOutrun {w : ℕ} (block : ℕ) (x : Link × Beat w) (t : Trace w) : Type 0 where
  pub stay : filter (outruns_in block) (outrun_accesses (x ∷ t)) ≡ filter (outruns_in block) (outrun_accesses t)
  pub reach_inside : AllReachInside (outrun_accesses (x ∷ t))

-- The beat shows nothing of the block and leaves its bytes, and the same accesses to the block are pending; each
-- that is pending writes in its own block alone.
pub record IsElsewhere {w : ℕ} (block : ℕ) (x : Link × Beat w) (t : Trace w) : Type 0 where
  pub quiet : tells block x.1 (on_link x.0.0 t) ≡ false
  pub keeps : (place : ℕ) → place < 64 → KeepsByte (64 * block + place) x.0.0 x.1 t
  pub pending_stay : filter (is_to block) (pending_accesses (x ∷ t)) ≡ filter (is_to block) (pending_accesses t)
  pub inside : AllWriteInside (pending_accesses (x ∷ t))
  pub unsettled : (place : ℕ) → place < 64 → is_settled (64 * block + place) x t ≡ false
  pub outrun : LeavesOutrun block x t

-- its link may hold as much of the block with the beat as before it
abbrev pub LeavesHeld : {w : ℕ} → ℕ → Link × Beat w → Trace w → Type 0
LeavesHeld block x t = may_hold block (x.1 ∷ on_link x.0.0 t) ≡ may_hold block (on_link x.0.0 t)

-- the beat doesn't change the state of the block, and doesn't show its bytes
pub record PassesBy {w : ℕ} (block : ℕ) (x : Link × Beat w) (t : Trace w) : Type 0 where
  pub elsewhere : IsElsewhere block x t
  pub held_is : LeavesHeld block x t
  pub unshown : shows block x.1 (on_link x.0.0 t) ≡ false

-- the block of the request, if there is one
abbrev pub block_asked : Option Request → Option ℕ
block_asked None = None
block_asked (Some asked) = Some asked.block

-- this is the block of the request of a Grant that begins
abbrev pub IsConcerned : {w : ℕ} → Option ℕ → Beat w → History w → Type 0
IsConcerned block (beat.D y) past = begins (beat.D y) past ≡ true → is_grant y.opcode ≡ true
    → (b : ℕ) × (block ≡ Some b) × (asks_for b (request_of y.source past) ≡ true)
IsConcerned block _ past = ⊤

-- the block of the request that has these beats
abbrev pub block_coming : {w : ℕ} → List (Beat w) → Option ℕ
block_coming (beat.A x ∷ burst) = Some (block_at x.address)
block_coming _ = None

-- the block of the Release with this source that has these beats
abbrev pub block_released : {w : ℕ} → ℕ → List (Beat w) → Option ℕ
block_released source (beat.C x ∷ burst) =
    if is_release x.opcode && (x.source == source) then Some (block_at x.address) else None
block_released source _ = None

-- the block of a request
abbrev pub block_requested : {w : ℕ} → Option (BeatA w) → Option ℕ
block_requested None = None
block_requested (Some x) = Some (block_at x.address)

-- the block of the Grant with this sink that has these beats
abbrev pub block_granted : {w : ℕ} → ℕ → List (Beat w) → History w → Option ℕ
block_granted sink (beat.D x ∷ burst) past =
    if is_grant x.opcode && (x.sink == sink) then block_requested (request_of x.source past) else None
block_granted sink _ past = None

-- the block that a beat bears on, if it does: that of its address, or of the request that it answers; for a ReleaseAck and a
-- GrantAck that of the message that it answers, if that isn't complete
abbrev pub block_borne : {w : ℕ} → Beat w → History w → Option ℕ
block_borne (beat.A y) past = Some (block_at y.address)
block_borne (beat.C y) past = Some (block_at y.address)
block_borne (beat.D y) past =
    if is_release_ack y.opcode then block_released y.source (unfinished channel.C past)
    else if comes_in_request y.source (unfinished channel.A past) then block_coming (unfinished channel.A past)
    else block_asked (open_request y.source past)
block_borne (beat.E y) past = block_granted y.sink (unfinished channel.D past) past
block_borne (beat.B y) past = None
