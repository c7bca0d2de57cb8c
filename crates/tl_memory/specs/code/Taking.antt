-- What beats make of the states of blocks.
use Rattle.std.specs.Prelude.{ℕ, suc, Bool, true, false, not, [], ◌∷◌, ◌&&◌, ◌≡◌, length, List, Option, Some, None}
use Rattle.std.specs.Global.{Vec}
use Rattle.std.specs.Box.{box_value}
use Rattle.std.specs.Prelude.{find, option_map, unwrap_or, ⊤, ◌≤◌}
use Rattle.tl_beat.specs.declared.beat.Beat.{Beat}
use Rattle.tl_beat.specs.declared.beat.Beat.TheVariants as beat
use Rattle.tl_beat.specs.declared.beat.BeatA.{BeatA}
use Rattle.tl_beat.specs.declared.beat.BeatD.{BeatD}
use Rattle.tl_beat.specs.declared.beat.BeatE.{BeatE}
use Rattle.tl_beat.specs.declared.beat.Link.{Link}
use Rattle.tl_beat.specs.declared.channel.Channel.TheVariants as channel
use Rattle.tl_beat.specs.declared.opcode.OpA.{OpA}
use Rattle.tl_beat.specs.declared.opcode.OpD.{OpD}
use Rattle.tl_beat.specs.declared.opcode.OpD.TheVariants as d
use Rattle.tl_beat.specs.statement.Opcode.{a_carries_data}
use Rattle.tl_burst.specs.statement.Messages.{History, unfinished}
use Rattle.tl_rules.specs.code.Open.{open_request}
use Rattle.tl_rules.specs.code.Tables.{kept_request}
use Rattle.tl_rules.specs.declared.past.Request.{Request}
use Rattle.tl_rules.specs.statement.Conformance.{Trace, answers, comes_in_request, on_link}
use Rattle.tl_rules.specs.statement.History.{block_at, ends, is_grant, is_release_ack, releases}
unfoldable use Rattle.tl_rules.specs.statement.History.{release_of, request_of}
use Rattle.tl_rules.specs.statement.Liberties.{acknowledges, broken_in_order_under}
unfoldable use Rattle.tl_bytes.specs.statement.Free.{all_liberties}
use Rattle.tl_bytes.specs.statement.Bytes.{Access, asked_by, asked_since, asks, is_access, is_of, is_perm_only}
use Rattle.tl_bytes.specs.statement.Bytes.{pending_accesses, tells}
use Rattle.tl_bytes.specs.statement.Known.{AnswersNone}
use Rattle.tl_bytes.specs.statement.Early.{Outrun, is_outrun_of, outruns, settled_by, without}
unfoldable use Rattle.tl_bytes.specs.statement.Early.{outrun_accesses}
use Rattle.tl_burst.specs.statement.Burst.{reaches}
use Rattle.tl_memory.specs.code.Elsewhere.{IsElsewhere, PassesBy, block_granted, block_released}
use Rattle.tl_memory.specs.code.Passing.{changes_held}
use Rattle.tl_memory.specs.declared.block.BlockState.{BlockState}
use Rattle.tl_memory.specs.declared.next_state.NextAccesses.{NextAccesses}
use Rattle.tl_memory.specs.declared.next_state.NextAccesses.TheVariants as accesses
use Rattle.tl_memory.specs.declared.next_state.NextState.{NextState}
use Rattle.tl_memory.specs.code.Writers.{grown_in}
use Rattle.tl_memory.specs.declared.pending.PendingAccess.{PendingAccess}
use Rattle.tl_memory.specs.declared.early.OutrunAccess.{OutrunAccess}
use Rattle.tl_memory.specs.declared.free.Freedom.{Freedom}
use Rattle.tl_memory.specs.statement.Known.{AreWide, HasRoom, IsLawful, KnowsState, KnowsUnseen, WritesInside}
use Rattle.tl_memory.specs.statement.Known.{IsOutrun, freedom, outruns_in}

-- the same, if no bytes are shown
abbrev pub none_shown : Freedom → Freedom
none_shown free = record { reading = free.reading; writing = free.writing; shown = false }

-- the pending accesses after a beat that changes them so
abbrev pub next_accesses : {w : ℕ} → Vec (PendingAccess w) → NextAccesses w → Vec (PendingAccess w)
next_accesses old accesses.Same = old
next_accesses old (accesses.Grown writer) = grown_in (box_value writer) old old.items
next_accesses old (accesses.Renewed renewed) = renewed

-- the state of a block after a beat
abbrev pub with_next : {w : ℕ} → BlockState w → NextState w → BlockState w
with_next s next = record {
  bytes = unwrap_or (option_map box_value next.bytes) s.bytes;
  accesses = next_accesses s.accesses next.accesses;
  outrun = unwrap_or next.outrun s.outrun;
  free = none_shown s.free;
  last_free = s.last_free;
}

-- or as it stays, if that is nothing
abbrev pub put_next : {w : ℕ} → BlockState w → Option (NextState w) → BlockState w
put_next s None = s
put_next s (Some next) = with_next s next

-- The links for which the block is free after a beat are noted beside its state, if the beat may change them.
abbrev pub IsSeen : {w : ℕ} → Option Freedom → ℕ → ℕ → Link × Beat w → Trace w → Type 0
IsSeen None n block x t = changes_held x.1 (on_link x.0.0 t) ≡ false
IsSeen (Some free) n block x t = (changes_held x.1 (on_link x.0.0 t) ≡ true) × (free ≡ freedom n block x t)

-- A beat changes the state of the block so, or leaves it as it was, if this is noted beside it.
abbrev pub IsNext : {w : ℕ} → Option (NextState w) → Option Freedom → BlockState w → ℕ → ℕ → Link × Beat w → Trace w
    → Type 0
IsNext None None s n block x t = PassesBy block x t
IsNext None (Some free) s n block x t = ⊥
IsNext (Some next) None s n block x t = KnowsState (with_next s next) n block (x ∷ t)
IsNext (Some next) (Some free) s n block x t =
    KnowsUnseen (with_next s next) n block x t × (free ≡ freedom n block x t)

-- the beat is of the request of an access
abbrev pub is_asking : {w : ℕ} → Beat w → Bool
is_asking (beat.A y) = is_access y.opcode
is_asking _ = false

-- This is what a beat makes of the state of its block that asks for no access, or that stays as it was: then it doesn't
-- change for whom the block is free either.
abbrev pub IsNextUnseen : {w : ℕ} → Option (NextState w) → BlockState w → ℕ → ℕ → Link × Beat w → Trace w → Type 0
IsNextUnseen None s n block x t = IsElsewhere block x t × (changes_held x.1 (on_link x.0.0 t) ≡ false)
IsNextUnseen (Some next) s n block x t = KnowsUnseen (with_next s next) n block x t

-- This is what a beat of the request of an access makes of the state of its block: something only if it asks for one.
abbrev pub IsNextAsked : {w : ℕ} → Option (NextState w) → BlockState w → ℕ → ℕ → Link × Beat w → Trace w → Type 0
IsNextAsked None s n block x t = IsElsewhere block x t
IsNextAsked (Some next) s n block x t = KnowsState (with_next s next) n block (x ∷ t)

-- the request that is open with the source of a response
abbrev pub request_answered : {w : ℕ} → Beat w → History w → Option Request
request_answered (beat.D y) past = open_request y.source past
request_answered _ past = None

-- ---- beats that break no rule

-- the access that is asked for with a beat of channel A
abbrev pub asked_now : {w : ℕ} → ℕ → BeatA w → Trace w → Access w
asked_now link y t = asked_by link y (beat.A y ∷ unfinished channel.A (on_link link t))
    (asked_since (find (is_of link y.source) (pending_accesses t)) (suc (length t)))

-- each of these accesses with the beat's source on the link is that which the beat goes on to ask for
abbrev pub AreContinued : {w : ℕ} → ℕ → BeatA w → List (Access w) → Type 0
AreContinued link y [] = ⊤
AreContinued link y (access ∷ accesses) =
    (is_of link y.source access ≡ true
    → (access.request.opcode ≡ y.opcode) × (block_at access.request.address ≡ block_at y.address))
    × AreContinued link y accesses

-- each of these accesses that has this source on the link is to the block
abbrev pub AreOutrunIn : ℕ → ℕ → ℕ → List Outrun → Type 0
AreOutrunIn link source block [] = ⊤
AreOutrunIn link source block (access ∷ accesses) =
    (is_outrun_of link source access ≡ true → outruns_in block access ≡ true)
    × AreOutrunIn link source block accesses

-- What is known of a beat of channel A, and of the access that it asks for. If an answer outran the access, that is to its
-- block, and complete only with a beat that asks for an access.
pub record IsRequested {w : ℕ} (link : ℕ) (y : BeatA w) (t : Trace w) : Type 0 where
  pub room : HasRoom (beat.A y) (unfinished channel.A (on_link link t))
  pub wide : a_carries_data y.opcode ≡ true → AreWide (beat.A y ∷ unfinished channel.A (on_link link t))
  pub lawful : asks y (on_link link t) ≡ true → IsLawful (asked_now link y t)
  pub inside : asks y (on_link link t) ≡ true → WritesInside (asked_now link y t)
  pub continued : AreContinued link y (pending_accesses t)
  pub outran : AreOutrunIn link y.source (block_at y.address) (outrun_accesses t)
  pub unsettled : asks y (on_link link t) ≡ false → settled_by link (beat.A y) (on_link link t) (outrun_accesses t) ≡ None

-- each of these accesses with this source on the link is the request
abbrev pub AreAsked : {w : ℕ} → ℕ → ℕ → Request → List (Access w) → Type 0
AreAsked link source asked [] = ⊤
AreAsked link source asked (access ∷ accesses) =
    (is_of link source access ≡ true
    → (is_access access.request.opcode ≡ true) × (access.request.opcode ≡ asked.opcode)
    × (block_at access.request.address ≡ asked.block))
    × AreAsked link source asked accesses

-- the response to a request of this opcode shows the bytes of its block, if it isn't denied
abbrev pub tells_block : OpD → OpA → Bool
tells_block d.GrantData asked = true
tells_block d.Grant asked = is_perm_only asked
tells_block _ asked = false

-- so does the beat of a response
abbrev pub tells_response : {w : ℕ} → BeatD w → OpA → Bool
tells_response y asked = not y.denied && tells_block y.opcode asked

-- the request that has these beats, which a beat of channel D answers before it is complete
pub record IsComing {w : ℕ} (y : BeatD w) (asked : Request) (burst : List (Beat w)) : Type 0 where
  pub first : BeatA w
  pub older : List (Beat w)
  pub burst_is : burst ≡ beat.A first ∷ older
  pub source_is : first.source ≡ y.source
  pub block_is : asked.block ≡ block_at first.address
  pub accesses : is_access asked.opcode ≡ true
  pub small : first.size ≤ 6
  pub inside : (address : ℕ) → reaches first.address first.size address ≡ true
      → block_at address ≡ block_at first.address

-- What is known of a beat of channel D that answers this request. It is open, or not complete yet. If the answer to an
-- access outran it, that is to its block.
pub record IsResponse {w : ℕ} (link : ℕ) (y : BeatD w) (asked : Request) (t : Trace w) : Type 0 where
  pub kept : kept_request y.source (on_link link t) ≡ Some asked
  pub complete : outruns y (on_link link t) ≡ false → comes_in_request y.source (unfinished channel.A (on_link link t)) ≡ false
  pub coming : outruns y (on_link link t) ≡ true → IsComing y asked (unfinished channel.A (on_link link t))
  pub answers_it : answers y.opcode asked.opcode ≡ true
  pub are_asked : AreAsked link y.source asked (pending_accesses t)
  pub outran : AreOutrunIn link y.source asked.block (outrun_accesses t)
  pub bare : is_access asked.opcode ≡ false → find (is_outrun_of link y.source) (outrun_accesses t) ≡ None
  pub room : HasRoom (beat.D y) (unfinished channel.D (on_link link t))

-- the response answers a request of the block, unless it is a ReleaseAck
abbrev pub AnswersTo : {w : ℕ} → ℕ → BeatD w → ℕ → Trace w → Type 0
AnswersTo link y block t =
    is_release_ack y.opcode ≡ false → (asked : Request) × IsResponse link y asked t × (asked.block ≡ block)

-- With a beat, the request and the answer of this access are both complete, which its answer outran. The beat sets no bytes
-- but those that the access may have written.
pub record IsSettlement {w : ℕ} (kept : OutrunAccess) (block : ℕ) (x : Link × Beat w) (t : Trace w) : Type 0 where
  pub access : Outrun
  pub is : IsOutrun kept block access
  pub settles : settled_by x.0.0 x.1 (on_link x.0.0 t) (outrun_accesses t) ≡ Some access
  pub leaves : outrun_accesses (x ∷ t) ≡ without access.link access.source (outrun_accesses t)
  pub quiet : tells block x.1 (on_link x.0.0 t) ≡ false
  pub answers_none : AnswersNone x t
  pub pending_stay : pending_accesses (x ∷ t) ≡ pending_accesses t

-- the beat is in the order that the rules of its link allow
abbrev pub IsOrdered : {w : ℕ} → ℕ → Beat w → Trace w → Type 0
IsOrdered link x t = broken_in_order_under all_liberties x (on_link link t) ≡ None

-- what is known of a beat of channel D
pub record IsLegalResponse {w : ℕ} (link : ℕ) (y : BeatD w) (t : Trace w) : Type 0 where
  pub ordered : IsOrdered link (beat.D y) t
  pub answer : is_release_ack y.opcode ≡ false → (asked : Request) × IsResponse link y asked t
  pub one_beat : is_release_ack y.opcode ≡ true → ends (beat.D y) (on_link link t) ≡ true
  pub released : (k block : ℕ) → block_released y.source (unfinished channel.C (on_link link t)) ≡ Some block
      → releases k (release_of y.source (on_link link t)) ≡ true → block ≡ k

-- what is known of a GrantAck: if its Grant isn't complete, that answers a request, and no other block waits for it
pub record IsLegalAck {w : ℕ} (link : ℕ) (y : BeatE) (t : Trace w) : Type 0 where
  pub one : (k block : ℕ) → block_granted y.sink (unfinished channel.D (on_link link t)) (on_link link t) ≡ Some block
      → acknowledges k y.sink (on_link link t) ≡ true → block ≡ k
  pub asked : (z : BeatD w) (older : List (Beat w)) → unfinished channel.D (on_link link t) ≡ beat.D z ∷ older
      → is_grant z.opcode ≡ true → request_of z.source (on_link link t) ≡ None → ⊥

-- what is known of a beat that breaks no rule
abbrev pub IsLegalBeat : {w : ℕ} → ℕ → Beat w → Trace w → Type 0
IsLegalBeat link (beat.A y) t = IsRequested link y t
IsLegalBeat link (beat.C y) t = HasRoom (beat.C y) (unfinished channel.C (on_link link t)) × IsOrdered link (beat.C y) t
IsLegalBeat link (beat.D y) t = IsLegalResponse link y t
IsLegalBeat link (beat.E y) t = IsLegalAck link y t
IsLegalBeat link (beat.B y) t = ⊤
