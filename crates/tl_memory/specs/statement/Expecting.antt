-- The bytes that a response may bring, and those of a response that has begun on a link.
use Rattle.std.specs.Prelude.{ℕ, suc, Bool, true, false, not, ◌||◌, ◌∷◌, ◌*◌, ◌≡◌, List, length, find, Option, Some, None}
use Rattle.std.specs.Prelude.{⊤}
use Rattle.tl_beat.specs.declared.beat.Beat.{Beat}
use Rattle.tl_beat.specs.declared.beat.Beat.TheVariants as beat
use Rattle.tl_beat.specs.declared.beat.BeatD.{BeatD}
use Rattle.tl_beat.specs.declared.channel.Channel.TheVariants as channel
use Rattle.tl_beat.specs.declared.opcode.OpD.{OpD}
use Rattle.tl_beat.specs.declared.opcode.OpD.TheVariants as d
use Rattle.tl_burst.specs.statement.Burst.{reaches}
use Rattle.tl_burst.specs.statement.Messages.{unfinished}
use Rattle.tl_rules.specs.statement.OpenMessages.{open_request}
use Rattle.tl_rules.specs.declared.past.Request.{Request}
use Rattle.tl_rules.specs.statement.Conformance.{Trace, on_link}
use Rattle.tl_rules.specs.statement.History.{block_at}
use Rattle.tl_bytes.specs.statement.Bytes.{Access, before_last, found_after, is_get, is_of, may_read}
use Rattle.tl_bytes.specs.statement.Bytes.{pending_accesses}
use Rattle.tl_bytes.specs.statement.Known.{KnowsGrant}
use Rattle.tl_memory.specs.declared.expected.Expected.{Expected}
use Rattle.tl_memory.specs.statement.Known.{Expects}

-- an AccessAckData that answers this access and began after t may bring the byte v: the access may find it, or doesn't
-- reach its address
abbrev pub may_answer : {w : ℕ} → ℕ → Access w → Trace w → ℕ → ℕ → Bool
may_answer n access t address v =
    not (reaches access.request.address access.request.size address) || may_read n access t address v

-- these are the bytes that a GrantData to a request may bring, if it begins after t
abbrev pub ExpectsGrant : {w : ℕ} → Option Expected → ℕ → Option Request → Trace w → Type 0
ExpectsGrant None n None t = ⊤
ExpectsGrant (Some expected) n (Some asked) t =
    (expected.address ≡ 64 * asked.block) × (expected.size ≡ 6) × KnowsGrant expected.bytes n asked.block t
ExpectsGrant _ n _ t = ⊥

-- these are the bytes that an AccessAckData to an access may bring, if one is pending and the answer begins after t
abbrev pub ExpectsRead : {w : ℕ} → Option Expected → ℕ → Option (Access w) → Trace w → Type 0
ExpectsRead {w} expected n None t = Expects {w = w} expected n 0 None t
ExpectsRead expected n (Some access) t = Expects expected n (block_at access.request.address) (Some access) t

-- These are the bytes that a response with this opcode and source may bring, if the beats of all links are t and it
-- began after `begun`. Nothing is said of responses whose bytes aren't judged.
abbrev pub ExpectsResponse : {w : ℕ} → Option Expected → ℕ → ℕ → OpD → ℕ → Trace w → Trace w → Type 0
ExpectsResponse expected n link d.GrantData source t begun =
    ExpectsGrant expected n (open_request source (on_link link t)) begun
ExpectsResponse expected n link d.AccessAckData source t begun =
    ExpectsRead expected n (find (is_of link source) (pending_accesses t)) begun
ExpectsResponse expected n link _ source t begun = ⊤

-- These are the bytes that a Get may find by a beat of its answer after t that doesn't begin the answer, since a Get
-- may be served beat by beat. For another access there are none.
abbrev pub ExpectsAgain : {w : ℕ} → Option Expected → ℕ → Option (Access w) → Trace w → Type 0
ExpectsAgain expected n None t = expected ≡ None
ExpectsAgain expected n (Some access) t =
    (is_get access.request.opcode ≡ true → ExpectsRead expected n (Some access) t)
    × (is_get access.request.opcode ≡ false → expected ≡ None)

-- the same for a response with this opcode and source
abbrev pub ExpectsLater : {w : ℕ} → Option Expected → ℕ → ℕ → OpD → ℕ → Trace w → Type 0
ExpectsLater expected n link d.AccessAckData source t =
    ExpectsAgain expected n (find (is_of link source) (pending_accesses t)) t
ExpectsLater expected n link _ source t = expected ≡ None

-- these are the bytes that a response with this opcode and source may bring with a beat after t, if k of its beats came
-- before
abbrev pub ExpectsBeat : {w : ℕ} → Option Expected → ℕ → ℕ → OpD → ℕ → ℕ → Trace w → Type 0
ExpectsBeat expected n link d.AccessAckData source k t =
    ExpectsRead expected n (find (is_of link source) (pending_accesses t))
    (found_after (find (is_of link source) (pending_accesses t)) link k t)
ExpectsBeat expected n link opcode source k t = ExpectsResponse expected n link opcode source t (before_last link k t)

-- these are the bytes that the unfinished response on channel D of a link may bring
abbrev pub KnowsExpected : {w : ℕ} → Option Expected → ℕ → ℕ → Trace w → Type 0
KnowsExpected {w} expected n link t = (y : BeatD w) (older : List (Beat w))
    → unfinished channel.D (on_link link t) ≡ beat.D y ∷ older
    → ExpectsResponse expected n link y.opcode y.source t (before_last link (suc (length older)) t)
