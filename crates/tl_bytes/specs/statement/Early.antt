-- Answers that begin before the message that they answer is complete.
use Rattle.std.specs.Prelude.{ℕ, Bool, true, false, not, [], ◌∷◌, ◌==◌, ◌&&◌, ◌||◌, if◌then◌else◌, List, filter, find}
use Rattle.std.specs.Prelude.{Option, Some, None, is_some, length}
use Rattle.tl_beat.specs.declared.beat.Beat.{Beat}
use Rattle.tl_beat.specs.declared.beat.Beat.TheVariants as beat
use Rattle.tl_beat.specs.declared.beat.BeatD.{BeatD}
use Rattle.tl_beat.specs.declared.channel.Channel.TheVariants as channel
use Rattle.tl_burst.specs.statement.Burst.{reaches}
use Rattle.tl_burst.specs.statement.Messages.{History, channel_of, unfinished}
use Rattle.tl_params.specs.declared.key.Key.TheVariants.{GrantAckOf, ReleaseOf}
use Rattle.tl_rules.specs.statement.Conformance.{Trace, comes_in_request, on_link}
use Rattle.tl_rules.specs.statement.History.{block_at, ends, is_release, is_release_ack}
use Rattle.tl_rules.specs.statement.Liberties.{is_answered}

-- ---- accesses

-- a response comes before its request is complete
abbrev pub outruns : {w : ℕ} → BeatD w → History w → Bool
outruns x past = not (is_release_ack x.opcode) && comes_in_request x.source (unfinished channel.A past)

-- the beat of channel D completes an answer to a request that is complete
abbrev pub ends_request : {w : ℕ} → BeatD w → History w → Bool
ends_request x past =
    (not (is_release_ack x.opcode) && ends (beat.D x) past) && not (comes_in_request x.source (unfinished channel.A past))

-- An access whose answer began before its request was complete, with the address and size of its request. From the first
-- beat of its answer until both are complete it may write anything there. `answered` says that its answer is complete.
pub record Outrun : Type 0 where
  pub link : ℕ
  pub source : ℕ
  pub address : ℕ
  pub size : ℕ
  pub answered : Bool

-- it is the one with this source on the link
abbrev pub is_outrun_of : ℕ → ℕ → Outrun → Bool
is_outrun_of link source access = (access.link == link) && (access.source == source)

-- with the access of the unfinished request that has these beats
abbrev pub outrun_by : {w : ℕ} → ℕ → List (Beat w) → Bool → List Outrun → List Outrun
outrun_by link (beat.A x ∷ older) answered accesses = record {
  link = link;
  source = x.source;
  address = x.address;
  size = x.size;
  answered = answered;
} ∷ accesses
outrun_by link _ answered accesses = accesses

-- the access, if its answer is complete
abbrev pub if_answered : Option Outrun → Option Outrun
if_answered None = None
if_answered (Some access) = if access.answered then Some access else None

-- the access of these whose answer and request are both complete with a beat
abbrev pub settled_by : {w : ℕ} → ℕ → Beat w → History w → List Outrun → Option Outrun
settled_by link (beat.A x) past before =
    if ends (beat.A x) past then if_answered (find (is_outrun_of link x.source) before) else None
settled_by link (beat.D x) past before =
    if ends_request x past then find (is_outrun_of link x.source) before else None
settled_by link _ past before = None

-- these accesses without the ones with this source on the link
abbrev pub without : ℕ → ℕ → List Outrun → List Outrun
without link source accesses = filter (λ access. not (is_outrun_of link source access)) accesses

-- these accesses without this one, if there is one
abbrev pub without_settled : Option Outrun → List Outrun → List Outrun
without_settled None before = before
without_settled (Some access) before = without access.link access.source before

-- these accesses with one more beat
abbrev pub outrun_with : {w : ℕ} → ℕ → Beat w → History w → List Outrun → List Outrun
outrun_with link (beat.D x) past before =
    if outruns x past
    then outrun_by link (unfinished channel.A past) (ends (beat.D x) past) (without link x.source before)
    else without_settled (settled_by link (beat.D x) past before) before
outrun_with link x past before = without_settled (settled_by link x past before) before

-- the accesses whose answers began before their requests were complete, until both are complete
unfoldable pub outrun_accesses : {w : ℕ} → Trace w → List Outrun
outrun_accesses [] = []
outrun_accesses (x ∷ t) = outrun_with x.0.0 x.1 (on_link x.0.0 t) (outrun_accesses t)

-- one of these accesses may write the byte at an address
abbrev pub is_outrun : ℕ → List Outrun → Bool
is_outrun address accesses = is_some (find (λ access. reaches access.address access.size address) accesses)

-- this access, if there is one, may write the byte at an address
abbrev pub reaches_byte : ℕ → Option Outrun → Bool
reaches_byte address None = false
reaches_byte address (Some access) = reaches access.address access.size address

-- ---- Releases and Grants

-- the beats are those of the Release of the block with this source
abbrev pub is_release_of : {w : ℕ} → ℕ → ℕ → List (Beat w) → Bool
is_release_of block source (beat.C x ∷ burst) =
    (is_release x.opcode && (x.source == source)) && (block_at x.address == block)
is_release_of block source _ = false

-- the beat of channel C belongs to a Release of the block that is answered already
abbrev pub is_released : {w : ℕ} → ℕ → Beat w → History w → Bool
is_released block (beat.C x) past = is_release x.opcode && is_answered (ReleaseOf block) (beat.C x) past
is_released block _ past = false

-- the beat acknowledges the Grant with this sink
abbrev pub acknowledges_sink : {w : ℕ} → ℕ → Beat w → Bool
acknowledges_sink sink (beat.E x) = x.sink == sink
acknowledges_sink sink _ = false

-- the beat completes a report of the block
abbrev pub ends_report : {w : ℕ} → ℕ → Beat w → History w → Bool
ends_report block (beat.C x) past = ends (beat.C x) past && (block_at x.address == block)
ends_report block _ past = false

-- since the last GrantAck with this sink, a report of the block is complete
unfoldable pub reported_since : {w : ℕ} → ℕ → ℕ → History w → Bool
reported_since block sink [] = false
reported_since block sink (x ∷ t) =
    not (acknowledges_sink sink x) && (ends_report block x t || reported_since block sink t)

-- The beat belongs to a Grant of the block that is acknowledged already, and a report of the block came since: another
-- link may have written its bytes, so they are in doubt.
abbrev pub is_overtaken : {w : ℕ} → ℕ → BeatD w → History w → Bool
is_overtaken block x past = is_answered (GrantAckOf block) (beat.D x) past && reported_since block x.sink past

-- the beats of the message that says a block's bytes with this beat: of an unfinished Release if the beat answers it
abbrev pub telling_beats : {w : ℕ} → Beat w → History w → List (Beat w)
telling_beats (beat.D x) past =
    if is_release_ack x.opcode then unfinished channel.C past else beat.D x ∷ unfinished channel.D past
telling_beats x past = x ∷ unfinished (channel_of x) past
