-- What the tables of a link say, and what they say with one more beat.
use Rattle.std.specs.Prelude.{ℕ, Bool, true, false, not, ◌==◌, ◌≡◌, ◌<◌, ◌+◌, ◌^◌, ◌&&◌, ◌||◌, if◌then◌else◌, Option, Some, None}
use Rattle.std.specs.Prelude.{is_some, is_none}
use Rattle.tl_beat.specs.declared.beat.Beat.{Beat}
use Rattle.tl_beat.specs.declared.beat.Beat.TheVariants as beat
use Rattle.tl_beat.specs.declared.channel.Channel.{Channel}
use Rattle.tl_beat.specs.declared.control.Control.{Control}
use Rattle.tl_beat.specs.declared.control.Control.TheVariants as control
use Rattle.tl_beat.specs.declared.opcode.OpD.{OpD}
use Rattle.tl_beat.specs.declared.opcode.OpD.TheVariants as d
use Rattle.tl_burst.specs.statement.Messages.{channel_of}
use Rattle.tl_params.specs.declared.liberties.Liberties.{Liberties}
use Rattle.tl_params.specs.declared.perm.Perm.{Perm}
use Rattle.tl_rules.specs.declared.past.Request.{Request}
use Rattle.tl_rules.specs.declared.table.Release.{Release}
use Rattle.tl_rules.specs.statement.History.{block_at, capped, is_acquire, is_grant, is_probe, is_release, is_release_ack, reported}
use Rattle.tl_rules.specs.code.Tables.{request_next, release_next, block_next, empty_block}
use Rattle.tl_monitor.specs.statement.Count.{at, count_below, sum_below}
use Rattle.tl_monitor.specs.code.Blocks.{open_of}
use Rattle.tl_monitor.specs.code.KnownBlocks.{known_in}
use Rattle.tl_monitor.specs.code.Bursts.{burst_on, burst_with, is_last}
use Rattle.tl_monitor.specs.declared.bursts.Unfinished.{Unfinished}
use Rattle.tl_monitor.specs.declared.link_state.LinkState.{LinkState}

-- a beat begins a message, completes one
abbrev pub is_first : {w : ℕ} → Beat w → LinkState → Bool
is_first x k = is_none (burst_on k.bursts (channel_of x))

abbrev pub completes : {w : ℕ} → Beat w → LinkState → Bool
completes x k = is_last x (burst_on k.bursts (channel_of x))

abbrev pub block_of_request : Option Request → Option ℕ
block_of_request None = None
block_of_request (Some r) = Some r.block

abbrev pub block_of_release : Option Release → Option ℕ
block_of_release None = None
block_of_release (Some r) = Some r.block

-- an answer of this opcode bears on no block
abbrev pub is_access : OpD → Bool
is_access d.AccessAck = true
is_access d.AccessAckData = true
is_access d.HintAck = true
is_access _ = false

-- the block that a beat changes something of
abbrev pub touched : {w : ℕ} → Bool → Bool → Beat w → LinkState → Option ℕ
touched first last (beat.A x) k = if first && is_acquire x.opcode then Some (block_at x.address) else None
touched first last (beat.B x) k = if first && is_probe x.opcode then Some (block_at x.address) else None
touched first last (beat.C x) k = if first || last then Some (block_at x.address) else None
touched first last (beat.D x) k =
    if first || last
    then (if is_release_ack x.opcode then block_of_release (at k.releases x.source) else if is_grant x.opcode then
    block_of_request (at k.requests x.source) else None)
    else None
touched first last (beat.E x) k = at k.sinks x.sink

abbrev pub is_block : ℕ → Option ℕ → Bool
is_block k None = false
is_block k (Some b) = k == b

-- what the Release leaves that has these control fields and this source
abbrev pub left_by_control : ℕ → Control → Option Perm
left_by_control source (control.C x) = if is_release x.opcode && (x.source == source) then Some (reported x.param) else None
left_by_control source _ = None

-- what the Grant gives that has these control fields and this sink; a denied one gives nothing
abbrev pub given_by_control : ℕ → Control → Option Perm
given_by_control sink (control.D x) = if is_grant x.opcode && ((x.sink == sink) && not x.denied) then Some
    (capped x.param) else None
given_by_control sink _ = None

abbrev pub of_burst : {P : Type 0} → (Control → Option Perm) → Option (Unfinished P) → Option Perm
of_burst says None = None
of_burst says (Some u) = says u.control

-- what the message gives that is unfinished and that this one answers
abbrev pub came_early_in : {w : ℕ} → Beat w → LinkState → Option Perm
came_early_in (beat.D x) k = of_burst (left_by_control x.source) k.bursts.c
came_early_in (beat.E x) k = of_burst (given_by_control x.sink) k.bursts.d
came_early_in _ k = None

abbrev pub came_in : {w : ℕ} → Liberties → Beat w → LinkState → Option Perm
came_in l x k = if l.early then came_early_in x k else None

-- the block that was granted with a sink, if b was before
abbrev pub sink_with : {w : ℕ} → Bool → Bool → Beat w → Option ℕ → ℕ → Option ℕ → Option ℕ
sink_with first last (beat.D x) block s b = if first && (is_grant x.opcode && (x.sink == s)) then block else b
sink_with first last (beat.E x) block s b = if last && (x.sink == s) then None else b
sink_with first last _ block s b = b

-- these are the tables with one more beat
pub record IsNext {w : ℕ} (l : Liberties) (old : LinkState) (x : Beat w) (new : LinkState) : Type 0 where
  pub bursts_are : (ch : Channel) → burst_on new.bursts ch ≡ burst_with ch x tt (burst_on old.bursts ch)
  pub requests_are : (s : ℕ) → at new.requests s ≡ request_next (is_first x old) (completes x old) x s
      (at old.requests s)
  pub releases_are : (s : ℕ) → at new.releases s ≡ release_next (is_first x old) (completes x old) x s
      (at old.releases s)
  pub sinks_are : (s : ℕ)
      → at new.sinks s ≡ sink_with (is_first x old) (completes x old) x
      (touched (is_first x old) (completes x old) x old) s (at old.sinks s)
  pub blocks_are : (b : ℕ) → known_in new.blocks b
      ≡ (if is_block b (touched (is_first x old) (completes x old) x old) then block_next l (is_first x old)
      (completes x old) (came_in l x old) x (known_in old.blocks b) else known_in old.blocks b)

-- a beat of a block that had nothing open or held, and has something afterwards
pub record OpensBlock {w : ℕ} (l : Liberties) (old : LinkState) (x : Beat w) (b : ℕ) : Type 0 where
  pub is_number : b < 2 ^ 32
  pub is_touched : touched (is_first x old) (completes x old) x old ≡ Some b
  pub was_empty : known_in old.blocks b ≡ empty_block
  pub then_open : 0 < open_of (block_next l (is_first x old) (completes x old) (came_in l x old) x
      (known_in old.blocks b))

-- nothing is kept
pub record IsEmpty (k : LinkState) : Type 0 where
  pub no_burst : (ch : Channel) → burst_on k.bursts ch ≡ None
  pub no_request : (s : ℕ) → at k.requests s ≡ None
  pub no_release : (s : ℕ) → at k.releases s ≡ None
  pub no_sink : (s : ℕ) → at k.sinks s ≡ None
  pub no_block : (b : ℕ) → known_in k.blocks b ≡ empty_block

-- how much is kept
abbrev pub entries_in : LinkState → ℕ
entries_in k =
    count_below 256 (λ s. is_some (at k.requests s)) + count_below 256 (λ s. is_some (at k.releases s)) + count_below
    256 (λ s. is_some (at k.sinks s))
    + sum_below (2 ^ 32) (λ b. open_of (known_in k.blocks b))
