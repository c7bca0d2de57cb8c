-- What a manager keeps of the blocks is true of them after a trace.
use Rattle.std.specs.Prelude.{ℕ, true, false, ◌≡◌, ◌≢◌, ◌<◌, None, ◌∷◌, ⊤}
use Rattle.tl_beat.specs.declared.beat.Beat.TheVariants as beat
use Rattle.tl_beat.specs.declared.beat.BeatC.{BeatC}
use Rattle.tl_beat.specs.declared.beat.Link.{Link}
use Rattle.tl_burst.specs.declared.message.MessageC.{MessageC}
use Rattle.tl_burst.specs.statement.Messages.{unfinished}
use Rattle.tl_rules.specs.statement.Admission.{payload_of}
use Rattle.tl_beat.specs.declared.channel.Channel.TheVariants as channel
use Rattle.tl_burst.specs.declared.message.Message.TheVariants as message
use Rattle.tl_burst.specs.declared.message.MessageA.{MessageA}
use Rattle.tl_burst.specs.statement.Burst.{beats_of, IsBlankAfter}
use Rattle.tl_params.specs.declared.config.Config.{Config}
use Rattle.tl_params.specs.declared.level.Level.TheVariants as level
use Rattle.tl_params.specs.declared.perm.Perm.{Perm}
use Rattle.tl_rules.specs.statement.Conformance.{Trace, on_link}
use Rattle.tl_rules.specs.statement.Effect.{Memory}
use Rattle.tl_rules.specs.statement.History.{ends, block_at, is_acquire, is_probe_ack}
use Rattle.tl_rules.specs.statement.Legality.{illegal_message}
use Rattle.tl_manager.specs.code.Blocks.{AreBlocks}
use Rattle.tl_manager.specs.statement.Handing.{Reaction, Handed, with_handed}
use Rattle.tl_manager.specs.statement.Holders.{recorded}
use Rattle.tl_manager.specs.code.Kept.{Each, IsSound}
use Rattle.tl_manager.specs.code.Ready.{IsReady, IsTaken}
use Rattle.tl_manager.specs.statement.End.{End}
use Rattle.tl_manager.specs.code.Tracked.{IsTracked, service_with}
use Rattle.tl_manager.specs.code.Trackers.{tracker_at}
use Rattle.tl_manager.specs.declared.manager.block_state.BlockState.{BlockState}
use Rattle.tl_manager.specs.declared.manager.tracker.Tracker.{Tracker}
use Rattle.tl_manager.specs.declared.manager.tracker.Tracker.TheVariants.{Free, Probing, Granted}

-- the directory and the bytes are those after this trace, and all trackers but this one, if any
pub record IsBlockStateBut {w : ℕ} {D : Type 0} (other : ℕ → Type 0) (perm_of : D → ℕ → ℕ → Perm) (config : Config)
    (block_state : BlockState w D) (t : Trace w) (memory : Memory) : Type 0 where
  pub profile : block_state.profile ≡ config.profile
  pub count : block_state.trackers.count ≡ config.trackers
  pub tracked : (n : ℕ) → other n → IsTracked n (tracker_at block_state.trackers n) t
  pub records : (block client : ℕ) → perm_of block_state.directory block client ≡ recorded client block t
  pub bytes : AreBlocks block_state.blocks.bytes.items memory

abbrev pub IsBlockState : {w : ℕ} {D : Type 0} → (D → ℕ → ℕ → Perm) → Config → BlockState w D → Trace w → Memory
    → Type 0
IsBlockState perm_of config block_state t memory = IsBlockStateBut (λ n. ⊤) perm_of config block_state t memory

abbrev pub IsBlockStateWithout : {w : ℕ} {D : Type 0} → ℕ → (D → ℕ → ℕ → Perm) → Config → BlockState w D → Trace w
    → Memory → Type 0
IsBlockStateWithout number perm_of config block_state t memory =
    IsBlockStateBut (λ n. n ≢ number) perm_of config block_state t memory

-- this was done after the trace
abbrev pub IsDone : {w : ℕ} {D : Type 0} → (D → ℕ → ℕ → Perm) → Config → BlockState w D → Handed w → Trace w
    → Reaction w → Type 0
IsDone perm_of config block_state handed t reaction = (handed ≡ reaction.handed)
    × IsBlockState perm_of config block_state (with_handed reaction.handed t) reaction.memory

-- a request that can be performed, and answered, if there are this many blocks and clients
pub record IsPlaced {w : ℕ} (blocks clients : ℕ) (link : Link) (request : MessageA w) : Type 0 where
  pub legal : is_acquire request.opcode ≡ false → illegal_message level.UH channel.A (message.A request) ≡ None
  pub blank : IsBlankAfter (beats_of (message.A request)) (message.A request)
  pub inside : block_at request.address < blocks
  pub client : link.0 < clients

-- the tracker's request is one
abbrev pub IsPlacedIn : {w : ℕ} → ℕ → ℕ → Tracker w → Type 0
IsPlacedIn blocks clients Free = ⊤
IsPlacedIn blocks clients (Probing link request missing) = IsPlaced blocks clients link request
IsPlacedIn blocks clients (Granted link block) = ⊤

-- after this trace the request of the tracker may be performed
pub record IsReadyAt {w : ℕ} (config : Config) (number : ℕ) (link : Link) (request : MessageA w) (t : Trace w) : Type 0
  where
    pub ready : IsReady config (block_at request.address) (service_with number link request) t
    pub sound : Each (IsSound config) t

-- a ProbeAck of the block, whose last beat is taken
pub record IsReport {w : ℕ} (config : Config) (link : Link) (block : ℕ) (x : BeatC w) (e : End w) : Type 0 where
  pub taken : IsTaken config link (beat.C x) e
  pub last : ends (beat.C x) (on_link link.0 e.trace) ≡ true
  pub kind : is_probe_ack x.opcode ≡ true
  pub of_block : block_at x.address ≡ block

-- all but the trackers is as after the report, and these are as before
pub record IsReportedBlockState {w : ℕ} {D : Type 0} (perm_of : D → ℕ → ℕ → Perm) (config : Config)
    (block_state : BlockState w D) (before after : Trace w) (memory : Memory) : Type 0 where
  pub profile : block_state.profile ≡ config.profile
  pub count : block_state.trackers.count ≡ config.trackers
  pub tracked : (n : ℕ) → IsTracked n (tracker_at block_state.trackers n) before
  pub records : (block client : ℕ) → perm_of block_state.directory block client ≡ recorded client block after
  pub bytes : AreBlocks block_state.blocks.bytes.items memory

-- the message of channel C that is complete with this beat
pub record IsMessage {w : ℕ} (config : Config) (link : Link) (x : BeatC w) (message : MessageC w) (e : End w) : Type 0
  where
    pub taken : IsTaken config link (beat.C x) e
    pub last : ends (beat.C x) (on_link link.0 e.trace) ≡ true
    pub opcode : message.opcode ≡ x.opcode
    pub param : message.param ≡ x.param
    pub source : message.source ≡ x.source
    pub address : message.address ≡ x.address
    pub payload : message.payload ≡ payload_of (beat.C x ∷ unfinished channel.C (on_link link.0 e.trace))
