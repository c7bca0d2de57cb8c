-- The next line, by the options and the log, and whether its event is kept.
use Rattle.std.specs.Prelude.{ℕ, Bool, true, false, ◌≡◌, ◌==◌, ◌⊎◌, ◌∷◌, ◌++◌, [], All, List, length, nat_lt}
use Rattle.std.specs.Prelude.{slice_index_or, if◌then◌else◌}
use Rattle.tl_params.specs.declared.config.Config.{Config}
use Rattle.tl_params.specs.declared.level.Level.{Level}
use Rattle.tl_params.specs.declared.level.Level.TheVariants as level
use Rattle.tl_params.specs.declared.perm.Perm.{Perm}
use Rattle.tl_client.specs.declared.reply.Reply.{Reply}
use Rattle.tl_client.specs.declared.reply.Reply.TheVariants as reply
use Rattle.tl_command.specs.declared.random.Options.{Options}
use Rattle.tl_coherence.specs.declared.event.Event.{Event}
use Rattle.tl_coherence.specs.declared.event.Outcome.{Outcome}
use Rattle.tl_coherence.specs.declared.event.Outcome.TheVariants as outcome
use Rattle.tl_coherence.specs.statement.Draining.{IsDrained}
use Rattle.tl_coherence.specs.statement.Log.{Log, system_after}
use Rattle.tl_coherence.specs.statement.Movable.{drained}
use Rattle.tl_engine.specs.statement.PlayableWorld.{Contained, HasHappened}
use Rattle.tl_schedule.specs.statement.EventLine.{Deliver, SpellsEvent, drain_line, event_line}
use Rattle.tl_world.specs.statement.World.{held_by}
use Rattle.tl_random.specs.statement.Choose.{channel_of, request}
use Rattle.tl_random.specs.statement.Draw.{Choice, ◌>>=◌, always, below, is_one_in}
use Rattle.tl_random.specs.statement.Said.{said_of}

-- one of the first `count` blocks; 0 if `count` is 0
unfoldable pub block_below : ℕ → Choice ℕ
block_below count = if count == 0 then always 0 else below count

-- a block: seven times in eight one of the contended blocks, otherwise any
unfoldable pub block_of : Options → Choice ℕ
block_of o = is_one_in 8 >>= λ any. block_below (if any then o.config.blocks else o.contend)

-- the line by which a client of this level, which holds this permission of the block, is asked for an operation
unfoldable pub asking_line : ℕ → Level → ℕ → ℕ → Perm → Choice (List ℕ)
asking_line w l client block held =
    request w l block held >>= λ asked. always (event_line w (said_of client asked))

-- the line of a delivery on the link of a client of this level
unfoldable pub delivery_line : ℕ → Level → ℕ → Choice (List ℕ)
delivery_line w l client = channel_of l >>= λ ch. always (event_line w (Deliver client ch))

-- the level of a client
abbrev pub level_at : Config → ℕ → Level
level_at config client = (slice_index_or config.clients.items client (record { level = level.UL; sources = 0 })).level

-- a line after a log: two times in five an operation of a client, otherwise a delivery on its link
unfoldable pub line_drawn : {w : ℕ} → Options → Log w → Choice (List ℕ)
line_drawn {w} o log =
    below (length o.config.clients.items) >>= λ client. below 5 >>= λ n.
    if nat_lt n 2
    then (block_of o >>= λ block.
    asking_line w (level_at o.config client) client block (held_by o.config client block (system_after o.config log)))
    else delivery_line w (level_at o.config client) client

-- the reply is Busy or Miss
abbrev pub is_idle_reply : Reply → Bool
is_idle_reply (reply.Busy busy) = true
is_idle_reply reply.Miss = true
is_idle_reply _ = false

-- the event had no effect: busy, miss, stalled, empty, or no such client
abbrev pub is_idle : {w : ℕ} → Outcome w → Bool
is_idle (outcome.Replied r) = is_idle_reply r
is_idle outcome.Empty = true
is_idle outcome.Stalled = true
is_idle outcome.NoSuchClient = true
is_idle _ = false

-- an event with an effect is kept, and one without with a chance of one in 72
unfoldable pub takes : {w : ℕ} → Outcome w → Choice Bool
takes o = if is_idle o then is_one_in 72 else always true

-- ---- events in the world

-- two configurations are the same
pub record IsSameConfig (one other : Config) : Type 0 where
  pub blocks_are : one.blocks ≡ other.blocks
  pub trackers_are : one.trackers ≡ other.trackers
  pub clients_are : one.clients.items ≡ other.clients.items
  pub profile_is : one.profile ≡ other.profile

-- nothing has happened in a world of this configuration
abbrev pub IsFreshOf : {w : ℕ} → Config → Contained w → Type 0
IsFreshOf config world = (same : Config) × IsSameConfig same config × HasHappened same world []

-- none of these events had an effect
abbrev pub AreIdle : {w : ℕ} → Log w → Type 0
AreIdle log = All (λ x. is_idle x.1 ≡ true) log

-- the world of this log was drained: a number of deliveries, each the next one, after which nothing was outstanding
abbrev pub IsDrainedOf : {w : ℕ} → Config → Log w → Contained w → Type 0
IsDrainedOf config log world =
    (count : ℕ) × HasHappened config world (drained config count log) × IsDrained config log count

-- The line was played in the world of this log, after events without effect. The line spells the last event, or it is
-- `drain` and the world was drained.
abbrev pub PlaysLine : {w : ℕ} → Config → Log w → Contained w → List ℕ → Type 0
PlaysLine {w} config log world line =
    (tried : Log w) × AreIdle tried
    × (((event : Event w) × (outcome : Outcome w) × SpellsEvent line event
    × HasHappened config world ((event, outcome) ∷ (tried ++ log)))
    ⊎ ((line ≡ drain_line) × IsDrainedOf config (tried ++ log) world))

-- the text grew by such a line
abbrev pub GrowsByPlay : {w : ℕ} → Config → Contained w → Contained w → List ℕ → List ℕ → Type 0
GrowsByPlay {w} config was is old new =
    (log : Log w) → HasHappened config was log → (line : List ℕ) × (new ≡ old ++ line) × PlaysLine config log is line
