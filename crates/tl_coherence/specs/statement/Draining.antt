-- The number of deliveries after which nothing is outstanding, and the permission that an Acquire then has brought.
use Rattle.std.specs.Prelude.{ℕ, Bool, true, false, List, ◌∷◌, ◌++◌, ◌≡◌, ◌≤◌, ◌+◌, All, filter, length, Some, None}
use Rattle.tl_beat.specs.declared.beat.Beat.{Beat}
use Rattle.tl_beat.specs.declared.beat.Link.{Link}
use Rattle.tl_beat.specs.declared.channel.Channel.{Channel}
use Rattle.tl_params.specs.declared.config.Config.{Config}
use Rattle.tl_params.specs.declared.param.Grow.{Grow}
use Rattle.tl_params.specs.declared.param.Grow.TheVariants as grow
use Rattle.tl_params.specs.declared.perm.Perm.{Perm}
use Rattle.tl_params.specs.declared.perm.Perm.TheVariants as perm
use Rattle.tl_params.specs.declared.profile.Profile.{Profile}
use Rattle.tl_params.specs.declared.profile.Profile.TheVariants as profile
use Rattle.tl_params.specs.statement.Param.{grow_right}
use Rattle.tl_rules.specs.statement.Conformance.{same_perm}
use Rattle.tl_client.specs.declared.operation.Op.{Op}
use Rattle.tl_client.specs.declared.operation.Op.TheVariants.{Acquire, AcquireWhole}
use Rattle.tl_client.specs.declared.reply.Reply.TheVariants.{Started}
use Rattle.tl_client.specs.declared.verdict.Finish.TheVariants.{Granted}
use Rattle.tl_client.specs.statement.Ask.{op_block}
use Rattle.tl_client.specs.statement.Endpoint.{held_at}
use Rattle.tl_coherence.specs.declared.event.Event.{Event}
use Rattle.tl_coherence.specs.declared.event.Event.TheVariants.{Ask, Deliver}
use Rattle.tl_coherence.specs.declared.event.Outcome.{Outcome}
use Rattle.tl_coherence.specs.declared.event.Outcome.TheVariants as outcome
use Rattle.tl_coherence.specs.statement.Coherent.{started}
use Rattle.tl_coherence.specs.statement.Load.{outstanding, load}
use Rattle.tl_coherence.specs.statement.Log.{Log, system_after}
use Rattle.tl_coherence.specs.statement.Machine.{Requests}
use Rattle.tl_coherence.specs.statement.Movable.{next_delivery, drained}
use Rattle.tl_coherence.specs.statement.Headline.{IsGiven}

-- ---- the bound

-- the event is a delivery
abbrev pub is_delivery : {w : ℕ} → Event w → Bool
is_delivery (Ask client op) = false
is_delivery (Deliver link ch) = true

-- the event moved a beat
abbrev pub is_moving : {w : ℕ} → Outcome w → Bool
is_moving (outcome.Moved x) = true
is_moving (outcome.Done x source finish) = true
is_moving _ = false

-- the number of deliveries that moved a beat
abbrev pub beats_moved : {w : ℕ} → Log w → ℕ
beats_moved log = length (filter (λ x. is_moving x.1) log)

-- deliveries alone move at most as many beats as the load before them
abbrev pub DeliveryBound : ℕ → Type 0
DeliveryBound w = (config : Config) (more log : Log w) → IsGiven config (more ++ log)
    → All (λ x. is_delivery x.0 ≡ true) more → beats_moved more ≤ load log

-- after n deliveries, each the next one, nothing is outstanding and no delivery can move a beat
pub record IsDrained {w : ℕ} (config : Config) (log : Log w) (n : ℕ) : Type 0 where
  pub so_many : length (drained config n log) ≡ n + length log
  pub few : n ≤ load log
  pub stands : next_delivery config (system_after config (drained config n log)) ≡ None
  pub nothing_left : outstanding (drained config n log) ≡ 0

-- from each state deliveries alone lead to one with nothing outstanding, in at most as many steps as the load
abbrev pub DrainsWithinLoad : ℕ → Type 0
DrainsWithinLoad w = (config : Config) (log : Log w) → IsGiven config log → (n : ℕ) × IsDrained config log n

-- ---- the permission that an Acquire brings

-- when a Grant of p ends an operation, the client holds p of the operation's block
abbrev pub GrantedIsHeld : ℕ → Type 0
GrantedIsHeld w = (config : Config) (log : Log w) (link : Link) (ch : Channel) (x : Beat w) (source : ℕ) (p : Perm)
    (op : Op w) →
    IsGiven config ((Deliver link ch, outcome.Done x source (Granted p)) ∷ log)
    → started link.0 Requests source log ≡ Some op →
    held_at ((system_after config ((Deliver link ch, outcome.Done x source (Granted p)) ∷ log)).clients link.0)
    (op_block op) ≡ p

-- the permission fits an Acquire that is granted alone; under the second profile NtoB may bring Trunk
abbrev pub grown_to : Profile → Grow → Perm → Bool
grown_to profile.Two grow.NtoB perm.Trunk = true
grown_to p grow held = same_perm (grow_right grow) held

-- an Acquire that starts with nothing else outstanding brings the permission that it asks for
abbrev pub LoneAcquire : ℕ → Type 0
LoneAcquire w = (config : Config) (log : Log w) (client block source n : ℕ) (grow : Grow) → outstanding log ≡ 0 →
    IsGiven config ((Ask client (Acquire block grow), outcome.Replied (Started source)) ∷ log) →
    IsDrained config ((Ask client (Acquire block grow), outcome.Replied (Started source)) ∷ log) n →
    grown_to config.profile grow
    (held_at ((system_after config
    (drained config n ((Ask client (Acquire block grow), outcome.Replied (Started source)) ∷ log))).clients client)
    block) ≡ true

-- an AcquireWhole that starts with nothing else outstanding brings Trunk
abbrev pub LoneAcquireWhole : ℕ → Type 0
LoneAcquireWhole w = (config : Config) (log : Log w) (client block source n : ℕ) (bytes : List ℕ) → outstanding log ≡ 0
    →
    IsGiven config ((Ask client (AcquireWhole block bytes), outcome.Replied (Started source)) ∷ log) →
    IsDrained config ((Ask client (AcquireWhole block bytes), outcome.Replied (Started source)) ∷ log) n →
    held_at ((system_after config
    (drained config n ((Ask client (AcquireWhole block bytes), outcome.Replied (Started source)) ∷ log))).clients
    client) block ≡ perm.Trunk
