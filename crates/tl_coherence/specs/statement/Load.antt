-- The number of operations outstanding after a log, and of deliveries that they can still need.
use Rattle.std.specs.Prelude.{ℕ, Bool, true, false, ◌≤◌, ◌+◌, ◌-◌, ◌*◌, ◌/◌, if◌then◌else◌, filter, length}
use Rattle.tl_beat.specs.declared.beat.Beat.TheVariants as beat
use Rattle.tl_client.specs.declared.operation.Op.{Op}
use Rattle.tl_client.specs.declared.operation.Op.TheVariants as op
use Rattle.tl_client.specs.declared.reply.Reply.TheVariants as reply
use Rattle.tl_client.specs.declared.verdict.Finish.TheVariants as finish
use Rattle.tl_coherence.specs.declared.event.Event.{Event}
use Rattle.tl_coherence.specs.declared.event.Event.TheVariants.{Ask}
use Rattle.tl_coherence.specs.declared.event.Outcome.{Outcome}
use Rattle.tl_coherence.specs.declared.event.Outcome.TheVariants.{Replied, Moved, Done}
use Rattle.tl_coherence.specs.statement.Log.{Log}

-- the operation is a Release
abbrev pub is_release : {w : ℕ} → Op w → Bool
is_release (op.Release block prune) = true
is_release _ = false

-- the event starts a Release
abbrev pub starts_release : {w : ℕ} → Event w → Outcome w → Bool
starts_release (Ask client operation) (Replied (reply.Started source)) = is_release operation
starts_release _ _ = false

-- the event starts an Access, Acquire or AcquireWhole
abbrev pub starts_request : {w : ℕ} → Event w → Outcome w → Bool
starts_request (Ask client operation) (Replied (reply.Started source)) = if is_release operation then false else true
starts_request _ _ = false

-- the outcome ends a Release
abbrev pub ends_release : {w : ℕ} → Outcome w → Bool
ends_release (Done x source finish.Released) = true
ends_release _ = false

-- the outcome ends a request: an access is answered, or a GrantAck arrives
abbrev pub ends_request : {w : ℕ} → Outcome w → Bool
ends_request (Done x source finish.Ack) = true
ends_request (Done x source finish.Hint) = true
ends_request (Done x source (finish.Data size bytes)) = true
ends_request (Moved (beat.E x)) = true
ends_request _ = false

-- the number of events for which the test is true
abbrev pub number : {w : ℕ} → (Event w → Outcome w → Bool) → Log w → ℕ
number test log = length (filter (λ x. test x.0 x.1) log)

-- the number of requests outstanding: those started less those ended
unfoldable pub requests : {w : ℕ} → Log w → ℕ
requests log = number starts_request log - number (λ e o. ends_request o) log

-- the number of Releases outstanding: those started less those ended
unfoldable pub releases : {w : ℕ} → Log w → ℕ
releases log = number starts_release log - number (λ e o. ends_release o) log

-- no more ended than started, so that these differences are exact
pub record IsBalanced {w : ℕ} (log : Log w) : Type 0 where
  pub requests : number (λ e o. ends_request o) log ≤ number starts_request log
  pub releases : number (λ e o. ends_release o) log ≤ number starts_release log

-- the number of operations outstanding
abbrev pub outstanding : {w : ℕ} → Log w → ℕ
outstanding log = requests log + releases log

-- The load. With n beats to a block, a request moves at most n beats one way, sixteen Probes, sixteen reports and one
-- answer. A Release moves n beats and one.
abbrev pub load : {w : ℕ} → Log w → ℕ
load {w} log = (64 / w + 33) * requests log + (64 / w + 1) * releases log
