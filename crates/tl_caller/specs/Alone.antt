-- What an operation that is alone has brought.
use Rattle.std.specs.Prelude.{ℕ, ◌∷◌, ◌≡◌}
use Rattle.tl_params.specs.declared.config.Config.{Config}
use Rattle.tl_params.specs.declared.perm.Perm.{Perm}
use Rattle.tl_client.specs.declared.operation.Op.{Op}
use Rattle.tl_client.specs.declared.reply.Reply.TheVariants.{Started}
use Rattle.tl_coherence.specs.declared.event.Event.TheVariants.{Ask}
use Rattle.tl_coherence.specs.declared.event.Outcome.TheVariants.{Replied}
use Rattle.tl_coherence.specs.statement.Draining.{IsDrained}
use Rattle.tl_coherence.specs.statement.Headline.{IsGiven}
use Rattle.tl_coherence.specs.statement.Load.{outstanding}
use Rattle.tl_coherence.specs.statement.Log.{Log, system_after}
use Rattle.tl_coherence.specs.statement.Movable.{drained}
use Rattle.tl_world.specs.statement.World.{held_by}

-- the log after an operation was started with this source
abbrev pub after_start : {w : ℕ} → ℕ → Op w → ℕ → Log w → Log w
after_start client op source log = (Ask client op, Replied (Started source)) ∷ log

-- with nothing outstanding the operation was started, and what it started was drained: the client holds this of the
-- block
pub record IsStartedAlone {w : ℕ} (config : Config) (client : ℕ) (op : Op w) (block : ℕ) (p : Perm) (log : Log w)
    (source n : ℕ) : Type 0 where
  pub idle : outstanding log ≡ 0
  pub given : IsGiven config (after_start client op source log)
  pub ended : IsDrained config (after_start client op source log) n
  pub held : p ≡ held_by config client block (system_after config (drained config n (after_start client op source log)))

abbrev pub IsBroughtAlone : {w : ℕ} → Config → ℕ → Op w → ℕ → Perm → Type 0
IsBroughtAlone {w} config client op block p = (log : Log w) × (source : ℕ) × (n : ℕ)
    × IsStartedAlone config client op block p log source n
