-- No client holds a higher permission of a block than the manager has recorded.
use Rattle.std.specs.Prelude.{ℕ, true, ◌≡◌}
use Rattle.tl_params.specs.declared.config.Config.{Config}
use Rattle.tl_client.specs.statement.Endpoint.{held_at}
use Rattle.tl_manager.specs.statement.Holders.{recorded}
use Rattle.tl_coherence.specs.statement.Headline.{IsGiven}
use Rattle.tl_coherence.specs.statement.Log.{Log, system_after}
use Rattle.tl_coherence.specs.statement.Permissions.{perm_le}

-- the permission that a client holds is at most the one that the manager has recorded
abbrev pub Recorded : ℕ → Type 0
Recorded w = (config : Config) (log : Log w) → IsGiven config log → (link block : ℕ) →
    perm_le (held_at ((system_after config log).clients link) block)
    (recorded link block (system_after config log).manager.trace) ≡ true
