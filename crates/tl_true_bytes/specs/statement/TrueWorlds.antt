-- That the bytes which all links of a world carry are true.
use Rattle.std.specs.Prelude.{ℕ, length}
use Rattle.tl_params.specs.declared.config.Config.{Config}
use Rattle.tl_coherence.specs.statement.Flow.{trace_of}
use Rattle.tl_coherence.specs.statement.Headline.{IsGiven}
use Rattle.tl_coherence.specs.statement.Log.{Log}
use Rattle.tl_one_memory.specs.statement.TrueBytes.{AreTrue}

-- Whatever happens to a manager and its clients, no GrantData brings bytes that may not be granted, and no
-- AccessAckData bytes that its request may not bring, by the beats that all links have carried.
abbrev pub TrueWorlds : ℕ → Type 0
TrueWorlds w = (config : Config) (log : Log w) → IsGiven config log
    → AreTrue (length config.clients.items) (trace_of log)
