-- A world that is played with.
use Rattle.std.specs.Prelude.{ℕ}
use Rattle.tl_client.specs.declared.any.AnyClient.{AnyClient}
use Rattle.tl_client.specs.code.KnowsAny.{KnowsAny, any_terms}
use Rattle.tl_manager.specs.declared.bits.BitDirectory.{BitDirectory}
use Rattle.tl_manager.specs.code.Directories.{perm_of_bits}
use Rattle.tl_params.specs.declared.config.Config.{Config}
use Rattle.tl_world.specs.declared.state.WorldState.{WorldState}
use Rattle.tl_coherence.specs.statement.Log.{Log}
use Rattle.tl_world.specs.statement.World.{IsReached}

-- a world of clients of any level, whose records are a directory of bits
abbrev pub Contained : ℕ → Type 0
Contained w = WorldState w (AnyClient w) BitDirectory

-- all this has happened to the world
abbrev pub HasHappened : {w : ℕ} → Config → Contained w → Log w → Type 0
HasHappened config world log = IsReached KnowsAny any_terms perm_of_bits config world log
