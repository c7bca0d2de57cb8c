use Rattle.std.proofs.Common.{◌≡◌, ◌+◌, length}
use Rattle.tl_params.specs.declared.config.Config.{Config}
use Rattle.tl_coherence.specs.statement.Log.{Log}
use Rattle.tl_coherence.specs.statement.Movable.{drained}
use Rattle.tl_world.specs.statement.World.{IsReached}
use Rattle.tl_world.proofs.world.World.drain.Given as goal

abbrev pub invariant-loop-count : goal.invariant-loop-count
invariant-loop-count g l = record {
  reached : (config : Config) (log : Log g.row.W) → IsReached g.A.Agent.represents g.A.Agent.terms g.D.Directory.perm_of
      config l.fn.self log
      → IsReached g.A.Agent.represents g.A.Agent.terms g.D.Directory.perm_of config l.self (drained config l.count log);
  number : (config : Config) (log : Log g.row.W) → IsReached g.A.Agent.represents g.A.Agent.terms g.D.Directory.perm_of
      config l.fn.self log
      → length (drained config l.count log) ≡ l.count + length log;
}
