use Rattle.std.proofs.Common.{◌≡◌, take, length}
use Rattle.tl_params.specs.declared.config.Config.{Config}
use Rattle.tl_coherence.specs.statement.Log.{Log, logged}
use Rattle.tl_world.specs.statement.World.{IsReached}
use Rattle.tl_world.proofs.world.World.run.Given as goal

abbrev pub invariant-loop-i : goal.invariant-loop-i
invariant-loop-i g l = record {
  number : length l.outcomes ≡ length l.fn.outcomes;
  reached : (config : Config) (log : Log g.row.W) → IsReached g.A.Agent.represents g.A.Agent.terms g.D.Directory.perm_of
      config l.fn.self log
      → IsReached g.A.Agent.represents g.A.Agent.terms g.D.Directory.perm_of config l.self
      (logged (take l.i l.events) (take l.i l.outcomes) log);
}
