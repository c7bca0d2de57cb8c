use Rattle.std.proofs.Common.{◌≡◌, length}
use Rattle.tl_params.specs.declared.config.Config.{Config}
use Rattle.tl_coherence.specs.statement.Log.{Log}
use Rattle.tl_world.specs.statement.World.{IsReached}
use Rattle.tl_caller.proofs.Bounds.{Behind}
use Rattle.tl_caller.proofs.deliveries.deliver_each.Given as goal

abbrev pub invariant-loop-link : goal.invariant-loop-link
invariant-loop-link g l = (config : Config) (log : Log g.row.W)
    → IsReached g.A.Agent.represents g.A.Agent.terms g.D.Directory.perm_of config l.fn.world log
    → (more : Log g.row.W) × (whole : Log g.row.W)
    × IsReached g.A.Agent.represents g.A.Agent.terms g.D.Directory.perm_of config l.world whole
    × Behind whole more log l.moved × (length more ≡ l.link-index)
