use Rattle.std.proofs.Common.{ℕ, ◌≡◌, false}
use Rattle.std.specs.Int.{bit_at}
use Rattle.tl_params.specs.declared.config.Config.{Config}
use Rattle.tl_world.specs.code.Holds.{Holds}
use Rattle.tl_coherence.specs.statement.Movable.{is_movable}
use Rattle.tl_coherence.specs.statement.System.{System}
use Rattle.tl_world.proofs.network.Network.movable_on.Given as goal

abbrev pub invariant-loop-number : goal.invariant-loop-number
invariant-loop-number g l =
    (config : Config) (s : System g.row.W) → Holds g.A.Agent.represents g.A.Agent.terms g.D.Directory.perm_of config
    l.self s
    → (k : ℕ) → bit_at l.links k ≡ 0 → is_movable config k l.channel s ≡ false

abbrev pub decreases-loop-number : goal.decreases-loop-number
decreases-loop-number g l = l.links
