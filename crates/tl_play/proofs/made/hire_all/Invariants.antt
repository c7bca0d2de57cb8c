use Rattle.tl_world.specs.code.Agents.{AreMade}
use Rattle.tl_play.proofs.made.hire_all.Given as goal

abbrev pub invariant-loop-client : goal.invariant-loop-client
invariant-loop-client g l = AreMade g.A.Agent.represents g.A.Agent.terms l.config l.client-index l.clients.items
