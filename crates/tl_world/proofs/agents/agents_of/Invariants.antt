use Rattle.tl_client.specs.code.KnowsAny.{KnowsAny, any_terms}
use Rattle.tl_world.specs.code.Agents.{AreMade}
use Rattle.tl_world.proofs.agents.agents_of.Given as goal

abbrev pub invariant-loop-client : goal.invariant-loop-client
invariant-loop-client g l = AreMade KnowsAny any_terms l.config l.client-index l.agents.items
