use Rattle.std.proofs.Common.{◌≡◌, map, take}
use Rattle.tl_manager.specs.code.Fresh.{fresh_link_state}
use Rattle.tl_manager.proofs.manager.state.link_states_for.Given as goal

abbrev pub invariant-loop-client : goal.invariant-loop-client
invariant-loop-client g l = l.link_states.items ≡ map (λ client. fresh_link_state client.level)
    (take l.client-index l.clients)
