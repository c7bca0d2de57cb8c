use Rattle.std.proofs.Common.{◌≡◌, ◌++◌, map, drop}
use Rattle.tl_engine.specs.statement.CommitsHeader.{levels_shown}
use Rattle.tl_engine.proofs.trace_header.append_levels.Given as goal

abbrev pub invariant-loop-client : goal.invariant-loop-client
invariant-loop-client l =
    l.out.items ++ levels_shown l.marked (map (λ client. client.level) (drop l.client-index l.clients)) ≡ l.initial.out.items
    ++ levels_shown l.marked (map (λ client. client.level) l.clients)
