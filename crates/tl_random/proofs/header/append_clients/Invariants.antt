use Rattle.std.proofs.Common.{◌≡◌, ◌++◌, drop}
use Rattle.tl_schedule.specs.statement.Schedule.{clients_text}
use Rattle.tl_random.proofs.header.append_clients.Given as goal

abbrev pub invariant-loop-client : goal.invariant-loop-client
invariant-loop-client l =
    l.out.items ++ clients_text (drop l.client-index l.clients) ≡ l.initial.out.items ++ clients_text l.clients
