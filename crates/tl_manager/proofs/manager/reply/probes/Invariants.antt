use Rattle.std.proofs.Common.{◌≡◌, ◌≤◌, length, ◌==◌}
use Rattle.std.specs.Int.{bit_at}
use Rattle.tl_manager.{specs.statement.Handing.probes, specs.statement.Holders.clients_from}
use Rattle.tl_manager.proofs.manager.reply.probes.Given as goal

abbrev pub invariant-loop-client : goal.invariant-loop-client
invariant-loop-client g l = record {
  few : length l.handed.items ≤ l.client;
  sent : l.handed.items ≡ probes l.block l.cap (clients_from 0 l.client (λ c. bit_at l.clients c == 1));
}
