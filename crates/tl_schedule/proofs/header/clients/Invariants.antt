use Rattle.std.proofs.Common.{◌≡◌, ◌≤◌, length, ◌-◌}
use Rattle.tl_schedule.specs.code.HeaderReading.{clients_at}
use Rattle.tl_params.proofs.UpTo.{behind}
use Rattle.tl_schedule.proofs.header.clients.Given as goal

abbrev pub invariant-loop-rest : goal.invariant-loop-rest
invariant-loop-rest l = record {
  few : length l.clients.items ≤ 16;
  same : clients_at 16 l.bytes ≡ behind l.clients.items (clients_at (16 - length l.clients.items) l.rest);
}

abbrev pub decreases-loop-rest : goal.decreases-loop-rest
decreases-loop-rest l = 16 - length l.clients.items
