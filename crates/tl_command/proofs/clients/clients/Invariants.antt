use Rattle.std.proofs.Common.{◌≡◌, ◌-◌, length}
use Rattle.tl_command.specs.code.ClientReading.{clients_at}
use Rattle.tl_command.proofs.ClientWords.{ReadsBehind}
use Rattle.tl_command.proofs.clients.clients.Given as goal

abbrev pub invariant-loop : goal.invariant-loop
invariant-loop l = record {
  many : length l.clients.items ≡ l.counter;
  same : ReadsBehind l.clients.items (clients_at (16 - l.counter) l.rest) (clients_at 16 l.word);
}
