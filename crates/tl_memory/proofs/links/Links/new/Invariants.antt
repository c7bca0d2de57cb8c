use Rattle.std.proofs.Common.{◌≡◌, length}
use Rattle.tl_memory.proofs.messages.LinkTables.{AreNew}
use Rattle.tl_memory.proofs.links.Links.new.Given as goal

abbrev pub invariant-loop : goal.invariant-loop
invariant-loop l = (length l.states.items ≡ l.counter) × AreNew l.states.items
