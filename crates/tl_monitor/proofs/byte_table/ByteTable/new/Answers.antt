use Rattle.tl_monitor.proofs.Counts.{at-none, counted-none}
use Rattle.tl_monitor.proofs.byte_table.ByteTable.new.Goals as goal

pub invariant_of-result : goal.invariant_of-result
invariant_of-result g c = counted-none _

pub returns : goal.returns
returns g c = λ i. at-none 256 i
