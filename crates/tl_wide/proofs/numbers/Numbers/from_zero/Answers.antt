use Rattle.std.proofs.Common.{refl}
use Rattle.tl_wide.proofs.Naming.{zero-known}
use Rattle.tl_wide.proofs.numbers.Numbers.from_zero.Goals as goal

pub returns : goal.returns
returns c = zero-known _ c.new.ensures refl refl c.new-2.ensures.items
