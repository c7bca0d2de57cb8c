use Rattle.std.proofs.Common.{refl}
use Rattle.tl_bytes.proofs.Told.{untold-is}
use Rattle.tl_bytes.proofs.block_bytes.BlockBytes.new.Goals as goal

pub returns : goal.returns
returns c = λ w n block. untold-is n block _ c.new.ensures c.new-2.ensures.items refl
