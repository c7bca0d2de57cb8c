use Rattle.std.proofs.Common.{refl, ◌*◌}
use Rattle.tl_bytes.specs.statement.Bytes.{carried_mask}
use Rattle.tl_memory.proofs.messages.Masks.{positive}
use Rattle.tl_memory.proofs.message.CarriedMessage.new.Goals as goal

pub returns : goal.returns
unfolding carried_mask
returns c = λ w. record {
  bytes_are = c.new.ensures w;
  mask_is = refl;
  mask_below = positive (w * 0);
  spoiled_is = refl;
}
