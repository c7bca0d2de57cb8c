use Rattle.std.{proofs.Common.refl}
use Rattle.tl_bytes.specs.statement.Bytes.{carried_byte}
use Rattle.tl_bytes.proofs.carried.CarriedBytes.new.Goals as goal

pub returns : goal.returns
unfolding carried_byte
returns c = λ w. record { bytes_are = λ p lt. c.none.ensures p; beats_are = refl }
