use Rattle.std.proofs.Common.{arith}
use Rattle.tl_bytes.proofs.carried.CarriedBytes.add.Goals as goal

pub returns : goal.returns
returns g c = λ burst k short. record {
  bytes_are = c.bring.ensures.bytes burst k;
  beats_are = omega (arith, c.saturating_add-self.ensures, c.bring.ensures.beats, k.beats_are, short);
}
