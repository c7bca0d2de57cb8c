use Rattle.std.proofs.Common.{refl}
use Rattle.tl_bytes.proofs.KnownAt.{known-all}
use Rattle.tl_bytes.proofs.known_bytes.KnownBytes.all.Goals as goal

pub returns : goal.returns
returns c = λ p lt. known-all _ p refl lt
