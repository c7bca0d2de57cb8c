use Rattle.std.proofs.Common.{refl}
use Rattle.tl_bytes.proofs.KnownAt.{known-none}
use Rattle.tl_bytes.proofs.known_bytes.KnownBytes.none.Goals as goal

pub returns : goal.returns
returns c = λ p. known-none _ p refl
