use Rattle.std.proofs.Common.{rules, refl}
use Rattle.tl_bytes.proofs.KnownAt.{known-set}
use Rattle.tl_bytes.proofs.known_bytes.KnownBytes.set.Goals as goal

pub returns-then-place-lt64 : goal.returns-then-place-lt64
returns-then-place-lt64 c = λ lt p. known-set c.args.self.now _ c.args.place c.args.byte p lt (search rules) refl refl
