use Rattle.std.proofs.Common.{rules}
use Rattle.tl_bytes.proofs.KnownAt.{known-none}
use Rattle.tl_bytes.proofs.known_bytes.KnownBytes.is_none.Goals as goal

pub returns : goal.returns
returns c = λ e p. known-none c.args.self.now p (search (rules, e))
