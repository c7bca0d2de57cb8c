use Rattle.std.proofs.Common.{arith}
use Rattle.std.specs.Int.{w16}
use Rattle.std.proofs.lemmas.Nat.Bits.{bit_at-trailing_zeros}
use Rattle.tl_world.proofs.non_empty.lowest.Goals as goal

pub returns-else-word-eq0-clause-some : goal.returns-else-word-eq0-clause-some
returns-else-word-eq0-clause-some c = bit_at-trailing_zeros w16 c.args.word (omega (arith, c.if-word-eq0.false))
    c.ranges.word.fits
