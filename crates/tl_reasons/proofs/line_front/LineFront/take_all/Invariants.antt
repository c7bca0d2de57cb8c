use Rattle.std.proofs.Common.{take}
use Rattle.tl_reasons.specs.code.Reaching.{TakesBytes}
use Rattle.tl_reasons.proofs.line_front.LineFront.take_all.Given as goal

abbrev pub invariant-loop-byte : goal.invariant-loop-byte
invariant-loop-byte l = TakesBytes l.fn.self l.self (take l.byte-index l.bytes)
