use Rattle.std.proofs.Common.{arith}
use Rattle.tl_explain.proofs.Halves.{short_of}
use Rattle.tl_explain.proofs.text.put_front.Goals as goal

pub returns-clause-text : goal.returns-clause-text
returns-clause-text c =
    short_of 0 8 5 c.args.room.now c.put.new.room c.args.line.now (omega arith) (omega arith)
    (rw (c.bytes_at.ensures, c.put.ensures.end) at c.put.ensures.text)
