use Rattle.tl_random.specs.code.Begun.{IsBegun}
use Rattle.tl_random.proofs.schedule.write_lines.Given as goal

abbrev pub invariant-loop : goal.invariant-loop
invariant-loop g l =
    IsBegun g.row.BYTES l.options l.counter l.out.items (g.W.Write.contents l.fn.writer) (g.W.Write.contents l.writer)
