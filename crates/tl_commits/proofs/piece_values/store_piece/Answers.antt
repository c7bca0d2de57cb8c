use Rattle.std.proofs.Common.{length}
use Rattle.tl_commits.specs.statement.Events.{beats_of}
use Rattle.tl_commits.proofs.PieceValues.{table-stored}
use Rattle.tl_commits.proofs.piece_values.store_piece.Goals as goal

pub returns-clause-stored : goal.returns-clause-stored
returns-clause-stored g c = λ levels l complete link e j is k.
    let n = length levels in
    table-stored complete n link c.args.piece c.args.value e c.meet.new.self c.store.new.self c.piece_write-write.result
    c.moment.result is (c.meet.ensures.knows g.row.W complete n e k) (c.piece_write-write.ensures is)
    (c.moment.ensures levels l (beats_of e) j)
    (rw c.block_at-block.ensures at (c.in_ok-store.ensures.stored c.in_ok-meet.ensures.met))
