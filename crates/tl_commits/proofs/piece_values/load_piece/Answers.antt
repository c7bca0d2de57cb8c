use Rattle.std.proofs.Common.{length}
use Rattle.tl_commits.specs.statement.Copies.{link_beats}
use Rattle.tl_commits.specs.statement.Events.{beats_of}
use Rattle.tl_commits.proofs.PieceValues.{table-loaded}
use Rattle.tl_commits.proofs.piece_values.load_piece.Goals as goal

pub returns-clause-loaded : goal.returns-clause-loaded
returns-clause-loaded g c = λ levels l complete e j lt is on k.
    let n = length levels in
    let messages = (c.in-Some.ensures levels l (beats_of e) j lt).0 in
    table-loaded complete n c.args.link c.args.piece c.args.value e c.meet.new.self c.load.new.self
    c.unbrought-places.result c.piece_write-write.result c.moment.result is on
    (c.meet.ensures.knows g.row.W complete n e k) (c.piece_write-write.ensures is)
    (λ p small. rw (← c.block_at-block.ensures) (c.unbrought-places.ensures (link_beats c.args.link.0 e) messages p small))
    (c.moment.ensures levels l (beats_of e) j)
    (rw c.block_at-block.ensures at (c.in_ok-load.ensures.loaded c.in_ok-meet.ensures.met))
