use Rattle.tl_together.proofs.Showing.{report_leaves}
use Rattle.tl_together.proofs.shown.shown_by.Goals as goal

pub returns-in-C-clause-own : goal.returns-in-C-clause-own
returns-in-C-clause-own g c = λ block t e.
    rw c.in-C.is (report_leaves c.in-C.x t c.block_at.result c.block_at.ensures)
