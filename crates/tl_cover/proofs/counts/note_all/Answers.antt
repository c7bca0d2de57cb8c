use Rattle.tl_cover.proofs.Rows.{rows_left}
use Rattle.tl_cover.proofs.counts.note_all.Goals as goal

pub returns-in-None : goal.returns-in-None
returns-in-None g c = λ fits. rows_left c.args.line c.args.beat.now c.args.opening c.args.rows.now.items c.in-None.is
