use Rattle.tl_chart.proofs.Granted.{first_ack, first_answer}
use Rattle.tl_chart.proofs.blocks.first_block.Goals as goal

pub returns-in-D : goal.returns-in-D
returns-in-D g c = rw c.in-D.is (first_answer g.row.W c.in-D.field-0)

pub returns-in-E : goal.returns-in-E
returns-in-E g c = rw c.in-E.is (first_ack g.row.W c.in-E.field-0)
