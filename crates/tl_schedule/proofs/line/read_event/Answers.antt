use Rattle.tl_schedule.proofs.WholeLines.{read_said, said_read, read_fault}
use Rattle.tl_schedule.proofs.line.read_event.Goals as goal

pub returns-clause-spelled : goal.returns-clause-spelled
returns-clause-spelled g c = read_said c.whole_line.result c.args.line.now c.whole_line.ensures

pub returns-clause-every_spelling : goal.returns-clause-every_spelling
returns-clause-every_spelling g c = said_read c.whole_line.result c.args.line.now c.requires c.whole_line.ensures

pub returns-clause-fault : goal.returns-clause-fault
returns-clause-fault g c = read_fault c.whole_line.result c.args.line.now c.whole_line.ensures
