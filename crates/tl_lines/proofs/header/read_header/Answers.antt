use Rattle.tl_lines.proofs.Headers.{read_spelled, spelled_read}
use Rattle.tl_lines.proofs.header.read_header.Goals as goal

pub returns-clause-spelled : goal.returns-clause-spelled
returns-clause-spelled c = read_spelled c.whole_header.result _ c.whole_header.ensures

pub returns-clause-every_spelling : goal.returns-clause-every_spelling
returns-clause-every_spelling c = spelled_read c.whole_header.result _ c.whole_header.ensures
