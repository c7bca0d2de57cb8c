use Rattle.tl_lines.proofs.Headers.{levels_read, levels_spelled}
use Rattle.tl_lines.proofs.header.read_levels.Goals as goal

pub returns-clause-spelled : goal.returns-clause-spelled
returns-clause-spelled c = levels_spelled c.levels.result _ c.levels.ensures

pub returns-clause-every_spelling : goal.returns-clause-every_spelling
returns-clause-every_spelling c = levels_read c.levels.result _ c.levels.ensures
