use Rattle.tl_command.proofs.LibertyWords.{front_read, front_spelled}
use Rattle.tl_command.proofs.liberties.front_liberties.Goals as goal

pub returns-clause-spelled : goal.returns-clause-spelled
returns-clause-spelled c = front_spelled c.read_liberties.result _ c.read_liberties.ensures

pub returns-clause-every_spelling : goal.returns-clause-every_spelling
returns-clause-every_spelling c = front_read c.read_liberties.result _ c.read_liberties.ensures
