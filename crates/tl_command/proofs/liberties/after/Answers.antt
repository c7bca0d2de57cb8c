use Rattle.tl_command.proofs.LibertyNames.{after_is}
use Rattle.tl_command.proofs.liberties.after.Goals as goal

pub returns : goal.returns
returns c = after_is c.args.word.now c.args.bytes.now c.behind.result c.behind.ensures
