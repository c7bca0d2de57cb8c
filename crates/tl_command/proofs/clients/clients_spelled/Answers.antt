use Rattle.std.proofs.Common.{rules}
use Rattle.tl_command.proofs.ClientWords.{clients_read}
use Rattle.tl_command.proofs.clients.clients_spelled.Goals as goal

pub returns : goal.returns
returns c = clients_read c.clients.result c.args.word.now (search rules)
