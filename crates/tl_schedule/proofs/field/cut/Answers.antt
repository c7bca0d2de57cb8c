use Rattle.std.proofs.Common.{rules}
use Rattle.tl_schedule.proofs.Fields.{one_piece, piece_before}
use Rattle.tl_schedule.proofs.field.cut.Goals as goal

pub returns-in-None : goal.returns-in-None
returns-in-None c = one_piece c.args.bytes.now (search rules)

pub returns-in-Some : goal.returns-in-Some
returns-in-Some c = piece_before c.args.bytes.now _ _ c.in-Some.i (search rules) (search rules) (search rules)
