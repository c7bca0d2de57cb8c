use Rattle.std.proofs.Common.{rules, arith}
use Rattle.tl_command.proofs.NumberWords.{not_within}
use Rattle.tl_command.proofs.number.number.Goals as goal

pub returns-else-is_within : goal.returns-else-is_within
returns-else-is_within c =
    not_within _ c.args.default c.args.least c.args.most c.in_ok-number.number (omega arith) (omega arith)
    (search rules) (search rules)
