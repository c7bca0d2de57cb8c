use Rattle.std.proofs.Common.{rules}
use Rattle.std.proofs.lemmas.Fmt.{parse-decimal}
use Rattle.tl_command.proofs.NumberWords.{spelled_once, unread}
use Rattle.tl_command.proofs.number.decimal.Goals as goal

pub returns-in_default : goal.returns-in_default
returns-in_default c = unread c.args.word.now c.parse.result c.in_default.field-0
    (λ n lt e. parse-decimal 64 n c.args.word.now c.parse.result lt lt e c.parse.ensures.value.0) (search rules)

pub returns-else-eq : goal.returns-else-eq
returns-else-eq c = spelled_once c.args.word.now c.in-Ok.number c.parse.result
    (λ n lt e. parse-decimal 64 n c.args.word.now c.parse.result lt lt e c.parse.ensures.value.0) (search rules)
    (search rules)
