use Rattle.std.proofs.Common.{◌≡◌, Err, rules, arith}
use Rattle.tl_command.specs.declared.random_words.RandomOption.TheVariants as option
use Rattle.tl_command.specs.statement.RandomWords.{words_of}
use Rattle.tl_command.proofs.RandomOptions.{contend_wrong}
use Rattle.tl_command.proofs.random_words.options_named.Goals as goal

pub returns-in_err-contend-clause-wrong : goal.returns-in_err-contend-clause-wrong
returns-in_err-contend-clause-wrong c =
    let wrong : c.from_residual-in_err-contend.result ≡ Err option.Contend = search rules in
    rw wrong (contend_wrong (words_of c.args.words.now) c.in_ok-blocks.blocks (omega arith) (search rules)
    (search rules))
