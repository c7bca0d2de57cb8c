use Rattle.tl_words.specs.Tool.{reading_of, coherent_of}
use Rattle.tl_words.proofs.commands.judging.Goals as goal

pub returns : goal.returns
returns c = c.with_subcommand.ensures reading_of coherent_of c.in_ok-tool.ensures c.coherent.ensures.app
