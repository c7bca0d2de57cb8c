use Rattle.tl_words.specs.Tool.{playing_of, random_of}
use Rattle.tl_words.proofs.commands.tool.Goals as goal

pub returns : goal.returns
returns c = c.with_subcommand.ensures playing_of random_of c.in_ok-tool.ensures c.random.ensures.app
