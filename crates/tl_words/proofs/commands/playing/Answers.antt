use Rattle.tl_words.specs.Tool.{covering_of, run_of}
use Rattle.tl_words.proofs.commands.playing.Goals as goal

pub returns : goal.returns
returns c = c.with_subcommand.ensures covering_of run_of c.in_ok-tool.ensures c.run.ensures.app
