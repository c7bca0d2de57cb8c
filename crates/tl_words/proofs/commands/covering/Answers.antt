use Rattle.tl_words.specs.Tool.{charting_of, cover_of}
use Rattle.tl_words.proofs.commands.covering.Goals as goal

pub returns : goal.returns
returns c = c.with_subcommand.ensures charting_of cover_of c.in_ok-tool.ensures c.cover.ensures.app
