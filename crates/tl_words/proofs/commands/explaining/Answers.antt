use Rattle.tl_words.specs.Tool.{judging_of, explain_of}
use Rattle.tl_words.proofs.commands.explaining.Goals as goal

pub returns : goal.returns
returns c = c.with_subcommand.ensures judging_of explain_of c.in_ok-tool.ensures c.explain.ensures.app
