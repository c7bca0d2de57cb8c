use Rattle.tl_words.specs.Tool.{explaining_of, chart_of}
use Rattle.tl_words.proofs.commands.charting.Goals as goal

pub returns : goal.returns
returns c = c.with_subcommand.ensures explaining_of chart_of c.in_ok-tool.ensures c.chart.ensures.app
