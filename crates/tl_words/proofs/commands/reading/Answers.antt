use Rattle.std.proofs.Common.{codes, rules}
use Rattle.clap.specs.Words.{App, new_app, with_subcommand}
use Rattle.tl_words.specs.Tool.{decode_of, monitor_of, with_required_subcommand, with_version}
use Rattle.tl_words.proofs.commands.reading.Goals as goal

pub returns : goal.returns
returns c =
    let first : App = with_required_subcommand (with_version (new_app (codes "tltool"))) in
    let second : App = with_subcommand first decode_of.top in
    c.with_subcommand-2.ensures second monitor_of (c.in_ok-tool.ensures first decode_of (search rules) c.decode.ensures.app)
    c.monitor.ensures.app
