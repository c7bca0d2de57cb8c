use Rattle.std.proofs.Common.{◌∙◌}
use Rattle.tl_params.specs.statement.Liberties.{liberties_of}
use Rattle.tl_rules.proofs.Profiles.{on_link-of}
use Rattle.tl_monitor.proofs.Knowing.{to-liberties}
use Rattle.tl_monitor.proofs.monitor.Monitor.broken.Goals as goal

pub returns : goal.returns
returns g c = λ levels p t closed k.
    c.broken_under.ensures levels (liberties_of p) t closed (to-liberties c.args.self.now levels p t closed k)
    ∙ on_link-of p levels (c.args.link, c.args.beat.now) t
