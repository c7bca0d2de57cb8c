use Rattle.std.proofs.Common.{◌∙◌}
use Rattle.tl_params.specs.statement.Liberties.{liberties_of}
use Rattle.tl_monitor.proofs.AtProfile.{held-on-link}
use Rattle.tl_monitor.proofs.Knowing.{to-liberties}
use Rattle.tl_monitor.proofs.monitor.Monitor.held.Goals as goal

pub returns : goal.returns
returns g c = λ levels p t closed k.
    c.held_under.ensures levels (liberties_of p) t closed (to-liberties c.args.self.now levels p t closed k)
    ∙ held-on-link levels p c.args.link c.args.block t
