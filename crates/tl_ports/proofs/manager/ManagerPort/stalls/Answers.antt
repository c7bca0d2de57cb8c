use Rattle.std.proofs.Common.{ap, ◌∙◌}
use Rattle.tl_partner.specs.declared.terms.Terms.{Terms}
use Rattle.tl_partner.specs.statement.Partner.{stalls_under}
use Rattle.tl_ports.proofs.Alone.{stalls_alone}
use Rattle.tl_ports.specs.statement.Manager.{alone}
use Rattle.tl_ports.proofs.manager.ManagerPort.stalls.Goals as goal

pub returns-clause-alone : goal.returns-clause-alone
returns-clause-alone g c = λ config e k.
    c.stalls.ensures config (alone config e) k.1
    ∙ stalls_alone c.args.self.now.partner.lenient.terms config c.args.link c.args.channel c.args.beat.now e k.0

pub returns-clause-under : goal.returns-clause-under
returns-clause-under g c = λ terms config e k.
    c.stalls.ensures config e k.1
    ∙ ap (λ (t : Terms). stalls_under t config c.args.link c.args.channel c.args.beat.now e) k.0
