use Rattle.std.proofs.Common.{arith, refl, ◌∙◌}
use Rattle.tl_rules.specs.statement.Conformance.{on_link}
use Rattle.tl_monitor.proofs.Knowing.{state-on, with-level, without-level}
use Rattle.tl_monitor.proofs.Reports.{report-is}
use Rattle.tl_monitor.proofs.monitor.Monitor.report.Goals as goal

pub returns-then-n-len : goal.returns-then-n-len
returns-then-n-len g c = λ levels lib t closed k.
    rw (without-level c.args.self.now levels lib t closed c.args.link c.from-n.result c.len.result k c.from-n.ensures
    (omega (arith, c.len.ensures)) c.if-n-len.true) refl

pub returns : goal.returns
returns g c = λ levels lib t closed k.
    rw (with-level c.args.self.now levels lib t closed c.args.link c.from-n.result k c.from-n.ensures
    (omega (arith, c.len.ensures)))
    (c.report.ensures ∙ report-is lib _ (on_link c.args.link.0 t)
    (state-on c.args.self.now levels lib t closed c.args.link c.from-n.result c.index.result.now k c.from-n.ensures
    (omega (arith, c.len.ensures)) c.index.ensures))
