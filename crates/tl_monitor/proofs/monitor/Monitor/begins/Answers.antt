use Rattle.std.proofs.Common.{arith, refl, sym, ◌∙◌}
use Rattle.tl_params.specs.statement.Liberties.{liberties_of}
use Rattle.tl_rules.specs.statement.Conformance.{on_link}
use Rattle.tl_monitor.proofs.Keeping.{begins-is}
use Rattle.tl_monitor.proofs.Knowing.{state-on, to-liberties, with-level, without-level}
use Rattle.tl_monitor.proofs.monitor.Monitor.begins.Goals as goal

pub returns-then-n-len-clause-under : goal.returns-then-n-len-clause-under
returns-then-n-len-clause-under g c = λ levels lib t closed k.
    rw (without-level c.args.self.now levels lib t closed c.args.link c.from-n.result c.len.result k c.from-n.ensures
    (omega (arith, c.len.ensures)) c.if-n-len.true) refl

pub returns-then-n-len-clause-known : goal.returns-then-n-len-clause-known
returns-then-n-len-clause-known g c = λ levels p t closed k.
    returns-then-n-len-clause-under g c levels (liberties_of p) t closed (to-liberties c.args.self.now levels p t closed k)

pub returns-clause-under : goal.returns-clause-under
returns-clause-under g c = λ levels lib t closed k.
    rw (with-level c.args.self.now levels lib t closed c.args.link c.from-n.result k c.from-n.ensures
    (omega (arith, c.len.ensures)))
    (c.begins.ensures ∙ sym (begins-is c.index.result.now.state c.args.beat.now (on_link c.args.link.0 t)
    (state-on c.args.self.now levels lib t closed c.args.link c.from-n.result c.index.result.now k c.from-n.ensures
    (omega (arith, c.len.ensures)) c.index.ensures)))

pub returns-clause-known : goal.returns-clause-known
returns-clause-known g c = λ levels p t closed k.
    returns-clause-under g c levels (liberties_of p) t closed (to-liberties c.args.self.now levels p t closed k)
