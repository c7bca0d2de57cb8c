use Rattle.std.proofs.Common.{arith, refl}
use Rattle.tl_params.specs.statement.Liberties.{liberties_of}
use Rattle.tl_monitor.proofs.Granted.{coming-on-link}
use Rattle.tl_monitor.proofs.Knowing.{to-liberties, without-level}
use Rattle.tl_monitor.proofs.monitor.Monitor.coming.Goals as goal

pub returns-then-n-len-clause-under : goal.returns-then-n-len-clause-under
returns-then-n-len-clause-under g c = λ levels lib t closed k.
    rw (without-level c.args.self.now levels lib t closed c.args.link c.from-n.result c.len.result k c.from-n.ensures
    (omega (arith, c.len.ensures)) c.if-n-len.true) refl

pub returns-then-n-len-clause-known : goal.returns-then-n-len-clause-known
returns-then-n-len-clause-known g c = λ levels p t closed k.
    returns-then-n-len-clause-under g c levels (liberties_of p) t closed (to-liberties c.args.self.now levels p t closed k)

pub returns-clause-under : goal.returns-clause-under
returns-clause-under g c = λ levels lib t closed k.
    coming-on-link c.args.self.now levels lib t closed c.from-n.result c.args.link c.index.result.now c.args.block
    c.coming.result k c.from-n.ensures (omega (arith, c.len.ensures)) c.index.ensures c.coming.ensures

pub returns-clause-known : goal.returns-clause-known
returns-clause-known g c = λ levels p t closed k.
    returns-clause-under g c levels (liberties_of p) t closed (to-liberties c.args.self.now levels p t closed k)
