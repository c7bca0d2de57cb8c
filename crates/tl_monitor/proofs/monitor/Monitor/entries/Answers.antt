use Rattle.std.proofs.Common.{arith, ◌∙◌}
use Rattle.tl_params.specs.statement.Liberties.{liberties_of}
use Rattle.tl_monitor.proofs.AtProfile.{entries-of}
use Rattle.tl_monitor.proofs.Knowing.{count-is, link_state-of, to-liberties}
use Rattle.tl_monitor.proofs.Numbered.{no-entries, link-entries}
use Rattle.tl_monitor.proofs.monitor.Monitor.entries.Goals as goal

pub returns-then-n-len-clause-under : goal.returns-then-n-len-clause-under
returns-then-n-len-clause-under g c =
    λ levels lib t closed k. no-entries lib levels c.args.link t c.from-n.result c.len.result c.from-n.ensures (let e =
    count-is c.args.self.now levels lib t closed k in omega (arith, c.len.ensures, e)) c.if-n-len.true

pub returns-then-n-len-clause-known : goal.returns-then-n-len-clause-known
returns-then-n-len-clause-known g c = λ levels p t closed k.
    returns-then-n-len-clause-under g c levels (liberties_of p) t closed (to-liberties c.args.self.now levels p t closed k)
    ∙ entries-of levels p c.args.link t

pub returns-clause-under : goal.returns-clause-under
returns-clause-under g c = λ levels lib t closed k.
    c.entries.ensures
    ∙ link-entries lib levels c.args.link t c.index.result.now.state c.from-n.result c.len.result c.from-n.ensures (let e =
    count-is c.args.self.now levels lib t closed k in omega (arith, c.len.ensures, e)) (omega arith)
    (link_state-of c.args.self.now levels lib t closed c.from-n.result c.index.result.now k (omega (arith, c.len.ensures))
    c.index.ensures)

pub returns-clause-known : goal.returns-clause-known
returns-clause-known g c = λ levels p t closed k.
    returns-clause-under g c levels (liberties_of p) t closed (to-liberties c.args.self.now levels p t closed k)
    ∙ entries-of levels p c.args.link t
