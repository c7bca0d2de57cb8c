use Rattle.std.proofs.Common.{sym, ◌∙◌}
use Rattle.tl_engine.proofs.ChartedBeats.{other_change, same_change}
use Rattle.tl_rules.specs.statement.Liberties.{held_under}
use Rattle.tl_engine.proofs.charting.changed_from.Goals as goal

pub returns-then-is_same : goal.returns-then-is_same
returns-then-is_same g c = λ levels may beat t known within was.
    same_change (held_under may) c.args.link beat t c.args.block c.args.before c.held_on-held.result was
    (c.held_on-held.ensures levels may _ known within) (sym c.is_same.ensures ∙ c.if-is_same.true)

pub returns : goal.returns
returns g c = λ levels may beat t known within was.
    other_change (held_under may) c.args.link beat t c.args.block c.args.before c.held_on-held.result was
    (c.held_on-held.ensures levels may _ known within) (sym c.is_same.ensures ∙ c.if-is_same.false)
