use Rattle.std.proofs.Common.{refl}
use Rattle.tl_rules.specs.statement.History.{held}
use Rattle.tl_engine.proofs.charting.ChartLines.new.Goals as goal

pub returns-clause-knows : goal.returns-clause-knows
returns-clause-knows c = (refl, refl, c.in_ok-new.ensures.gathers 4 held)
