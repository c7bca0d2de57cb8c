use Rattle.std.proofs.Common.{rules}
use Rattle.tl_chart.proofs.Noting.{retained}
use Rattle.tl_chart.proofs.drawing.keep_open.Goals as goal

pub returns : goal.returns
returns g c = retained _ _ _ _ (λ x b f' y k. search rules) _ _ c.retain_mut.ensures.filtered
