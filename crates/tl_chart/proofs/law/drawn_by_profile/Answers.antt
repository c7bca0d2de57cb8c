use Rattle.tl_chart.specs.statement.Drawn.{drawn}
use Rattle.tl_rules.proofs.Profiles.{held-of}
use Rattle.tl_chart.proofs.law.drawn_by_profile.Goals as goal

pub returns : goal.returns
returns c = λ w p window t i. drawn (λ k h. held-of p k h i) window t
