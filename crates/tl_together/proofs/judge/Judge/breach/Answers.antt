use Rattle.std.proofs.Common.{ap, sym, ◌∙◌}
use Rattle.std.specs.Prelude.{Option, Some}
use Rattle.tl_params.specs.declared.rule.Rule.{Rule}
use Rattle.tl_together.specs.statement.Coherence.{first_broken}
use Rattle.tl_together.proofs.judge.Judge.breach.Goals as goal

pub returns-in-Some : goal.returns-in-Some
returns-in-Some g c = λ levels may t k. ap (λ (o : Option Rule). first_broken o (Some c.args.rule))
    (sym c.in-Some.is ∙ c.broken_under.ensures levels may t _ k.monitor_is.knows)

pub returns-in-None : goal.returns-in-None
returns-in-None g c = λ levels may t k. ap (λ (o : Option Rule). first_broken o (Some c.args.rule))
    (sym c.in-None.is ∙ c.broken_under.ensures levels may t _ k.monitor_is.knows)
