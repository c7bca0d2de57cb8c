use Rattle.std.proofs.Common.{refl, ap, ◌∙◌}
use Rattle.tl_together.specs.code.Windows.{asked_in}
use Rattle.tl_together.proofs.judge.Judge.asked.Goals as goal

pub returns : goal.returns
returns g c = λ levels may t k lt open'.
    c.asked_in.ensures ∙ ap (λ n. asked_in c.args.self.now.asked.items n c.args.source) c.from.ensures
    ∙ (k.open_knows refl).asked_are c.args.link.0 c.args.source lt open'
