use Rattle.std.proofs.Common.{ap, ◌∙◌, rules}
use Rattle.std.proofs.lemmas.Fn.{filter_same}
use Rattle.tl_cover.specs.code.Past.{has}
use Rattle.tl_cover.proofs.Lists.{has-without}
use Rattle.tl_cover.proofs.blocks.remove.Goals as goal

pub returns : goal.returns
returns c = λ k. ap (has k) (filter_same _ _ _ (λ x b f' h. search rules) _ _ c.retain.ensures.filtered)
    ∙ has-without k c.args.block _
