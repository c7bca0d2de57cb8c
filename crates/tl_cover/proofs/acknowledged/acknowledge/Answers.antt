use Rattle.std.proofs.Common.{ap, ◌∙◌, rules}
use Rattle.std.proofs.lemmas.Fn.{filter_same}
use Rattle.tl_cover.specs.code.Past.{awaits}
use Rattle.tl_cover.proofs.Lists.{awaits-without}
use Rattle.tl_cover.proofs.acknowledged.acknowledge.Goals as goal

pub returns : goal.returns
returns c = λ k s. ap (awaits k s) (filter_same _ _ _ (λ x b f' h. search rules) _ _ c.retain.ensures.filtered)
    ∙ awaits-without k s c.args.sink _
