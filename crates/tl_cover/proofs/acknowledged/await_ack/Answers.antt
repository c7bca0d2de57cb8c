use Rattle.std.proofs.Common.{ap, ◌∙◌, rules}
use Rattle.std.proofs.lemmas.Fn.{filter_same}
use Rattle.std.specs.Prelude.{List, ◌++◌, ◌∷◌, []}
use Rattle.tl_cover.specs.code.Past.{awaits}
use Rattle.tl_cover.specs.declared.acknowledged.Awaited.{Awaited}
use Rattle.tl_cover.proofs.Lists.{awaits-with}
use Rattle.tl_cover.proofs.acknowledged.await_ack.Goals as goal

pub returns : goal.returns
returns c = λ k s.
    ap (awaits k s) (c.in_ok-push.ensures.items
    ∙ ap (λ (xs : List Awaited). xs ++ record { block = c.args.block; sink = c.args.sink } ∷ [])
    (filter_same _ _ _ (λ x b f' h. search rules) _ _ c.retain.ensures.filtered))
    ∙ awaits-with k s c.args.block c.args.sink _
