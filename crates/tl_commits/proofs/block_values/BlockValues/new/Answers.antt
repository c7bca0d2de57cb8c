use Rattle.std.proofs.Common.{ap, ◌∷◌, [], ◌∙◌}
use Rattle.tl_commits.proofs.TellingLists.{none-in}
use Rattle.tl_commits.proofs.block_values.BlockValues.new.Goals as goal

pub returns : goal.returns
returns c = λ p lt. (
  c.in_ok-told.ensures p lt ∙ ap (λ v. record { value = v; moment = 0 } ∷ []) (c.first_bytes-first.ensures p lt),
  none-in p lt,
  c.in_ok-told-2.ensures p lt ∙ ap (λ v. record { value = v; moment = 0 } ∷ []) (c.first_bytes-first.ensures p lt),
)
