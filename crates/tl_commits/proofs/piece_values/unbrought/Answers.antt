use Rattle.std.proofs.Common.{refl, ◌∙◌}
use Rattle.tl_commits.proofs.TellingLists.{none-before, none-in}
use Rattle.tl_commits.proofs.piece_values.unbrought.Goals as goal

pub loop-place-init : goal.loop-place-init
loop-place-init g c = (refl, λ t messages p lt. none-in p lt ∙ none-before p _)
