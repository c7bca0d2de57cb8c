use Rattle.std.proofs.Common.{ap, ◌∙◌}
use Rattle.std.proofs.lemmas.List.{get_or-replicate}
use Rattle.tl_memory.specs.code.ByteSet.{has, nothing}
use Rattle.tl_commits.proofs.granting.all_sets.Goals as goal

pub returns : goal.returns
returns c = λ place v lt small.
    ap (λ s. has s v) (get_or-replicate 64 place c.all.result nothing lt) ∙ c.all.ensures v small
