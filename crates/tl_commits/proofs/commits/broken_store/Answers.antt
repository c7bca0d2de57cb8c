use Rattle.std.proofs.Common.{refl, ◌∙◌}
use Rattle.tl_commits.proofs.commits.broken_store.Goals as goal

pub returns : goal.returns
returns g c = λ levels lib e k lt. c.unless.ensures ∙ rw (c.may_store.ensures levels lib e k lt, c.block_at.ensures)
    refl
