use Rattle.std.proofs.Common.{refl, ◌∙◌}
use Rattle.tl_commits.proofs.giving_up.loses_stores.Goals as goal

pub returns : goal.returns
returns g c = λ levels lib e k lt. c.both.ensures
    ∙ rw (c.answers_nothing.ensures levels lib e k lt, c.leaves_trunk.ensures levels lib e k lt) refl
