use Rattle.std.proofs.Common.{refl, ◌∙◌}
use Rattle.tl_commits.proofs.giving_up.leaves_trunk.Goals as goal

pub returns : goal.returns
returns g c = λ levels lib e k lt. c.both.ensures
    ∙ rw (c.holds_trunk-held.ensures levels lib e k lt, c.is_trunk.ensures, c.reported.ensures, c.block_at.ensures) refl
