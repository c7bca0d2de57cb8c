use Rattle.std.proofs.Common.{refl, ◌∙◌}
use Rattle.tl_commits.proofs.GivenUp.{and-turned}
use Rattle.tl_commits.proofs.giving_up.takes_trunk.Goals as goal

pub returns-in-A : goal.returns-in-A
returns-in-A g c = λ levels lib e k lt. rw c.in-A.is (c.block_if.ensures ∙ rw (
  c.both.ensures,
  c.acquires_from_none.ensures,
  c.holds_trunk.ensures levels lib e k lt,
  c.block_at-block.ensures,
) refl)

pub returns-in-C : goal.returns-in-C
returns-in-C g c = λ levels lib e k lt. rw c.in-C.is (c.block_if-in-C.ensures ∙ rw (
  c.both-in-C.ensures,
  c.leaves_trunk.ensures levels lib e k lt,
  c.answers_nothing-wanted.ensures levels lib e k lt,
  c.block_at.ensures,
  and-turned _ _ _,
) refl)
