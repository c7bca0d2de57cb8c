use Rattle.tl_wide_story.proofs.reread.WideReplayLineHandler.handle_line.Goals as goal

pub returns-then-branch-clause-judges : goal.returns-then-branch-clause-judges
returns-then-branch-clause-judges g c = λ lines before known.
    (rw c.if-branch.true at c.in_ok-take_line.ensures) lines known
