use Rattle.tl_burst.proofs.assembler.Assembler.take.Goals as goal

pub returns-then-completes-clause-splits : goal.returns-then-completes-clause-splits
returns-then-completes-clause-splits g c = λ beats messages s. rw c.if-completes.true at
    (c.in_ok-completes.ensures.splits beats messages s)

pub returns-else-completes-clause-splits : goal.returns-else-completes-clause-splits
returns-else-completes-clause-splits g c = λ beats messages s. rw c.if-completes.false at
    (c.in_ok-completes.ensures.splits beats messages s)
