use Rattle.tl_monitor.proofs.change.change_block.Goals as goal

pub returns-in-A : goal.returns-in-A
returns-in-A g c = rw c.in-A.is (c.change_a.ensures c.args.came)

pub returns-in-B : goal.returns-in-B
returns-in-B g c = rw c.in-B.is (c.change_b.ensures c.args.came)

pub returns-in-C : goal.returns-in-C
returns-in-C g c = rw c.in-C.is (c.change_c.ensures c.args.came)
