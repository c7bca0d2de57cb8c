use Rattle.tl_manager.proofs.manager.blocks.Blocks.write_if.Goals as goal

pub returns-then-carries-clause-bytes : goal.returns-then-carries-clause-bytes
returns-then-carries-clause-bytes c = λ memory are. rw c.if-carries.true (c.write.ensures.bytes memory are)
