use Rattle.std.proofs.Common.{refl, arith}
use Rattle.tl_manager.{proofs.blocks.Blocks.blocks-outside, proofs.calls.Writing.knows-written}
use Rattle.tl_manager.proofs.manager.state.ManagerState.write_block.Goals as goal

pub returns-then-block-count-clause-knows : goal.returns-then-block-count-clause-knows
returns-then-block-count-clause-knows g c = λ config e k. knows-written g.D.Directory.perm_of c.args.self.now _
    config _ e refl refl refl refl c.write.ensures.count (c.write.ensures.bytes e.memory k.block_state.bytes) k

pub returns-else-block-count-clause-knows : goal.returns-else-block-count-clause-knows
returns-else-block-count-clause-knows g c = λ config e k. knows-written g.D.Directory.perm_of c.args.self.now _
    config _ e refl refl refl refl refl (blocks-outside c.args.self.now.block_state.blocks.bytes.items c.args.block
    c.args.bytes.now e.memory (omega arith) k.block_state.bytes) k
