use Rattle.std.proofs.Common.{arith}
use Rattle.tl_manager.proofs.pending.Past.{held-outside}
use Rattle.tl_manager.proofs.manager.link_state.LinkPastPast.held.Goals as goal

pub returns-else-block-count : goal.returns-else-block-count
returns-else-block-count g c = λ t p. held-outside g.D.Directory.perm_of c.args.self.now.link
    c.args.self.now.link_state.now c.args.self.now.block_state.now t c.args.block p (omega arith)
