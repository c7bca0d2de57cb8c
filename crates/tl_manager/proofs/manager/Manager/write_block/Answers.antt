use Rattle.tl_manager.proofs.calls.Writing.{manager-written}
use Rattle.tl_manager.proofs.manager.Manager.write_block.Goals as goal

pub invariant_of-self : goal.invariant_of-self
invariant_of-self g c =
    manager-written g.D.Directory.perm_of g.D.Directory.blocks g.D.Directory.clients c.self.inside.state
    c.write_block.new.self _ c.self.invariant c.write_block.ensures.directory c.write_block.ensures.size
    c.write_block.ensures.link_states
    (c.write_block.ensures.knows c.self.invariant.config c.self.invariant.end c.self.invariant.knows)
