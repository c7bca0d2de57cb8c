use Rattle.std.proofs.Common.{refl}
use Rattle.tl_params.proofs.Refusals.{none_broken}
use Rattle.tl_manager.proofs.calls.Making.{knows-fresh}
use Rattle.tl_manager.proofs.manager.state.ManagerState.new.Goals as goal

pub returns-clause-new : goal.returns-clause-new
returns-clause-new g c =
    knows-fresh g.D.Directory.perm_of _ c.args.config.now (none_broken _ c.in_ok-check.ensures)
    (rw c.as_slice.ensures.value at c.in_ok-link_states.ensures) refl c.new-2.ensures.count c.new-2.ensures.free
    c.requires.fresh c.in_ok-blocks.ensures.count
    c.in_ok-blocks.ensures.zero
