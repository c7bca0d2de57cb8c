use Rattle.std.proofs.Common.{◌∙◌}
use Rattle.tl_manager.{proofs.pending.Looking.acquiring-looked, proofs.pending.Past.looked-kept}
use Rattle.tl_manager.proofs.manager.state.ManagerState.is_acquiring.Goals as goal

pub returns : goal.returns
returns g c = λ config e k.
    c.awaits_grant.ensures
    ∙ acquiring-looked c.args.self.now.block_state.trackers c.args.block c.args.link.0 c.of_block.result e.trace
    (looked-kept g.D.Directory.perm_of config c.args.self.now.block_state e k.kept k.block_state) c.of_block.ensures
