use Rattle.std.proofs.Common.{◌∙◌}
use Rattle.tl_manager.proofs.pending.Past.{granted-whole, looked-past}
use Rattle.tl_manager.proofs.pending.Looking.{sink-looked}
use Rattle.tl_manager.proofs.manager.link_state.LinkPastPast.has_grant.Goals as goal

pub returns : goal.returns
returns g c = λ t p. c.awaits_grant_ack.ensures ∙ rw c.at.ensures
    (sink-looked c.args.self.now.block_state.now.trackers c.args.sink c.args.self.now.link.0 p.end.trace
    (looked-past g.D.Directory.perm_of c.args.self.now.link c.args.self.now.link_state.now
    c.args.self.now.block_state.now t p)
    ∙ granted-whole g.D.Directory.perm_of c.args.self.now.link c.args.self.now.link_state.now
    c.args.self.now.block_state.now t c.args.sink p)
