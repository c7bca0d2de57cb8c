use Rattle.std.proofs.Common.{sym, ◌∙◌}
use Rattle.tl_manager.proofs.pending.Past.{source-past, acquire-past, grant-past, probe-past, sink-past}
use Rattle.tl_manager.proofs.manager.link_state.LinkPastPast.is_pending.Goals as goal

pub returns-else-comes_in_request : goal.returns-else-comes_in_request
returns-else-comes_in_request g c = λ t p.
    let all = source-past g.D.Directory.perm_of c.args.self.now.link c.args.self.now.link_state.now
    c.args.self.now.block_state.now t c.in-RequestSource.source c.asked.result p c.asked.ensures in
    rw c.in-RequestSource.is
    (c.is_some.ensures ∙ (rw (sym c.comes_in_request.ensures ∙ c.if-comes_in_request.false) at all))

pub returns-in-AcquireOf : goal.returns-in-AcquireOf
returns-in-AcquireOf g c =
    λ t p. rw c.in-AcquireOf.is (c.awaits_grant.ensures
    ∙ acquire-past g.D.Directory.perm_of c.args.self.now.link c.args.self.now.link_state.now
    c.args.self.now.block_state.now t c.in-AcquireOf.block c.of_block.result p
    c.of_block.ensures)

pub returns-in-GrantSink : goal.returns-in-GrantSink
returns-in-GrantSink g c =
    λ t p. rw c.in-GrantSink.is (c.awaits_grant_ack.ensures
    ∙ rw c.at.ensures (sink-past g.D.Directory.perm_of c.args.self.now.link c.args.self.now.link_state.now
    c.args.self.now.block_state.now t c.in-GrantSink.sink p))

pub returns-in-GrantAckOf : goal.returns-in-GrantAckOf
returns-in-GrantAckOf g c =
    λ t p. rw c.in-GrantAckOf.is (c.awaits_grant_ack-in-GrantAckOf.ensures
    ∙ grant-past g.D.Directory.perm_of c.args.self.now.link c.args.self.now.link_state.now
    c.args.self.now.block_state.now t c.in-GrantAckOf.block
    c.of_block-in-GrantAckOf.result p c.of_block-in-GrantAckOf.ensures)

pub returns-in-ProbeOf : goal.returns-in-ProbeOf
returns-in-ProbeOf g c =
    λ t p. rw c.in-ProbeOf.is (c.awaits_probe_ack.ensures ∙ probe-past g.D.Directory.perm_of c.args.self.now.link
    c.args.self.now.link_state.now c.args.self.now.block_state.now t
    c.in-ProbeOf.block c.of_block-in-ProbeOf.result p c.of_block-in-ProbeOf.ensures)
