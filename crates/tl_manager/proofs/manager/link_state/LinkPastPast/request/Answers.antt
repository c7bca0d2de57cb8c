use Rattle.std.proofs.Common.{sym, ◌∙◌, ap}
use Rattle.tl_rules.specs.code.Open.{open_request}
use Rattle.tl_manager.proofs.pending.LookedSources.{request-unasked, request-asked}
use Rattle.tl_manager.proofs.pending.Past.{looked-past}
use Rattle.tl_manager.proofs.manager.link_state.LinkPastPast.request.Goals as goal

pub returns-in-None : goal.returns-in-None
returns-in-None g c = λ t p.
    request-unasked c.args.self.now.block_state.now.trackers c.args.self.now.link.0 c.args.source p.end.trace
    (looked-past g.D.Directory.perm_of c.args.self.now.link c.args.self.now.link_state.now
    c.args.self.now.block_state.now t p) c.in-None.ensures
    ∙ ap (open_request c.args.source) (sym p.past)

pub returns-in-Some : goal.returns-in-Some
returns-in-Some g c = λ t p. rw c.block_at.ensures (
    request-asked c.args.self.now.block_state.now.trackers c.args.self.now.link.0 c.args.source c.in-Some.request
    p.end.trace
    (looked-past g.D.Directory.perm_of c.args.self.now.link c.args.self.now.link_state.now
    c.args.self.now.block_state.now t p) c.in-Some.ensures
    ∙ ap (open_request c.args.source) (sym p.past))
