use Rattle.std.proofs.Common.{sym, ◌∙◌}
use Rattle.tl_manager.proofs.pending.Past.{unprobed-past, probed-past}
use Rattle.tl_manager.proofs.manager.link_state.LinkPastPast.probe.Goals as goal

pub returns-then-not-awaits_probe_ack : goal.returns-then-not-awaits_probe_ack
returns-then-not-awaits_probe_ack g c =
    λ t p. unprobed-past g.D.Directory.perm_of c.args.self.now.link c.args.self.now.link_state.now
    c.args.self.now.block_state.now t c.args.block c.of_block-tracker.result p
    c.of_block-tracker.ensures (sym c.awaits_probe_ack.ensures ∙ c.if-not-awaits_probe_ack.true)

pub returns : goal.returns
returns g c = λ t p. c.probe_for.ensures ∙ probed-past g.D.Directory.perm_of c.args.self.now.link
    c.args.self.now.link_state.now c.args.self.now.block_state.now t
    c.args.block c.of_block-tracker.result p c.of_block-tracker.ensures
    (sym c.awaits_probe_ack.ensures ∙ c.if-not-awaits_probe_ack.false)
