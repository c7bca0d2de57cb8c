use Rattle.tl_manager.proofs.messages.Messages.{probe-made}
use Rattle.tl_manager.proofs.manager.reply.probe.Goals as goal

pub returns : goal.returns
returns g c = probe-made c.args.block c.args.cap c.param.result _ c.requires.width c.param.ensures.value
