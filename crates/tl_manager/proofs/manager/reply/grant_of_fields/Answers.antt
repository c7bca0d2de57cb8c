use Rattle.tl_manager.proofs.messages.Messages.{same-d}
use Rattle.tl_manager.proofs.manager.reply.grant_of_fields.Goals as goal

pub returns : goal.returns
returns g c = rw c.param.ensures.value (same-d _ _ _ _ _ _ _ _ _ _)
