use Rattle.tl_manager.proofs.messages.Messages.{same-d}
use Rattle.tl_manager.proofs.manager.reply.answer_with.Goals as goal

pub returns : goal.returns
returns g c = same-d _ _ _ _ _ _ _ _ _ _
