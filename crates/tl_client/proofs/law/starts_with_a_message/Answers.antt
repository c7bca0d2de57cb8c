use Rattle.tl_client.proofs.messages.Calls.{started-asked}
use Rattle.tl_client.proofs.law.starts_with_a_message.Goals as goal

pub returns : goal.returns
returns g c = λ terms op e. started-asked terms op e
