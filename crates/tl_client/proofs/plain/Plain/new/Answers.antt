use Rattle.std.proofs.Common.{refl}
use Rattle.tl_params.proofs.Refusals.{none_broken}
use Rattle.tl_client.proofs.plain_client.Asks.{knows-fresh}
use Rattle.tl_client.proofs.plain.Plain.new.Goals as goal

pub returns : goal.returns
returns g c = (none_broken _ c.in_ok-check.ensures, knows-fresh _ refl c.new-2.ensures c.new.ensures, refl)
