use Rattle.tl_client.proofs.pending.Open.{open-asked, open_release-asked, open-offered, open_release-offered}
use Rattle.tl_client.proofs.law.open_after_calls.Goals as goal

pub returns-clause-asked : goal.returns-clause-asked
returns-clause-asked g c = λ terms op e s kept. open-asked terms op e s c.requires kept

pub returns-clause-asked_release : goal.returns-clause-asked_release
returns-clause-asked_release g c = λ terms op e s kept. open_release-asked terms op e s c.requires kept

pub returns-clause-offered : goal.returns-clause-offered
returns-clause-offered g c = λ terms ch x e s kept. open-offered terms ch x e s c.requires kept

pub returns-clause-offered_release : goal.returns-clause-offered_release
returns-clause-offered_release g c = λ terms ch x e s kept. open_release-offered terms ch x e s c.requires kept
