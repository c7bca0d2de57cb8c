use Rattle.tl_client.proofs.messages.Calls.{never_stalls_d}
use Rattle.tl_client.proofs.endpoint.Cases.{takes}
use Rattle.tl_client.proofs.law.takes_what_is_lawful.Goals as goal

pub returns-clause-taken : goal.returns-clause-taken
returns-clause-taken g c = λ terms ch x e before moves later. takes terms ch x e before moves later

pub returns-clause-never_d : goal.returns-clause-never_d
returns-clause-never_d g c = λ terms ch x e. never_stalls_d terms ch x e
