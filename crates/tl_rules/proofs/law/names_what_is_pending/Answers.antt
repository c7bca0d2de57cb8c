use Rattle.tl_rules.proofs.Named.{request-there, release-there, probe-there}
use Rattle.tl_rules.proofs.law.names_what_is_pending.Goals as goal

pub returns-clause-request : goal.returns-clause-request
returns-clause-request g c = λ source t is. request-there source t is

pub returns-clause-release : goal.returns-clause-release
returns-clause-release g c = λ source t is. release-there source t is

pub returns-clause-probe : goal.returns-clause-probe
returns-clause-probe g c = λ block t is. probe-there block t is
