use Rattle.tl_ports.specs.statement.Manager.{alone}
use Rattle.tl_ports.proofs.manager.ManagerPort.closed.Goals as goal

pub returns-clause-alone : goal.returns-clause-alone
returns-clause-alone g c = λ config e k. c.closed.ensures config (alone config e) k.1
