use Rattle.tl_rules.proofs.Payload.{payload-c}
use Rattle.tl_manager.proofs.messages.Assembled.{request-again}
use Rattle.tl_manager.proofs.law.assembles_messages.Goals as goal

pub returns-clause-request : goal.returns-clause-request
returns-clause-request g c = λ m beats long burst. request-again m beats c.requires long burst

pub returns-clause-data : goal.returns-clause-data
returns-clause-data g c = λ m beats long burst. payload-c m beats c.requires long burst
