use Rattle.tl_rules.proofs.Typed.{typed-beat, payload-long}
use Rattle.tl_rules.proofs.law.keeps_types.Goals as goal

pub returns-clause-beats : goal.returns-clause-beats
returns-clause-beats g c = λ m i long lt. typed-beat m i c.requires long lt

pub returns-clause-payload : goal.returns-clause-payload
returns-clause-payload g c = λ beats typed room. payload-long beats typed room
