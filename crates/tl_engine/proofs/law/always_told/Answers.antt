use Rattle.tl_engine.proofs.Told.{always-told}
use Rattle.tl_engine.proofs.law.always_told.Goals as goal

pub returns : goal.returns
returns c = always-told
