use Rattle.tl_engine.proofs.Told.{told-once}
use Rattle.tl_engine.proofs.law.told_once.Goals as goal

pub returns : goal.returns
returns c = told-once
