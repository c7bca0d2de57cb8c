use Rattle.tl_engine.proofs.TraceCoherent.{trace-coherent}
use Rattle.tl_engine.proofs.law.traces_coherent.Goals as goal

pub returns : goal.returns
returns c = trace-coherent
