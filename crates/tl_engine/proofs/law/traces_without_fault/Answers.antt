use Rattle.tl_engine.proofs.TraceClean.{trace-clean}
use Rattle.tl_engine.proofs.law.traces_without_fault.Goals as goal

pub returns : goal.returns
returns c = trace-clean
