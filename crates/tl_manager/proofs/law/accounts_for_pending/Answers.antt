use Rattle.tl_manager.proofs.pending.Sources.{source-pending, sink-pending}
use Rattle.tl_manager.proofs.law.accounts_for_pending.Goals as goal

pub returns-clause-source : goal.returns-clause-source
returns-clause-source g c = λ config e client source ok. source-pending client source e.trace ok.steady.accounted

pub returns-clause-acquire : goal.returns-clause-acquire
returns-clause-acquire g c = λ config e client block ok. (ok.steady.accounted.blocks block).acquires client

pub returns-clause-grant : goal.returns-clause-grant
returns-clause-grant g c = λ config e client block ok. (ok.steady.accounted.blocks block).grants client

pub returns-clause-sink : goal.returns-clause-sink
returns-clause-sink g c = λ config e client sink ok. sink-pending client sink e.trace ok.sinks

pub returns-clause-named : goal.returns-clause-named
returns-clause-named g c = λ config e block ok. (ok.steady.accounted.blocks block).named

pub returns-clause-probe : goal.returns-clause-probe
returns-clause-probe g c = λ config e client block ok missing. (ok.steady.accounted.blocks block).probes client missing

pub returns-clause-awaited : goal.returns-clause-awaited
returns-clause-awaited g c = λ config e block ok. ok.steady.awaited block
