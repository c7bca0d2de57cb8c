use Rattle.tl_renaming.proofs.WideBeats.{narrowed-kept, wide-fault-kept}
use Rattle.tl_renaming.proofs.law.keeps_wide_verdicts.Goals as goal

pub returns-clause-narrowed : goal.returns-clause-narrowed
returns-clause-narrowed g c = λ r trace faithful. narrowed-kept r faithful c.requires trace

pub returns-clause-faults : goal.returns-clause-faults
returns-clause-faults g c = λ l r levels trace faithful. wide-fault-kept r faithful c.requires l levels trace
