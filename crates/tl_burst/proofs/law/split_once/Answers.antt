use Rattle.tl_burst.proofs.Splitting.{split_once, split-unfinished}
use Rattle.tl_burst.proofs.law.split_once.Goals as goal

pub returns-clause-once : goal.returns-clause-once
returns-clause-once g c = λ beats ms ks rest other s t. split_once beats ms ks rest other c.requires s t

pub returns-clause-unfinished : goal.returns-clause-unfinished
returns-clause-unfinished g c = λ ch t ms rest s. split-unfinished ch t ms rest s
