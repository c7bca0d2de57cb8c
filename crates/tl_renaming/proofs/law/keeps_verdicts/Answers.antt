use Rattle.tl_renaming.{proofs.Legal.legal-kept, proofs.Ordered.order-kept}
use Rattle.tl_renaming.proofs.Traces.{after-kept, first-fault-kept}
use Rattle.tl_renaming.proofs.law.keeps_verdicts.Goals as goal

pub returns-clause-legality : goal.returns-clause-legality
returns-clause-legality g c = λ l r level channel x faithful. legal-kept l r faithful c.requires level channel x

pub returns-clause-order : goal.returns-clause-order
returns-clause-order g c = λ l r x t faithful. order-kept l r faithful x t

pub returns-clause-histories : goal.returns-clause-histories
returns-clause-histories g c = λ l r level x t faithful. after-kept l r faithful c.requires level x t

pub returns-clause-traces : goal.returns-clause-traces
returns-clause-traces g c = λ l r levels trace faithful. first-fault-kept r l faithful c.requires levels trace
