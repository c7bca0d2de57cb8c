use Rattle.tl_rules.proofs.Later.{later-legal, message-legal}
use Rattle.tl_rules.proofs.law.goes_on_lawfully.Goals as goal

pub returns-clause-later : goal.returns-clause-later
returns-clause-later g c = λ profile m i t rest. later-legal profile m i t rest

pub returns-clause-message : goal.returns-clause-message
returns-clause-message g c = λ level profile m i t lawful order none lt. message-legal level profile m i t lawful order
    none lt
