use Rattle.tl_manager.proofs.words_of_clients.Clients.{among-where, rising-where, nobody-where, unheld-where}
use Rattle.tl_manager.specs.statement.Holders.{is_missing}
use Rattle.tl_manager.proofs.law.finds_clients.Goals as goal

pub returns-clause-found : goal.returns-clause-found
returns-clause-found g c = λ config test client. among-where config test client

pub returns-clause-rising : goal.returns-clause-rising
returns-clause-rising g c = λ config test. rising-where config test

pub returns-clause-settled : goal.returns-clause-settled
returns-clause-settled g c = λ config block t. nobody-where config (λ client. is_missing client block t)

pub returns-clause-unheld : goal.returns-clause-unheld
returns-clause-unheld g c = λ config block t. unheld-where config block t
