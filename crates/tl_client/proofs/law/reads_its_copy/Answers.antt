use Rattle.tl_client.proofs.messages.Calls.{load-reply, store-reply}
use Rattle.tl_client.proofs.law.reads_its_copy.Goals as goal

pub returns-clause-load : goal.returns-clause-load
returns-clause-load g c = λ terms address size e free. load-reply terms address size e free

pub returns-clause-store : goal.returns-clause-store
returns-clause-store g c = λ terms address size value e free. store-reply terms address size value e free
