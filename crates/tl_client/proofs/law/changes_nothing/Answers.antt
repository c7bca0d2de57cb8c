use Rattle.tl_client.proofs.messages.Calls.{busy-asked, miss-asked, load-asked, stall-offered, refusal-offered}
use Rattle.tl_client.proofs.law.changes_nothing.Goals as goal

pub returns-clause-busy : goal.returns-clause-busy
returns-clause-busy g c = λ terms op e b is. busy-asked terms op e b is

pub returns-clause-miss : goal.returns-clause-miss
returns-clause-miss g c = λ terms op e is. miss-asked terms op e is

pub returns-clause-load : goal.returns-clause-load
returns-clause-load g c = λ terms address size e. load-asked terms address size e

pub returns-clause-stall : goal.returns-clause-stall
returns-clause-stall g c = λ terms ch x e m is. stall-offered terms ch x e m is

pub returns-clause-refusal : goal.returns-clause-refusal
returns-clause-refusal g c = λ terms ch x e rule is. refusal-offered terms ch x e rule is
