use Rattle.tl_keys.proofs.Local.{one-key}
use Rattle.tl_keys.proofs.law.speaks_of_one_key.Goals as goal

pub returns : goal.returns
returns g c = λ l p t x legal. one-key l p t x legal
