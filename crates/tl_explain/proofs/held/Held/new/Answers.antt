use Rattle.std.proofs.Common.{refl}
use Rattle.tl_explain.proofs.Sayings.{no_held}
use Rattle.tl_explain.proofs.held.Held.new.Goals as goal

pub returns : goal.returns
returns c = λ w n k l. no_held _ l n k refl refl
