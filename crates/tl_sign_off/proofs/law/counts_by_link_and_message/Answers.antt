use Rattle.tl_sign_off.proofs.Named.{counted_alike}
use Rattle.tl_sign_off.proofs.law.counts_by_link_and_message.Goals as goal

pub returns : goal.returns
returns c = λ w. counted_alike {w = w}
