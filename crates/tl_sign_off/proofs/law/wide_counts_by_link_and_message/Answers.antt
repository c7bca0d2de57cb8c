use Rattle.tl_sign_off.proofs.Named.{wide_counted_alike}
use Rattle.tl_sign_off.proofs.law.wide_counts_by_link_and_message.Goals as goal

pub returns : goal.returns
returns c = λ w. wide_counted_alike {w = w}
