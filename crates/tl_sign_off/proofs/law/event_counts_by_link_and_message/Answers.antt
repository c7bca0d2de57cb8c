use Rattle.tl_sign_off.proofs.Named.{event_counted_alike}
use Rattle.tl_sign_off.proofs.law.event_counts_by_link_and_message.Goals as goal

pub returns : goal.returns
returns c = λ w. event_counted_alike {w = w}
