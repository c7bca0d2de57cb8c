use Rattle.tl_sign_off.proofs.Named.{wide_event_counted_alike}
use Rattle.tl_sign_off.proofs.law.wide_event_counts_by_link_and_message.Goals as goal

pub returns : goal.returns
returns c = λ w. wide_event_counted_alike {w = w}
