use Rattle.std.proofs.Common.{rules}
use Rattle.tl_burst.proofs.Lanes.{within_payload}
use Rattle.tl_burst.proofs.burst.beat_at.Goals as goal

pub beat_of_a-requires : goal.beat_of_a-requires
beat_of_a-requires g c = search (rules, within_payload c.args.message.now c.args.i c.requires.width c.requires.inside)

pub beat_of_b-requires : goal.beat_of_b-requires
beat_of_b-requires g c = search (rules, within_payload c.args.message.now c.args.i c.requires.width c.requires.inside)

pub beat_of_c-requires : goal.beat_of_c-requires
beat_of_c-requires g c = search (rules, within_payload c.args.message.now c.args.i c.requires.width c.requires.inside)

pub beat_of_d-requires : goal.beat_of_d-requires
beat_of_d-requires g c = search (rules, within_payload c.args.message.now c.args.i c.requires.width c.requires.inside)
