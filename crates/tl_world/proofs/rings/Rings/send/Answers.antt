use Rattle.std.proofs.Common.{rules, ◌≤◌, arith}
use Rattle.tl_world.proofs.Queues.{moved-sent, moved-aside, number-below}
use Rattle.tl_world.proofs.rings.Rings.send.Goals as goal

pub returns-then-at-len-clause-moved : goal.returns-then-at-len-clause-moved
returns-then-at-len-clause-moved g c = λ n s carried fits.
    moved-sent n c.args.self.now _ s c.args.link.0 c.args.message.now c.requires carried fits c.send_at.ensures.number
    (search rules) (search rules) (search rules) (search rules) (search rules)

pub returns-else-at-len-clause-moved : goal.returns-else-at-len-clause-moved
returns-else-at-len-clause-moved g c = λ n s carried fits.
    let past : n ≤ c.args.link.0 =
    omega (
      arith,
      carried.five_each,
      c.if-at-len.false,
      c.len.ensures,
      c.place-at.ensures,
      number-below
          c.channel_of-channel.result,
    ) in
    moved-aside n c.args.self.now s c.args.link.0 _ _ carried past
