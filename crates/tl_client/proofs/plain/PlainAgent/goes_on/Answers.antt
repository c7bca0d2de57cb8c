use Rattle.std.proofs.Common.{refl}
use Rattle.tl_client.proofs.messages.Lawful.{lawful-here}
use Rattle.tl_client.proofs.plain_client.Offers.{answer-middle, after-middle}
use Rattle.tl_client.proofs.plain.PlainAgent.goes_on.Goals as goal

pub returns-in-D-D-clause-answer : goal.returns-in-D-D-clause-answer
returns-in-D-D-clause-answer g c =
    let lawful = lawful-here c.args.self.now.config.level c.args.beat.now c.args.self.now.responses c.goes_on.result
    c.args.self.now.lawful c.goes_on.ensures.lawful in
    answer-middle c.args.self.now c.args.channel c.args.beat.now c.in-D-D.response
    c.goes_on.result c.in-D-D.is-0 c.in-D-D.is-1 c.goes_on.ensures.live lawful
    c.goes_on.ensures.clean c.goes_on.ensures.middle

pub returns-in-D-D-clause-after : goal.returns-in-D-D-clause-after
returns-in-D-D-clause-after g c =
    let lawful = lawful-here c.args.self.now.config.level c.args.beat.now c.args.self.now.responses c.goes_on.result
    c.args.self.now.lawful c.goes_on.ensures.lawful in
    after-middle c.args.self.now _ c.args.channel c.args.beat.now c.in-D-D.response
    c.goes_on.result c.in-D-D.is-0 c.in-D-D.is-1 c.goes_on.ensures.live lawful
    c.goes_on.ensures.clean c.goes_on.ensures.middle c.goes_on.ensures.grows refl refl
