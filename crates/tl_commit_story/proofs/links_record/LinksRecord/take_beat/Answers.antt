use Rattle.std.proofs.Common.{rules}
use Rattle.std.proofs.lemmas.Result.{IfOk-weaker}
use Rattle.tl_commit_story.proofs.LinksFollowed.{links-beat}
use Rattle.tl_commit_story.proofs.links_record.LinksRecord.take_beat.Goals as goal

pub returns : goal.returns
returns g c = IfOk-weaker c.push.result _ _
    (λ on pushes. λ yes. links-beat c.args.self.now c.args.link c.push.new.judge c.take.new.self c.in_ok-number.number
    c.args.beat.now (search rules) c.in-Ok.ensures (pushes yes)) c.push.ensures
