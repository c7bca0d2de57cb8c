use Rattle.std.proofs.Common.{rules}
use Rattle.tl_commit_story.proofs.LinksFollowed.{links-answered}
use Rattle.tl_commit_story.proofs.links_record.LinksRecord.is_answered.Goals as goal

pub returns-in-Some : goal.returns-in-Some
returns-in-Some g c = λ yes. links-answered c.args.self.now c.args.link c.args.source c.request.result c.in-Some.asked
    c.in-Some.is (search rules) c.request.ensures
