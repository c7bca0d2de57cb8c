use Rattle.std.proofs.Common.{rules}
use Rattle.tl_commit_story.proofs.LinksFollowed.{links-kept, links-told}
use Rattle.tl_commit_story.proofs.links_record.LinksRecord.tell.Goals as goal

pub returns-clause-knows : goal.returns-clause-knows
returns-clause-knows g c = λ may levels e k.
    links-kept c.args.self.now c.tell.new.judge may levels e k c.tell.ensures.knows

pub returns-in_err-tell-clause-knows : goal.returns-in_err-tell-clause-knows
returns-in_err-tell-clause-knows g c = λ may levels e k.
    links-kept c.args.self.now c.tell.new.judge may levels e k c.tell.ensures.knows

pub returns-clause-tells : goal.returns-clause-tells
returns-clause-tells g c = λ yes. links-told (g.X.Places.names c.args.places.now) c.args.self.now c.args.rule c.args.link
    c.args.x.now c.args.out.now.items c.tell.new.out.items (search rules) (c.is_answered.ensures (search rules))
    c.in_ok-tell.ensures.grant c.in_ok-tell.ensures.access
