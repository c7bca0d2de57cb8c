use Rattle.std.proofs.lemmas.Result.{IfOk-weaker}
use Rattle.tl_commit_lines.specs.statement.MarkedHeader.{complete_of, levels_of}
use Rattle.tl_commit_story.proofs.Responses.{bytes-grounds, links-grounds}
use Rattle.tl_commit_story.proofs.response_follower.ResponseFollower.tell.Goals as goal

pub returns-in-OfLinks-clause-knows : goal.returns-in-OfLinks-clause-knows
returns-in-OfLinks-clause-knows g c = λ may links e k.
    c.tell.ensures.knows may (levels_of links) e (rw c.in-OfLinks.is at k)

pub returns-in-OfLinks-clause-tells : goal.returns-in-OfLinks-clause-tells
returns-in-OfLinks-clause-tells g c = IfOk-weaker c.tell.result _ _
    (λ told tells. λ yes. links-grounds c.args.self.now c.in-OfLinks.kept (g.X.Places.names c.args.places.now) c.args.rule
    c.args.link c.args.x.now c.args.out.now.items c.tell.new.out.items c.in-OfLinks.is (tells yes)) c.tell.ensures.tells

pub returns-in-OfBytes-clause-knows : goal.returns-in-OfBytes-clause-knows
returns-in-OfBytes-clause-knows g c = λ may links e k.
    c.tell_bytes.ensures.knows may (levels_of links) (complete_of links) e (rw c.in-OfBytes.is at k)

pub returns-in-OfBytes-clause-tells : goal.returns-in-OfBytes-clause-tells
returns-in-OfBytes-clause-tells g c = IfOk-weaker c.tell_bytes.result _ _
    (λ told tells. λ yes. bytes-grounds c.args.self.now c.in-OfBytes.kept (g.X.Places.names c.args.places.now) c.args.rule
    c.args.link c.args.x.now c.args.out.now.items c.tell_bytes.new.out.items c.in-OfBytes.is (tells yes))
    c.tell_bytes.ensures.tells
