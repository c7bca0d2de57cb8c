use Rattle.std.proofs.lemmas.Result.{IfOk-weaker}
use Rattle.tl_commit_story.proofs.Responses.{response-told}
use Rattle.tl_commit_story.proofs.follower.Follower.tell_response.Goals as goal

pub returns-in-OfResponse : goal.returns-in-OfResponse
returns-in-OfResponse g c = IfOk-weaker c.tell.result _ _
    (λ told tells. λ yes. response-told c.args.self.now c.in-OfResponse.kept c.args.rule c.args.link c.args.x.now
    c.args.out.now.items c.tell.new.out.items c.in-OfResponse.is (tells yes)) c.tell.ensures.tells
