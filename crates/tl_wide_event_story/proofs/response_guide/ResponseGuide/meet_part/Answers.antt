use Rattle.std.proofs.Common.{rules}
use Rattle.tl_wide_event_story.proofs.ResponsesGuided.{response-told}
use Rattle.tl_wide_event_story.proofs.response_guide.ResponseGuide.meet_part.Goals as goal

pub returns-then-branch : goal.returns-then-branch
returns-then-branch g c = λ w may links names e at k.
    c.in_ok-take_part.ensures c.if-branch.true w may links names e at (c.in_ok-tell.ensures.knows may links e k.0, k.1)

pub returns : goal.returns
returns g c = rw c.in-D.is
    (response-told c.args.self.now c.args.numbering.now.later.items c.args.rule c.args.passing.link
    c.args.passing.beat.now
    c.in-D.x c.args.out.now.items c.tell.new.out.items (c.is_response.ensures (search rules))
    (c.in_ok-tell.ensures.tells (search rules)))
