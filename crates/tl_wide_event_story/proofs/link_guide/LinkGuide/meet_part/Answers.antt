use Rattle.tl_wide_event_story.proofs.link_guide.LinkGuide.meet_part.Goals as goal

pub returns-then-branch : goal.returns-then-branch
returns-then-branch g c = λ may levels e k.
    c.in_ok-tell_part.ensures c.if-branch.true may levels e (c.allow.ensures may levels e k)

pub returns-then-record : goal.returns-then-record
returns-then-record g c = λ may levels e k.
    c.record.ensures c.if-record.true may levels e (c.allow.ensures may levels e k)
