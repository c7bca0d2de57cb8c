use Rattle.std.proofs.lemmas.Result.{IfOk-weaker}
use Rattle.tl_wide_event_story.proofs.PartsMet.{copy-met, link-met, response-met}
use Rattle.tl_wide_event_story.proofs.guide.Kind.meet.Goals as goal

pub returns-in-Rule : goal.returns-in-Rule
returns-in-Rule g c = rw (c.in-OfLink.is, c.in-Rule.is) (IfOk-weaker c.meet_part.result _ _
    (λ met meets. link-met c.args.numbering.now.later.items c.args.number c.args.passing.link c.args.passing.beat.now
    c.args.part.now c.meet_part.new.out.items c.in-OfLink.guide c.meet_part.new.self c.in-Rule.rule met meets)
    c.meet_part.ensures)

pub returns-in-Some : goal.returns-in-Some
returns-in-Some g c = rw (c.in-OfCopy.is, c.in-CommitRule.is) (IfOk-weaker c.meet_part-in-OfCopy.result _ _
    (λ met meets. copy-met c.args.numbering.now.later.items c.args.number c.args.passing.link c.args.passing.beat.now
    c.args.part.now c.meet_part-in-OfCopy.new.out.items c.in-OfCopy.guide c.meet_part-in-OfCopy.new.self
    c.in-CommitRule.rule c.in-Some.address met c.in-Some.ensures meets)
    (rw c.requires.empty at c.meet_part-in-OfCopy.ensures))

pub returns-in-MemoryRule : goal.returns-in-MemoryRule
returns-in-MemoryRule g c =
    rw (c.in-OfResponse.is, c.in-MemoryRule.is) (IfOk-weaker c.meet_part-in-OfResponse.result _ _
    (λ met meets. response-met c.args.numbering.now.later.items c.args.number c.args.passing.link
    c.args.passing.beat.now c.args.part.now c.meet_part-in-OfResponse.new.out.items c.in-OfResponse.guide
    c.meet_part-in-OfResponse.new.self c.in-MemoryRule.rule met meets)
    (rw c.requires.empty at c.meet_part-in-OfResponse.ensures))
