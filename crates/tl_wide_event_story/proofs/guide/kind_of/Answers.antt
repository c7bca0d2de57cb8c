use Rattle.std.proofs.Common.{◌∙◌}
use Rattle.tl_wide_event_story.proofs.ResponsesGuided.{asked-none}
use Rattle.tl_wide_event_story.proofs.guide.kind_of.Goals as goal

pub returns-in-MemoryRule : goal.returns-in-MemoryRule
returns-in-MemoryRule g c =
    let k = rw c.in-Some-2.is at c.in_ok-new-in-MemoryRule.ensures in
    (k.0, k.1 ∙ asked-none g.row.W c.in-Some-2.guide.link c.in-Some-2.guide.source)
