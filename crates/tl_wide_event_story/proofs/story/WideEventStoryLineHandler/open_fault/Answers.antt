use Rattle.tl_wide_event_lines.specs.code.EventWatching.{any_judged_for}
use Rattle.tl_wide_event_lines.specs.statement.JudgedWideEvents.{JudgedAny}
use Rattle.tl_wide_event_story.proofs.Storied.{story-stops, story-untold}
use Rattle.tl_wide_event_story.proofs.story.WideEventStoryLineHandler.open_fault.Goals as goal

pub returns-clause-stops : goal.returns-clause-stops
returns-clause-stops g c = λ line said is.
    story-stops c.args.self.now line said
    (JudgedAny (any_judged_for c.args.self.now.lines).0 (any_judged_for c.args.self.now.lines).1)
    c.open_fault.result (c.open_fault.ensures.stops line said is)

pub returns-clause-ends : goal.returns-clause-ends
returns-clause-ends g c = λ line is lines text known more. story-untold c.args.self.now lines _ text known
