use Rattle.tl_commit_lines.specs.code.EventWatching.{events_judged_for}
use Rattle.tl_commit_lines.specs.statement.JudgedEvents.{JudgedCommits}
use Rattle.tl_commit_story.proofs.Storied.{story-stops, story-untold}
use Rattle.tl_commit_story.proofs.story.StoryLineHandler.open_fault.Goals as goal

pub returns-clause-stops : goal.returns-clause-stops
returns-clause-stops g c = λ line said is.
    story-stops c.args.self.now line said
    (JudgedCommits (events_judged_for c.args.self.now.lines).0 (events_judged_for c.args.self.now.lines).1)
    c.open_fault.result (c.open_fault.ensures.stops line said is)

pub returns-clause-ends : goal.returns-clause-ends
returns-clause-ends g c = λ line is lines text known more. story-untold c.args.self.now lines _ text known
