use Rattle.std.proofs.lemmas.Result.{IfOk-weaker}
use Rattle.tl_wide_event_lines.specs.code.EventWatching.{any_judged_for}
use Rattle.tl_wide_event_lines.specs.statement.JudgedWideEvents.{JudgedAny}
use Rattle.tl_wide_event_story.proofs.Storied.{story-finishes, story-untold}
use Rattle.tl_wide_event_story.proofs.story.WideEventStoryLineHandler.finish.Goals as goal

pub returns-clause-finishes : goal.returns-clause-finishes
returns-clause-finishes g c = IfOk-weaker c.finish.result _ _
    (λ fault ends. story-finishes c.args.self.now c.args.count c.args.out.now.items c.finish.new.out.items
    (JudgedAny (any_judged_for c.args.self.now.lines).0 (any_judged_for c.args.self.now.lines).1) fault ends)
    c.finish.ensures.finishes

pub returns-clause-ends : goal.returns-clause-ends
returns-clause-ends g c = λ fault is lines text known. story-untold c.args.self.now lines lines text known
