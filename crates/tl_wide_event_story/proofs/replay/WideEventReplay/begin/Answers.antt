use Rattle.std.proofs.Common.{rules}
use Rattle.std.proofs.lemmas.Result.{IfOk-weaker}
use Rattle.tl_commit_lines.specs.statement.MarkedHeader.{links_in}
use Rattle.tl_wide_event_story.proofs.Retold.{begins}
use Rattle.tl_wide_event_story.proofs.replay.WideEventReplay.begin.Goals as goal

pub returns : goal.returns
returns g c = IfOk-weaker c.new.result _ _
    (λ guide knows. begins c.args.self.now.allow c.args.line.now c.in-Some.header.width c.in-Some.header.narrow.may
    (links_in c.in-Some.header.narrow) (search rules) c.in-Some.ensures guide knows) c.new.ensures
