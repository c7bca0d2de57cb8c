use Rattle.std.proofs.Common.{rules}
use Rattle.std.proofs.lemmas.Result.{IfOk-weaker}
use Rattle.tl_commit_lines.proofs.Pushed.{event-valid}
use Rattle.tl_commit_lines.specs.statement.MarkedHeader.{complete_of, levels_of}
use Rattle.tl_commit_story.proofs.copy_follower.CopyFollower.take.Goals as goal

pub take-requires-2 : goal.take-requires-2
take-requires-2 g c = search (rules, event-valid c.args.line.now c.args.link c.args.event.now c.requires.spelled)

pub returns : goal.returns
returns g c = IfOk-weaker c.take-2.result _ _
    (λ on says. λ yes may links e at k. (
      c.in_ok-take.ensures c.if-not-branch.false may (levels_of links) e at k.0,
      says yes may (levels_of links) (complete_of links) e at k.1,
    ))
    c.take-2.ensures.takes
