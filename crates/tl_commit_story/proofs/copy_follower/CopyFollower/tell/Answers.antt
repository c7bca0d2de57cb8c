use Rattle.std.proofs.Common.{rules}
use Rattle.std.proofs.lemmas.Result.{IfOk-weaker}
use Rattle.tl_commit_lines.specs.statement.MarkedHeader.{complete_of, levels_of}
use Rattle.tl_commit_story.proofs.Copies.{told-both}
use Rattle.tl_commit_story.proofs.copy_follower.CopyFollower.tell.Goals as goal

pub returns : goal.returns
returns g c = IfOk-weaker c.tell.result _ _
    (λ told says. λ on may links e k.
    let f = c.args.self.now in
    told-both f c.args.rule c.args.link c.args.event.now may links e k (search rules) (search rules) _ _ _
    (c.in_ok-tell_grounds.ensures c.if-not-branch.false may (levels_of links) e k.0)
    (says on may (levels_of links) (complete_of links) e k.1))
    c.tell.ensures
