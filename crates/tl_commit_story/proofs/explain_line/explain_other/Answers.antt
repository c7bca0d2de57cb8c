use Rattle.std.proofs.Common.{rules}
use Rattle.tl_commit_story.proofs.Storied.{other-explains}
use Rattle.tl_commit_story.proofs.explain_line.explain_other.Goals as goal

pub returns-clause-ok : goal.returns-clause-ok
returns-clause-ok c = λ together allow old new.
    other-explains together allow old new c.args.verdict.now _ c.args.good c.args.fault
    (search rules) (search rules) (search rules) (search rules)
