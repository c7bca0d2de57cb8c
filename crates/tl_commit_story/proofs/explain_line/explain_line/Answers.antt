use Rattle.std.proofs.Common.{rules}
use Rattle.std.proofs.lemmas.Result.{on_ok_weaker}
use Rattle.tl_commit_story.proofs.Storied.{line-explains}
use Rattle.tl_commit_story.proofs.explain_line.explain_line.Goals as goal

pub returns-clause-ok : goal.returns-clause-ok
returns-clause-ok g c =
    let front = c.in_ok-line.ensures.ok in
    on_ok_weaker c.append_shown.result
    (λ shows. λ together allow.
    line-explains together allow _ _ c.args.verdict.now c.append_shown.new.out.items c.args.good c.args.fault
    c.args.width front.0 c.in_ok-line.line.items (search rules) front.1 front.2 (search rules)
    (rw c.deref.ensures.value at (c.has_fault.ensures (search rules))) (rw c.deref-2.ensures.value at shows))
    c.append_shown.ensures.ok
