use Rattle.std.proofs.lemmas.Result.{on_ok_weaker}
use Rattle.tl_wide_story.proofs.WideReplaying.{told_explains}
use Rattle.tl_wide_story.proofs.explain.explain_rule.Goals as goal

pub judge_input-requires : goal.judge_input-requires
judge_input-requires g c = rw c.new-text.ensures.items (c.new-lines.ensures.knows c.start_of.ensures)

pub returns-clause-ok : goal.returns-clause-ok
returns-clause-ok g c = on_ok_weaker c.append_story-told.result
    (λ found.
    let h = c.in-Ok.ensures.ok in
    told_explains c.into_handler-story.result c.args.allow _ _ h.0 _ found.0 c.in-Ok.field-0 c.args.verdict.now h.1
    found.1 found.2 (rw c.into_handler-story.ensures h.4) found.3 found.4)
    c.append_story-told.ensures.ok

pub returns-in-Err-clause-fault : goal.returns-in-Err-clause-fault
returns-in-Err-clause-fault g c = λ same. c.in-Err.ensures.fault cc
