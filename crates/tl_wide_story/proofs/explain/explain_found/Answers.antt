use Rattle.std.proofs.lemmas.Result.{on_ok_weaker}
use Rattle.tl_wide_story.proofs.explain.explain_found.Goals as goal

pub returns-in_default-clause-ok : goal.returns-in_default-clause-ok
returns-in_default-clause-ok g c =
    on_ok_weaker c.explain_other.result (λ explains. rw c.requires (explains _ _ c.args.allow)) c.explain_other.ensures.ok
