use Rattle.std.proofs.lemmas.Result.{on_ok_weaker}
use Rattle.tl_wide_event_story.proofs.explain.reasons.Goals as goal

pub returns-in-Clean-clause-ok : goal.returns-in-Clean-clause-ok
returns-in-Clean-clause-ok g c = on_ok_weaker c.explain_clean.result (λ says. rw c.in-Clean.is (says (g.R.Read.remaining c.args.reader.now) (g.R.Read.remaining c.explain_clean.new.reader)
    c.args.verdict.now))
    c.explain_clean.ensures.ok
