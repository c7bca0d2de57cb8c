use Rattle.std.proofs.Common.{[], ◌∷◌, inl, inr, refl}
use Rattle.std.proofs.lemmas.Result.{IfOk-weaker}
use Rattle.tl_events.specs.declared.commit.Event.TheVariants as event
use Rattle.tl_wide_event_lines.proofs.EventsJudged.{commit-becomes, one-judged}
use Rattle.tl_wide_event_lines.proofs.judge.WideEventJudge.push_commit.Goals as goal

pub returns-in_default : goal.returns-in_default
returns-in_default g c = inr (refl, refl, λ t follows. rw c.in_default.is at (c.in_ok-commit.ensures.narrowed _ _ follows))

pub returns : goal.returns
returns g c = IfOk-weaker c.push.result _ _ (λ answer judged. inl (
  (λ q. event.Commit c.in-Some.commit ∷ []),
  one-judged c.args.self.now.judge c.push.new.self c.args.link (event.Commit c.in-Some.commit) answer judged,
  λ t follows. commit-becomes c.args.link c.args.commit t c.in-Some.commit (rw c.in-Some.is at (c.in_ok-commit.ensures.narrowed _ _ follows)),
)) c.push.ensures
