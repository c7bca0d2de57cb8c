use Rattle.std.proofs.Common.{inl, inr, refl}
use Rattle.std.proofs.lemmas.Result.{IfOk-weaker}
use Rattle.tl_wide.specs.statement.Pieces.{left_of}
use Rattle.tl_wide_events.specs.statement.Narrowed.{as_events}
use Rattle.tl_wide_event_lines.proofs.EventsJudged.{beat-becomes}
use Rattle.tl_wide_event_lines.proofs.judge.WideEventJudge.push_beat.Goals as goal

pub returns-in_default : goal.returns-in_default
returns-in_default g c = inr (refl, refl, λ t follows. rw c.in_default.is at (c.in_ok-parts.ensures _ follows))

pub returns : goal.returns
returns g c = IfOk-weaker c.push_parts.result _ _ (λ answer judged. inl (
  (λ q. as_events (left_of {p = q} c.args.beat.now c.in-Some.parts)),
  judged,
  λ t follows. beat-becomes c.args.link c.args.beat.now t _ (rw c.in-Some.is at (c.in_ok-parts.ensures _ follows)),
)) c.push_parts.ensures
