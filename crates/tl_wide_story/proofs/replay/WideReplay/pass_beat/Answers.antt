use Rattle.std.proofs.Common.{refl}
use Rattle.std.proofs.lemmas.Result.{IfOk-weaker}
use Rattle.tl_wide_story.proofs.WideReplaying.{beat_passed}
use Rattle.tl_wide_story.proofs.replay.WideReplay.pass_beat.Goals as goal

pub returns : goal.returns
returns g c = IfOk-weaker c.pass_parts.result _ _
    (λ outcome passes. beat_passed g.row.P c.args.self.now _ c.note_address.new.self c.pass_parts.new.self c.args.link
    c.args.beat.now c.in-Some.parts outcome
    (record {
      allow_is = refl;
      may_is = refl;
      level_is = refl;
      fault_is = refl;
      subject_is = refl;
      told_is = refl;
      count_is = refl;
    })
    refl refl c.note_address.ensures (λ t follows. rw c.in-Some.is at (c.in_ok-parts.ensures t follows)) passes)
    c.pass_parts.ensures
