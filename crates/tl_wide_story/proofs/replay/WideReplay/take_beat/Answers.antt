use Rattle.std.proofs.lemmas.Result.{IfOk-weaker}
use Rattle.tl_wide_story.proofs.WideReplaying.{line_taken, line_told}
use Rattle.tl_wide_story.proofs.replay.WideReplay.take_beat.Goals as goal

pub returns-in-Told : goal.returns-in-Told
returns-in-Told g c = IfOk-weaker c.conclude.result _ _
    (λ on so. line_told g.row.P c.args.self.now c.pass_beat.new.self c.conclude.new.self c.args.line.now c.in-Ok.link
    c.read_wide_into.new.beat c.in-Ok.ensures.spelled (rw c.in-Told.is at c.in_ok-pass_beat.ensures) on so.0 so.1)
    c.conclude.ensures

pub returns : goal.returns
returns g c =
    line_taken g.row.P c.args.self.now c.pass_beat.new.self c.count_line.new.self c.args.line.now c.in-Ok.link
    c.read_wide_into.new.beat c.in-Ok.ensures.spelled (rw c.in-Taken.is at c.in_ok-pass_beat.ensures)
    c.count_line.result c.count_line.ensures.told c.count_line.ensures.counts
