use Rattle.tl_schedule.specs.statement.CommonLine.{common_event}
use Rattle.tl_engine.proofs.Played.{line-said}
use Rattle.tl_engine.proofs.play.play.Goals as goal

pub returns-in_ok-play_common-in-Some : goal.returns-in_ok-play_common-in-Some
returns-in_ok-play_common-in-Some g c =
    line-said c.args.form c.args.player.now c.play_common.new.player c.args.line.now (common_event c.in-Some.common) c.args.out.now.items
    c.play_common.new.out.items (c.in-Some.ensures g.row.W) c.in_ok-play_common-in-Some.ensures
