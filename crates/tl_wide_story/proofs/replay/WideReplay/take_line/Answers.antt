use Rattle.std.proofs.Common.{rules}
use Rattle.std.proofs.lemmas.Result.{IfOk-weaker}
use Rattle.tl_wide_story.proofs.WideReplaying.{line_read}
use Rattle.tl_wide_story.proofs.replay.WideReplay.take_line.Goals as goal

pub returns-in-4 : goal.returns-in-4
returns-in-4 g c = IfOk-weaker c.take_beat.result _ _
    (λ on reads. line_read c.args.self.now c.take_beat.new.self c.args.line.now 4 on (search rules) (search rules)
    reads) c.take_beat.ensures
