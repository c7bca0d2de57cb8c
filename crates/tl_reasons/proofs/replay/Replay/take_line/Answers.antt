use Rattle.std.proofs.Common.{rules}
use Rattle.tl_reasons.proofs.Replaying.{beat_read, header_read}
use Rattle.tl_reasons.proofs.replay.Replay.take_line.Goals as goal

pub returns-then-self-eq0 : goal.returns-then-self-eq0
returns-then-self-eq0 g c = λ taken.
    header_read c.args.self.now c.take_header.new.self c.args.line.now (search rules) (search rules)
    (c.take_header.ensures taken)

pub returns-else-self-2 : goal.returns-else-self-2
returns-else-self-2 g c = λ taken.
    beat_read c.args.self.now c.take_beat.new.self c.args.line.now (search rules) (search rules)
    (c.take_beat.ensures taken)
