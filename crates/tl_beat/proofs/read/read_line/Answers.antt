use Rattle.std.proofs.Common.{ap, ◌∙◌}
use Rattle.std.specs.Result.{result_err}
use Rattle.tl_beat.proofs.LineAt.{line_at-is}
use Rattle.tl_beat.proofs.Faults.{reading-fault}
use Rattle.tl_beat.proofs.SpelledLines.{reading-spelled, one-beat}
use Rattle.tl_beat.proofs.ReadLines.{ok-spells}
use Rattle.tl_beat.proofs.read.read_line.Goals as goal

pub returns-clause-spelled : goal.returns-clause-spelled
returns-clause-spelled g c = ok-spells c.args.line.now c.whole_line.result c.requires
    (c.whole_line.ensures ∙ line_at-is g.row.W c.args.line.now)

pub returns-clause-every_spelling : goal.returns-clause-every_spelling
returns-clause-every_spelling g c = λ link beat s. c.whole_line.ensures ∙ line_at-is g.row.W c.args.line.now
    ∙ reading-spelled c.args.line.now link beat c.requires s

pub returns-clause-fault : goal.returns-clause-fault
returns-clause-fault g c = ap result_err (c.whole_line.ensures ∙ line_at-is g.row.W c.args.line.now) ∙ reading-fault
    g.row.W c.args.line.now

pub returns-clause-one_beat : goal.returns-clause-one_beat
returns-clause-one_beat g c = λ k l b d s t. one-beat c.args.line.now k l b d c.requires s t
