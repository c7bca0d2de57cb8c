use Rattle.std.proofs.Common.{ap, ◌∙◌}
use Rattle.std.specs.Result.{result_err}
use Rattle.tl_wide.proofs.LineAt.{line_at-is}
use Rattle.tl_wide.proofs.Faults.{reading-fault}
use Rattle.tl_wide.proofs.SpelledLines.{reading-spelled}
use Rattle.tl_wide.proofs.Placed.{placed-spells, placed-ok, placed-fault}
use Rattle.tl_wide.proofs.read.read_wide_into.Goals as goal

pub returns-clause-spelled : goal.returns-clause-spelled
returns-clause-spelled g c = placed-spells c.args.line.now c.place_line.result c.place_line.new.beat c.requires
    (c.place_line.ensures.read ∙ line_at-is g.row.W c.args.line.now)

pub returns-clause-every_spelling : goal.returns-clause-every_spelling
returns-clause-every_spelling g c = λ link read s. placed-ok c.place_line.result c.place_line.new.beat link read
    (c.place_line.ensures.read ∙ line_at-is g.row.W c.args.line.now
    ∙ reading-spelled c.args.line.now link read c.requires s)

pub returns-clause-fault : goal.returns-clause-fault
returns-clause-fault g c = placed-fault c.place_line.result c.place_line.new.beat
    ∙ ap result_err (c.place_line.ensures.read ∙ line_at-is g.row.W c.args.line.now)
    ∙ reading-fault g.row.W c.args.line.now
