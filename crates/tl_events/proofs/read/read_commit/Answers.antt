use Rattle.std.proofs.Common.{ap, ◌∙◌}
use Rattle.std.specs.Result.{result_err}
use Rattle.tl_events.proofs.CommitFaults.{reading-fault}
use Rattle.tl_events.proofs.CommitLines.{line_at-is}
use Rattle.tl_events.proofs.CommitSpelled.{ok-spells, reading-spelled}
use Rattle.tl_events.proofs.read.read_commit.Goals as goal

pub returns-clause-spelled : goal.returns-clause-spelled
returns-clause-spelled c = ok-spells c.args.line.now c.whole_line.result
    (c.whole_line.ensures ∙ line_at-is c.args.line.now)

pub returns-clause-every_spelling : goal.returns-clause-every_spelling
returns-clause-every_spelling c = λ link x s.
    c.whole_line.ensures ∙ line_at-is c.args.line.now ∙ reading-spelled c.args.line.now link x s

pub returns-clause-fault : goal.returns-clause-fault
returns-clause-fault c = ap result_err (c.whole_line.ensures ∙ line_at-is c.args.line.now) ∙ reading-fault
    c.args.line.now
