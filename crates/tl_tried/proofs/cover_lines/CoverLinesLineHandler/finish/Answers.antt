use Rattle.std.proofs.Common.{rules}
use Rattle.tl_tried.proofs.Covered.{all_clean, covered_here, none_there}
use Rattle.tl_tried.proofs.cover_lines.CoverLinesLineHandler.finish.Goals as goal

pub returns-in-Waiting-clause-finishes : goal.returns-in-Waiting-clause-finishes
returns-in-Waiting-clause-finishes c = rw c.in-Waiting.is (none_there c.args.self.now.allow _ _ _)

pub returns-in_ok-append_end-in_default-clause-finishes : goal.returns-in_ok-append_end-in_default-clause-finishes
returns-in_ok-append_end-in_default-clause-finishes c =
    all_clean c.args.self.now c.in_default.not-Waiting _ _ _ (search rules)

pub returns-in-Waiting-clause-ends : goal.returns-in-Waiting-clause-ends
returns-in-Waiting-clause-ends c = λ fault is. covered_here c.args.self.now
