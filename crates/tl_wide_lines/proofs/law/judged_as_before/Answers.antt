use Rattle.tl_wide_lines.proofs.AsBefore.{as-before}
use Rattle.tl_wide_lines.proofs.law.judged_as_before.Goals as goal

pub returns : goal.returns
returns c = as-before
