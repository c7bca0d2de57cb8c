use Rattle.std.proofs.Common.{rules}
use Rattle.tl_lines.proofs.JudgedLines.{all_clean, no_lines}
use Rattle.tl_lines.proofs.link_lines.LinkLinesLineHandler.finish.Goals as goal

pub returns-in-Waiting-clause-finishes : goal.returns-in-Waiting-clause-finishes
returns-in-Waiting-clause-finishes c = no_lines c.args.self.now _ c.in-Waiting.is _ _

pub returns-in_ok-append_end-in_default-clause-finishes : goal.returns-in_ok-append_end-in_default-clause-finishes
returns-in_ok-append_end-in_default-clause-finishes c = all_clean _ c.in_default.not-Waiting _ _ _ (search rules)
