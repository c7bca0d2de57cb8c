use Rattle.tl_explain.specs.statement.Evidence.{is_closing, is_opening, is_saying}
use Rattle.tl_explain.proofs.Places.{found_last, last_if_any}
use Rattle.tl_explain.proofs.law.last_are_last.Goals as goal

pub returns-clause-opening : goal.returns-clause-opening
returns-clause-opening c = λ w n k t. last_if_any (is_opening n k) t

pub returns-clause-closing : goal.returns-clause-closing
returns-clause-closing c = λ w n k t. last_if_any (is_closing n k) t

pub returns-clause-saying : goal.returns-clause-saying
returns-clause-saying c = λ w n k t. last_if_any (is_saying n k) t

pub returns-clause-only : goal.returns-clause-only
returns-clause-only c = λ w n k m t last. found_last (is_opening n k) t m last
