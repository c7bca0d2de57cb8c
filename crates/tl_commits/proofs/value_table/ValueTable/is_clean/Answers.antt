use Rattle.std.proofs.Common.{sym, subst}
use Rattle.tl_commits.specs.code.ValueTable.{KnowsKept}
use Rattle.tl_commits.proofs.TableJudged.{untouched-clean}
use Rattle.tl_commits.proofs.value_table.ValueTable.is_clean.Goals as goal

pub returns-in-None : goal.returns-in-None
returns-in-None c = λ w complete n e k. untouched-clean complete n c.args.block e
    (subst (λ o. KnowsKept o complete n c.args.block e) (sym c.in-None.ensures) (k c.args.block))

pub returns-in-Some : goal.returns-in-Some
returns-in-Some c = λ w complete n e k. c.is_clean.ensures w complete n c.args.block e
    (subst (λ o. KnowsKept o complete n c.args.block e) (sym c.in-Some.ensures) (k c.args.block))
