use Rattle.std.proofs.Common.{sym, ap, subst, ◌∙◌}
use Rattle.tl_bytes.specs.statement.Bytes.{told_as}
use Rattle.tl_commits.specs.code.ValueTable.{KnowsKept}
use Rattle.tl_commits.proofs.TableJudged.{kept-known, untouched-seen}
use Rattle.tl_commits.proofs.value_table.ValueTable.is_seen.Goals as goal

pub returns-in-None : goal.returns-in-None
returns-in-None c = λ w complete n e k lt. untouched-seen complete n c.args.block c.args.place c.args.byte e
    (subst (λ o. KnowsKept o complete n c.args.block e) (sym c.in-None.ensures) (k c.args.block)) lt

pub returns-in-Some : goal.returns-in-Some
returns-in-Some c = λ w complete n e k lt.
    let known = kept-known c.args.self.now complete n c.args.block c.in-Some.values.now e k c.in-Some.ensures in
    (rw c.as_slice.ensures.value at c.allows.ensures) ∙ ap (told_as c.args.byte) (known.seen_is c.args.place lt)
