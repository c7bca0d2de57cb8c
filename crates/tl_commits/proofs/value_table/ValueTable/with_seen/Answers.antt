use Rattle.std.proofs.Common.{sym, ap, subst, ◌∙◌, ◌+◌, ◌||◌}
use Rattle.std.proofs.lemmas.List.{get_or-replicate}
use Rattle.tl_bytes.specs.statement.Bytes.{told_as}
use Rattle.tl_memory.specs.code.ByteSet.{has, has_at, nothing}
use Rattle.tl_commits.specs.code.ValueTable.{KnowsKept}
use Rattle.tl_memory.proofs.values.ByteSets.{any-or}
use Rattle.tl_commits.proofs.TableJudged.{kept-known, untouched-seen}
use Rattle.tl_commits.proofs.value_table.ValueTable.with_seen.Goals as goal

pub returns-in-None : goal.returns-in-None
returns-in-None g c = λ w complete n e k i v few lt small.
    any-or (has_at c.args.sets i v) (ap (λ s. has s v) (get_or-replicate g.row.N i c.all.result nothing few) ∙ c.all.ensures v small)
    (untouched-seen complete n c.args.block (c.args.first + i) v e
    (subst (λ o. KnowsKept o complete n c.args.block e) (sym c.in-None.ensures) (k c.args.block)) lt)

pub returns-in-Some : goal.returns-in-Some
returns-in-Some g c = λ w complete n e k i v few lt small.
    let known = kept-known c.args.self.now complete n c.args.block c.in-Some.kept.now e k c.in-Some.ensures in
    (rw c.as_slice.ensures.value at c.with_told.ensures) i v few small
    ∙ ap (λ l. has_at c.args.sets i v || told_as v l) (known.seen_is (c.args.first + i) lt)
