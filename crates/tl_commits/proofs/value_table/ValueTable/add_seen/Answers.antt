use Rattle.std.proofs.Common.{sym, ap, subst, ◌∙◌, ◌+◌, ◌*◌, ◌||◌}
use Rattle.tl_bytes.specs.statement.Bytes.{told_as}
use Rattle.tl_memory.specs.code.ByteSet.{has_at}
use Rattle.tl_commits.specs.code.GivingBack.{is_seen}
use Rattle.tl_commits.specs.code.ValueTable.{KnowsKept}
use Rattle.tl_memory.proofs.values.ByteSets.{any-or}
use Rattle.tl_commits.proofs.TableJudged.{kept-known, untouched-seen}
use Rattle.tl_commits.proofs.value_table.ValueTable.add_seen.Goals as goal

pub returns-in-None : goal.returns-in-None
returns-in-None c = λ w complete n e k place v lt small there.
    any-or (has_at c.args.sets.now place v) (c.put_reached.ensures place v lt there ∙ c.all.ensures v small)
    (untouched-seen complete n c.block_at.result place v e
    (subst (λ o. KnowsKept o complete n c.block_at.result e) (sym c.in-None.ensures) (k c.block_at.result)) lt
    ∙ ap (λ b. is_seen complete n e (64 * b + place) v) c.block_at.ensures)

pub returns-in-Some : goal.returns-in-Some
returns-in-Some c = λ w complete n e k place v lt small there.
    let known = kept-known c.args.self.now complete n c.block_at.result c.in-Some.kept.now e k c.in-Some.ensures in
    (rw c.as_slice.ensures.value at c.add_told.ensures) place v lt small there
    ∙ ap (λ l. has_at c.args.sets.now place v || told_as v l) (known.seen_is place lt)
    ∙ ap (λ b. has_at c.args.sets.now place v || is_seen complete n e (64 * b + place) v) c.block_at.ensures
