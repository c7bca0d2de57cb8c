use Rattle.std.proofs.Common.{rules, refl, true, false, sym, ◌∙◌, ◌≡◌}
use Rattle.tl_bytes.specs.statement.Known.{tellings_at}
use Rattle.tl_commits.proofs.TellingLists.{none-in}
use Rattle.tl_commits.proofs.ValuesJudged.{plain-change, values-kept, values-lost, values-told}
use Rattle.tl_commits.proofs.block_values.BlockValues.after_beat.Goals as goal

pub returns-in-Told : goal.returns-in-Told
returns-in-Told c = λ w complete n block x e k is loses now.
    values-told c.args.self.now _ complete n block c.args.moment x e k c.in-Told.values c.in-Told.unread now
    (rw c.in-Told.is at is) c.in_ok-told.ensures none-in c.in_ok-memory_told.ensures

pub returns-then-not-loses : goal.returns-then-not-loses
returns-then-not-loses c = λ w complete n block x e k is loses now.
    let plain = plain-change c.args.change.now n block c.args.moment x _ c.in_default.not-Told now is in
    let off : c.args.loses ≡ false = search rules in
    values-kept c.args.self.now _ complete n block c.args.moment x e k c.args.change.now plain (sym loses ∙ off)
    (rw c.as_slice.ensures.value at c.in_ok-seen.ensures) refl
    (rw c.as_slice-2.ensures.value at c.in_ok-memory.ensures)

pub returns : goal.returns
returns c = λ w complete n block x e k is loses now.
    let plain = plain-change c.args.change.now n block c.args.moment x _ c.in_default.not-Told now is in
    let on : c.args.loses ≡ true = search rules in
    values-lost c.args.self.now _ complete n block c.args.moment x e k c.args.change.now plain
    (λ p. tellings_at p c.in_ok-seen.seen.items) (sym loses ∙ on)
    (rw c.as_slice.ensures.value at c.in_ok-seen.ensures)
    (rw (c.as_slice-kept.ensures.value, c.as_slice-3.ensures.value) at c.in_ok-chosen.ensures) none-in
    (rw c.as_slice-2.ensures.value at c.in_ok-memory.ensures)
