use Rattle.std.proofs.Common.{◌≡◌, arith, ap, sym, ◌∙◌, rules}
use Rattle.std.proofs.lemmas.Grind.{common_steps}
use Rattle.std.specs.Prelude.{Some}
use Rattle.tl_monitor.specs.code.Blocks.{value_found, value_in}
use Rattle.tl_monitor.proofs.OpenBlocks.{open-none, value-in, value-same}
use Rattle.tl_monitor.proofs.blocks.make_room_in.Goals as goal

pub returns-then-open_of-eq0-clause-changed : goal.returns-then-open_of-eq0-clause-changed
returns-then-open_of-eq0-clause-changed c = λ k.
    let empty = open-none c.args.value (sym c.open_of.ensures.counted ∙ c.if-open_of-eq0.true) in
    rw empty (grind (arith, common_steps, c.remove.ensures.updates.0 k))

pub returns-in-Some-clause-changed : goal.returns-in-Some-clause-changed
returns-in-Some-clause-changed c = λ k.
    value-in c.args.tree.now.entries c.args.block (Some c.args.value) k (search rules)

pub returns-in-Ok-clause-changed : goal.returns-in-Ok-clause-changed
returns-in-Ok-clause-changed c = λ k.
    let here : Some c.args.value ≡ value_found c.insert.new.self.entries c.args.block = sym c.in-Ok.ensures.updates.1 in
    ap (λ es. value_in es k) (value-same c.insert.new.self.entries c.args.block (Some c.args.value) here) ∙ grind
    (arith, common_steps, c.in-Ok.ensures.updates.0 k)
