use Rattle.std.proofs.Common.{arith, ◌∙◌, ap, ◌≡◌}
use Rattle.tl_monitor.specs.statement.Count.{one_if}
use Rattle.std.specs.Prelude.{is_some}
use Rattle.tl_monitor.proofs.Counts.{counted-before, counted-set, counted-le, one-read, byte-one, byte-le}
use Rattle.tl_monitor.proofs.byte_table.ByteTable.set.Goals as goal

pub overflow_sub-self : goal.overflow_sub-self
overflow_sub-self g c =
    let one = one-read c.self.inside.values c.from-slot.result c.from-before.result _ c.is_some.result (omega arith)
    c.is_some.ensures c.from-before.ensures in
    counted-before c.self.inside.values c.from-slot.result c.self.inside.len c.from-before.result (omega arith)
    c.self.invariant one

pub overflow_add-self : goal.overflow_add-self
overflow_add-self g c =
    let few = counted-le c.self.inside.values in
    let after = byte-le c.is_some-2.result in
    omega (arith, few, after, c.self.invariant, c.from-after.ensures)

pub invariant_of-self : goal.invariant_of-self
invariant_of-self g c =
    let one = one-read c.self.inside.values c.from-slot.result c.from-before.result _ c.is_some.result (omega arith)
    c.is_some.ensures c.from-before.ensures in
    let after : c.from-after.result ≡ one_if (is_some c.args.value) =
    c.from-after.ensures ∙ byte-one c.is_some-2.result ∙ ap one_if c.is_some-2.ensures in
    counted-set c.self.inside.values c.from-slot.result c.self.inside.len c.from-before.result c.from-after.result
    c.args.value (omega arith) (omega arith) c.self.invariant one after
