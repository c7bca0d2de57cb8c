use Rattle.std.proofs.Common.{ap, arith, refl, rules, ◌∙◌}
use Rattle.tl_monitor.specs.code.Blocks.{block_or_empty, entries_of, open_of, with_seen}
use Rattle.tl_monitor.proofs.OpenBlocks.{all-before, all-changed, all-le, entries-long, own-said, set-said}
use Rattle.tl_monitor.proofs.blocks.Blocks.set.Goals as goal

pub overflow_sub-self : goal.overflow_sub-self
overflow_sub-self c =
    let table = with_seen (entries_of c.self.inside.trees) c.self.inside.last c.self.inside.seen in
    let one = all-before table c.args.block (omega arith) in
    let own = own-said (entries_of c.turn-old.new.trees) table c.args.block c.args.block c.turn-old.result
    (entries-long c.turn-old.new.trees c.args.block c.turn-old.ensures.long) c.turn-old.ensures.stands
    c.turn-old.ensures.same refl in
    let before = c.open_of.ensures.counted ∙ ap open_of (c.or_empty.ensures ∙ ap block_or_empty c.as_ref.ensures.value ∙ own) in
    omega (arith, one, before, c.self.invariant.0)

pub overflow_add-self : goal.overflow_add-self
overflow_add-self c =
    let few = all-le (with_seen (entries_of c.self.inside.trees) c.self.inside.last c.self.inside.seen) in
    omega (arith, few, c.self.invariant.0, c.open_of-2.ensures.few)

pub returns-clause-changed : goal.returns-clause-changed
returns-clause-changed c =
    set-said (entries_of c.turn-old.new.trees) (with_seen (entries_of c.make_room.new.trees) c.args.block
    c.in_ok-self-inside.field-0) c.args.self.now c.args.block c.args.value c.turn-old.result
    (entries-long c.turn-old.new.trees c.args.block c.turn-old.ensures.long) c.turn-old.ensures.stands
    (c.turn-old.ensures.same ∙ search rules) c.in_ok-self-inside.ensures.changed

pub invariant_of-self-2 : goal.invariant_of-self-2
invariant_of-self-2 c =
    let table = with_seen (entries_of c.self.inside.trees) c.self.inside.last c.self.inside.seen in
    let long = entries-long c.turn-old.new.trees c.args.block c.turn-old.ensures.long in
    let own = own-said (entries_of c.turn-old.new.trees) table c.args.block c.args.block c.turn-old.result long
    c.turn-old.ensures.stands c.turn-old.ensures.same refl in
    let before = c.open_of.ensures.counted ∙ ap open_of (c.or_empty.ensures ∙ ap block_or_empty c.as_ref.ensures.value ∙ own) in
    let new = with_seen (entries_of c.make_room.new.trees) c.args.block c.in_ok-self-inside.field-0 in
    let changed =
    set-said (entries_of c.turn-old.new.trees) new table c.args.block c.args.value c.turn-old.result long
    c.turn-old.ensures.stands c.turn-old.ensures.same c.in_ok-self-inside.ensures.changed in (
      all-changed table new c.args.block c.args.value c.self.inside.len c.open_of.result c.open_of-2.result
          (omega arith) changed c.self.invariant.0 before c.open_of-2.ensures.counted,
      c.make_room.ensures.open,
      c.in_ok-self-inside.ensures.stands,
      c.make_room.ensures.long,
    )
