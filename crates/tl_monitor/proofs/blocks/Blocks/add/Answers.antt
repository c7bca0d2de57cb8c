use Rattle.std.proofs.Common.{◌≡◌, arith, sym, ◌∙◌, rules}
use Rattle.tl_rules.specs.code.Tables.{empty_block}
use Rattle.tl_monitor.specs.code.Blocks.{block_in, entries_of, with_seen}
use Rattle.tl_monitor.proofs.KnownBlocks.{all-added, none-said}
use Rattle.tl_monitor.proofs.OpenBlocks.{all-le}
use Rattle.tl_monitor.proofs.blocks.Blocks.add.Goals as goal

pub overflow_add-self : goal.overflow_add-self
overflow_add-self c =
    let few = all-le (with_seen (entries_of c.self.inside.trees) c.self.inside.last c.self.inside.seen) in
    omega (arith, few, c.self.invariant.0, c.open_of-open.ensures.few)

pub returns-then-open-eq0-clause-changed : goal.returns-then-open-eq0-clause-changed
returns-then-open-eq0-clause-changed c =
    none-said c.args.self.now c.args.block c.args.value c.requires (sym c.open_of-open.ensures.counted ∙ c.if-open-eq0.true)

pub invariant_of-self-2 : goal.invariant_of-self-2
invariant_of-self-2 c =
    let table = with_seen (entries_of c.self.inside.trees) c.self.inside.last c.self.inside.seen in
    let none : block_in table c.args.block ≡ empty_block = search rules in (
      all-added table _ c.args.block c.args.value c.self.inside.len c.open_of-open.result (omega arith)
          c.in_ok-self-inside.ensures.changed c.self.invariant.0 none c.open_of-open.ensures.counted,
      c.insert.ensures.open,
      c.in_ok-self-inside.ensures.stands,
      c.insert.ensures.long,
    )
