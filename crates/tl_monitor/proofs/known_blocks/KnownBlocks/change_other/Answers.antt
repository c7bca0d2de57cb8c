use Rattle.std.proofs.Common.{◌≡◌, ◌<◌, arith, sym, ◌∙◌, rules}
use Rattle.tl_rules.specs.code.Tables.{empty_block}
use Rattle.tl_monitor.specs.code.Blocks.{block_in, open_of}
use Rattle.tl_monitor.specs.code.KnownBlocks.{known_in}
use Rattle.tl_monitor.proofs.KnownBlocks.{comes-none, on-err, other-none}
use Rattle.tl_monitor.proofs.OpenBlocks.{open-none}
use Rattle.tl_monitor.proofs.known_blocks.KnownBlocks.change_other.Goals as goal

pub returns-in_err-add-clause-new : goal.returns-in_err-add-clause-new
returns-in_err-add-clause-new g c =
    let none : block_in c.self.inside.stored c.args.block ≡ empty_block = sym c.get.ensures ∙ open-none
    c.get.result.now (omega (arith, c.open_of-else-open_of-eq0.ensures.counted, c.if-open_of-gt0.false)) in
    let other : known_in c.args.self.now c.args.block ≡ empty_block =
    other-none c.args.self.now c.self.inside.stored c.self.inside.newest c.args.block c.self.inside.value (search rules)
    (search rules) none in
    let same : c.get.result.now ≡ known_in c.args.self.now c.args.block = c.get.ensures ∙ none ∙ sym other in
    let some : 0 < open_of c.change_block.new.block =
    omega (arith, c.open_of.ensures.counted, c.if-open_of-eq0.false) in
    on-err c.from_residual.result (other, rw (← same, ← c.change_block.ensures) some)

pub invariant_of-self-2 : goal.invariant_of-self-2
invariant_of-self-2 g c =
    let none : block_in c.self.inside.stored c.args.block ≡ empty_block = sym c.get.ensures ∙ open-none
    c.get.result.now (omega (arith, c.open_of-else-open_of-eq0.ensures.counted, c.if-open_of-gt0.false)) in (
      comes-none c.self.inside.stored c.add.new.self c.self.inside.newest c.args.block c.self.inside.value
          c.in_ok-add.ensures.changed (search rules) none,
      omega arith,
    )
