use Rattle.std.proofs.Common.{◌≡◌, ap, sym, ◌∙◌, rules}
use Rattle.std.specs.Prelude.{None}
use Rattle.tl_monitor.specs.code.Blocks.{value_found}
use Rattle.tl_monitor.proofs.OpenBlocks.{value-absent}
use Rattle.tl_monitor.proofs.blocks.store.Goals as goal

pub returns-in_default-get_mut : goal.returns-in_default-get_mut
returns-in_default-get_mut c =
    let none : value_found c.args.tree.now.entries c.args.block ≡ None = search rules in
    ap (λ m. m.entries) c.get_mut.follows.holds-at-none ∙ sym (value-absent c.args.tree.now.entries c.args.block
    c.args.seen none)
