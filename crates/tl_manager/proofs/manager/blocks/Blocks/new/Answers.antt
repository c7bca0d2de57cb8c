use Rattle.std.{proofs.Common.rules, proofs.Common.refl, specs.Prelude.replicate}
use Rattle.tl_manager.proofs.blocks.Blocks.{zero-blocks}
use Rattle.tl_manager.proofs.manager.blocks.Blocks.new.Goals as goal

pub returns-clause-zero : goal.returns-clause-zero
returns-clause-zero c = zero-blocks c.resize.new.self.items c.args.count (replicate 64 0) refl (search rules)
