use Rattle.std.proofs.Common.{◌≡◌}
use Rattle.tl_params.specs.declared.config.Config.{Config}
use Rattle.tl_random.proofs.Played.{Tries}
use Rattle.tl_random.proofs.generator.Generator.append_line.Given as goal

abbrev pub invariant-loop : goal.invariant-loop
invariant-loop g l = record {
  out_is : l.out.items ≡ l.fn.out.items;
  tries : (config : Config) → Tries config l.fn.self.world l.self.world;
}
