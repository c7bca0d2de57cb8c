use Rattle.std.proofs.Common.{◌≡◌, take}
use Rattle.std.specs.Prelude.{map}
use Rattle.tl_cover.specs.code.Covering.{AreUnused}
use Rattle.tl_cover.proofs.covering.new_pasts.Given as goal

abbrev pub invariant-loop-level : goal.invariant-loop-level
invariant-loop-level l = record {
  unused : AreUnused l.pasts.items;
  levels : map (λ p. p.level) l.pasts.items ≡ take l.level-index l.levels;
}
