use Rattle.std.proofs.Common.{◌≡◌, ◌-◌, ◌/◌}
use Rattle.std.specs.Prelude.{filter}
use Rattle.tl_wide.specs.statement.Pieces.{from}
use Rattle.tl_wide.specs.statement.Parts.{common_mask, reaches_part}
use Rattle.tl_wide.proofs.parts.common_mask.Given as goal

abbrev pub invariant-loop-i : goal.invariant-loop-i
invariant-loop-i g l = record {
  counted : l.count ≡ g.row.W / g.row.P;
  common : l.common ≡ common_mask g.row.W (filter (reaches_part g.row.W l.reach.size l.reach.address)
      (from (l.count - l.i) l.i)) l.reach.mask;
}
