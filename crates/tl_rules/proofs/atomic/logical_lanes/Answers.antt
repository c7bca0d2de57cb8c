use Rattle.std.specs.Prelude.{bit_and, bit_or, bit_xor}
use Rattle.tl_rules.proofs.Numbers.{lanes_swapped, lanes_written}
use Rattle.tl_rules.proofs.atomic.logical_lanes.Goals as goal
use Rattle.tl_rules.proofs.atomic.logical_lanes.Goals.{in-Xor, in-Or, in-And, in-Swap}

pub returns : goal.returns
returns g c = elim c.match-operation.branch [
  | in-Xor w ↦ rw w.in-Xor.is (lanes_written bit_xor g.row.N _ _ _ c.requires.count c.requires.same w.new-is)
  | in-Or w ↦ rw w.in-Or.is (lanes_written bit_or g.row.N _ _ _ c.requires.count c.requires.same w.new-is)
  | in-And w ↦ rw w.in-And.is (lanes_written bit_and g.row.N _ _ _ c.requires.count c.requires.same w.new-is)
  | in-Swap w ↦ rw w.in-Swap.is (lanes_swapped g.row.N _ _ _ c.requires.count c.requires.same w.new-is)
]
