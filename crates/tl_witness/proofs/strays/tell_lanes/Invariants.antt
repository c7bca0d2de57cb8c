use Rattle.std.proofs.Common.{◌≡◌, ◌≤◌, ◌++◌, ◌+◌, ◌*◌, drop}
use Rattle.tl_rules.specs.statement.History.{block_at}
use Rattle.tl_memory.specs.code.Expected.{allows}
use Rattle.tl_witness.specs.code.Strays.{told_of}
use Rattle.tl_witness.specs.statement.Strays.{strays_text}
use Rattle.tl_witness.proofs.strays.tell_lanes.Given as goal

abbrev pub invariant-loop-lane : goal.invariant-loop-lane
invariant-loop-lane g l = record {
  told : l.out.items ++ strays_text (g.X.Places.names l.places) (allows l.expected) (told_of l.judge) l.count
      (64 * block_at l.expected.address + (l.first + l.lane)) (drop l.lane l.lanes)
      ≡ l.initial.out.items ++ strays_text (g.X.Places.names l.places) (allows l.expected) (told_of l.judge) 0
      (64 * block_at l.expected.address + l.first) l.lanes;
  few : l.count ≤ l.lane;
}
