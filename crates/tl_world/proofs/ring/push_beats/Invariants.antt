use Rattle.std.proofs.Common.{IsTrue, ◌≡◌, ◌+◌, ◌++◌, ◌≤◌, length}
use Rattle.tl_burst.specs.statement.Burst
use Rattle.tl_burst.specs.statement.Messages.{same_control}
use Rattle.tl_rules.specs.statement.Legality.{beats_from}
use Rattle.tl_world.proofs.ring.push_beats.Given as goal

abbrev pub invariant-loop-i : goal.invariant-loop-i
invariant-loop-i g l = record {
  capacity : l.beats.capacity ≡ l.fn.beats.capacity;
  items : length l.fn.beats.items + Burst.beats_of l.message ≤ l.fn.beats.capacity
      → l.beats.items ≡ l.fn.beats.items ++ beats_from l.message 0 l.i;
  first : l.i ≡ 0 → l.beat ≡ Burst.beat_of l.message l.i;
  same : IsTrue (same_control l.beat (Burst.beat_of l.message 0));
}
