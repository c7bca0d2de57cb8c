use Rattle.std.proofs.Common.{◌≡◌, ◌-◌, ◌++◌, ℕ, List, [], length, replicate}
use Rattle.tl_schedule.specs.code.FieldReading.{pairs_in}
use Rattle.tl_schedule.proofs.field.data.Given as goal

abbrev pub invariant-loop-i : goal.invariant-loop-i
invariant-loop-i l = record {
  read : (done : List ℕ) × (length done ≡ l.i)
      × (l.bytes ≡ replicate (l.count - l.i) 0 ++ (done ++ replicate (64 - l.count) 0))
      × (pairs_in [] l.count l.field ≡ pairs_in done (l.count - l.i) l.rest);
  len : length l.bytes ≡ 64;
}
