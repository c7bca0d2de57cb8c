use Rattle.std.proofs.Common.{◌≡◌, ◌≤◌, length}
use Rattle.tl_schedule.specs.code.HeaderReading.{decimal_from}
use Rattle.tl_schedule.proofs.header.digits.Given as goal

abbrev pub invariant-loop-d : goal.invariant-loop-d
invariant-loop-d l = record {
  same : decimal_from 0 l.bytes ≡ decimal_from l.number l.rest;
  within : l.number ≤ l.limit;
}

abbrev pub decreases-loop-d : goal.decreases-loop-d
decreases-loop-d l = length l.rest
