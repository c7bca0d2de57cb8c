use Rattle.std.proofs.Common.{◌≡◌, ◌<◌, ◌-◌, ◌^◌}
use Rattle.tl_beat.specs.code.FromLeft.{digits_at}
use Rattle.tl_beat.proofs.read.field.digits.Given as goal

abbrev pub invariant-loop : goal.invariant-loop
invariant-loop l = record {
  same : digits_at l.number (l.count - l.counter) l.rest ≡ digits_at 0 l.count l.bytes;
  below : l.number < 16 ^ l.counter;
}
