use Rattle.std.proofs.Common.{◌≡◌, ◌<◌, ◌-◌, ◌^◌, drop, length}
use Rattle.tl_schedule.specs.code.FieldReading.{number_in}
use Rattle.tl_schedule.proofs.field.number.Given as goal

abbrev pub invariant-loop-i : goal.invariant-loop-i
invariant-loop-i l = record {
  same : number_in l.number (length l.field - l.i) (drop l.i l.field) ≡ number_in 0 (length l.field) l.field;
  below : l.number < 16 ^ l.i;
}
