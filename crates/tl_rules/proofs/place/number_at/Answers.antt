use Rattle.std.proofs.Common.{◌≡◌, ◌+◌, ◌-◌, get_or, refl, arith}
use Rattle.tl_rules.proofs.Numbers.{number_lt}
use Rattle.tl_rules.proofs.Places.{low_bytes}
use Rattle.tl_rules.proofs.place.number_at.Goals as goal

pub returns : goal.returns
returns c =
    let count : c.args.at + c.args.count - c.args.at ≡ c.args.count = omega arith in
    let value = low_bytes c.args.bytes.now _ c.write_low.new.eight c.args.at c.args.count c.from_le_bytes.result
    c.requires.count (omega arith)
    (rw count refl) c.write_low.ensures c.from_le_bytes.ensures in
    record {
      value = value;
      below =
          rw value (number_lt (λ i. get_or c.args.bytes.now i 0) c.args.at c.args.count
          (λ i lt. c.fits-bytes (c.args.at + i)));
    }
