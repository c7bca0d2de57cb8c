use Rattle.std.proofs.Common.{rules}
use Rattle.tl_rules.proofs.Places.{over_zeros_to_end, moved_fits}
use Rattle.tl_rules.proofs.place.move_up.Goals as goal

pub returns : goal.returns
returns c =
    let value = over_zeros_to_end c.args.by c.args.bytes.now _ c.write_at.new.bytes c.requires c.told-bytes
    (search rules) c.write_at.ensures in
    record {
      value = value;
      len = c.write_at.array_long;
      fits =
          moved_fits c.args.by c.args.bytes.now c.write_at.new.bytes c.fits-bytes value;
      long = c.told-bytes;
    }
