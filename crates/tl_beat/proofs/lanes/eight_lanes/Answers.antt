use Rattle.std.proofs.Common.{rules, ◌≡◌, length}
use Rattle.tl_beat.proofs.VectorDigits.{follow_pass}
use Rattle.tl_beat.proofs.lanes.eight_lanes.Goals as goal

pub returns : goal.returns
returns c =
    let same : c.in_ok-field.field.now ≡ c.args.field.now = search rules in
    let long : length c.in_ok-field.field.now ≡ 16 = search rules in
    rw (← same) (c.lanes_of_digits.ensures (follow_pass 16 c.in_ok-field.field.now long (search rules)))
