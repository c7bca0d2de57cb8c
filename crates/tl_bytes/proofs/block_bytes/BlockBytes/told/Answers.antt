use Rattle.std.proofs.Common.{rules, ◌≡◌, ◌+◌}
use Rattle.tl_bytes.proofs.Told.{told-is}
use Rattle.tl_bytes.proofs.block_bytes.BlockBytes.told.Goals as goal

pub returns : goal.returns
returns c = λ w n block x t told now carried.
    let when : c.in-Some.last ≡ c.args.moment + 1 = search rules in
    told-is c.args.values.now c.args.moment n block
    (record { latest = c.told.result; earlier = c.new.result; last = c.in-Some.last }) x t
    (λ p lt. c.told.ensures p) c.new.ensures.items when told now carried
