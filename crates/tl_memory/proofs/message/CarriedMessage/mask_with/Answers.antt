use Rattle.std.proofs.Common.{arith, ap, suc, ◌∙◌, ◌+◌, ◌*◌, ◌^◌, ◌<◌, ◌≤◌, ◌≡◌}
use Rattle.std.specs.Prelude.{length}
use Rattle.tl_bytes.specs.statement.Bytes.{carried_mask}
use Rattle.tl_memory.specs.statement.Known.{mask_of}
use Rattle.tl_memory.proofs.messages.Masks.{added_below, no_mask, positive}
use Rattle.tl_memory.proofs.message.CarriedMessage.mask_with.Goals as goal

pub returns-in-A : goal.returns-in-A
unfolding carried_mask
returns-in-A g c = λ burst k room.
    let beats : c.count.result ≡ length burst = c.count.ensures g.row.W burst k.bytes_are in
    let low : c.args.self.now.mask < 2 ^ (g.row.W * c.count.result) = rw beats k.mask_below in
    let small : c.in-A.x.mask < 2 ^ g.row.W = omega (arith, ap mask_of c.in-A.is, room.1) in
    let fits : g.row.W * c.count.result + g.row.W ≤ 64 = rw beats room.0 in
    let is = c.with_mask.ensures fits small low
    ∙ ap (λ n. c.args.self.now.mask + c.in-A.x.mask * 2 ^ (g.row.W * n)) beats in (
      rw c.in-A.is (is ∙ ap (λ m. m + c.in-A.x.mask * 2 ^ (g.row.W * length burst)) k.mask_is),
      rw is (added_below g.row.W (length burst) c.args.self.now.mask c.in-A.x.mask k.mask_below small room.0),
    )

pub returns-in_default : goal.returns-in_default
returns-in_default g c = λ burst k room. (
  no_mask c.args.beat.now burst c.in_default.not-A,
  positive (g.row.W * suc (length burst)),
)
