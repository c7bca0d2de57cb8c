use Rattle.std.proofs.Common.{refl, ◌∙◌}
use Rattle.tl_bytes.proofs.Told.{copy-known}
use Rattle.tl_bytes.proofs.block_bytes.BlockBytes.copy.Goals as goal

pub returns : goal.returns
returns c = λ w n block t k. copy-known c.args.self.now
    (record { latest = c.in_ok-latest.latest; earlier = c.in_ok-earlier.earlier; last = c.args.self.now.last })
    n block t c.in_ok-latest.ensures
    (c.in_ok-earlier.ensures.items ∙ c.as_slice.ensures.value) refl k
