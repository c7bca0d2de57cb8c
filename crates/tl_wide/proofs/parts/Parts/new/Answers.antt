use Rattle.tl_wide.proofs.Cut.{all-left}
use Rattle.tl_wide.proofs.parts.Parts.new.Goals as goal

pub returns : goal.returns
returns g c = λ p. all-left {p = p} c.args.beat.now c.args.named c.has_stray.result
    (rw (c.reach_of.ensures.size, c.reach_of.ensures.address, c.reach_of.ensures.mask) at c.has_stray.ensures)
