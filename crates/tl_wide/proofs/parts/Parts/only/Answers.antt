use Rattle.std.proofs.Common.{rules}
use Rattle.tl_wide.proofs.OnePart.{only-none, only-one}
use Rattle.tl_wide.proofs.parts.Parts.only.Goals as goal

pub returns-then-self-gt0 : goal.returns-then-self-gt0
returns-then-self-gt0 g c = only-none c.args.beat.now c.args.self.now c.requires.width c.requires.few (search rules)

pub returns : goal.returns
returns g c =
    only-one c.args.beat.now c.args.self.now c.piece.result c.requires.width c.requires.few (search rules)
    (rw (c.shown_mask-mask.ensures, c.reach_of.ensures.mask) at c.piece.ensures)
