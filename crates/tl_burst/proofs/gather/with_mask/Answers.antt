use Rattle.std.proofs.Common.{rules}
use Rattle.tl_burst.proofs.Bits.{mask_here, mask_earlier, mask_below, mask_fits}
use Rattle.tl_burst.proofs.gather.with_mask.Goals as goal

pub overflow_add-result : goal.overflow_add-result
overflow_add-result g c =
    search (
      rules,
      mask_fits g.row.W c.args.i c.args.mask c.args.bits c.from.result c.from.ensures c.requires.blank
          c.requires.narrow c.requires.inside,
    )

pub returns-clause-here : goal.returns-clause-here
returns-clause-here g c = mask_here g.row.W c.args.i c.args.mask c.args.bits c.from.result c.from.ensures
    c.requires.blank c.requires.narrow c.requires.inside

pub returns-clause-earlier : goal.returns-clause-earlier
returns-clause-earlier g c = λ k lt. mask_earlier g.row.W c.args.i c.args.mask c.args.bits c.from.result k
    c.from.ensures c.requires.narrow c.requires.inside lt

pub returns-clause-blank : goal.returns-clause-blank
returns-clause-blank g c = mask_below g.row.W c.args.i c.args.mask c.args.bits c.from.result c.from.ensures
    c.requires.blank c.requires.narrow c.requires.inside
