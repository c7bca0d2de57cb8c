use Rattle.std.proofs.Common.{ap, refl}
use Rattle.std.specs.Prelude.{Some}
use Rattle.tl_wide.proofs.Numbering.{ack-e, handed-on, sink-own, skips-e}
use Rattle.tl_wide.specs.declared.beat.WideBeat.TheVariants as wide
use Rattle.tl_wide.proofs.narrow.Narrower.acknowledgement.Goals as goal

pub returns : goal.returns
returns c = λ w x t ek f.
    handed-on c.args.link (wide.E x) t _ c.acknowledgement.result _
    (c.acknowledgement.ensures w (wide.E x) t refl refl (ap Some ek) f.0) f.1
    (λ l s. skips-e c.args.link l x t s) (λ n h. ack-e c.args.link x _ n (sink-own _ c.args.sink x.sink n ek h))
