use Rattle.std.proofs.Common.{ap, refl}
use Rattle.std.specs.Prelude.{Some}
use Rattle.tl_wide.proofs.Numbering.{block-own, handed-on, message-b, message-c, message-own, skips-b, skips-c}
use Rattle.tl_wide.specs.declared.beat.WideBeat.TheVariants as wide
use Rattle.tl_wide.proofs.narrow.Narrower.message.Goals as goal

pub returns-clause-b : goal.returns-clause-b
returns-clause-b c = λ w x t ea es f.
    handed-on c.args.link (wide.B x) t _ c.message.result _
    (c.message.ensures w (wide.B x) t (block-own c.args.address x.address ea) (ap Some es) refl f.0) f.1
    (λ l s. skips-b c.args.link l x t s) (λ n h.
    let own = message-own c.args.link _ c.args.address x.address c.args.source x.source n ea es h in
    message-b c.args.link x _ n own.0 own.1)

pub returns-clause-c : goal.returns-clause-c
returns-clause-c c = λ w x t ea es f.
    handed-on c.args.link (wide.C x) t _ c.message.result _
    (c.message.ensures w (wide.C x) t (block-own c.args.address x.address ea) (ap Some es) refl f.0) f.1
    (λ l s. skips-c c.args.link l x t s) (λ n h.
    let own = message-own c.args.link _ c.args.address x.address c.args.source x.source n ea es h in
    message-c c.args.link x _ n own.0 own.1)
