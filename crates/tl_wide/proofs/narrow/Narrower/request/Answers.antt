use Rattle.std.proofs.Common.{◌∷◌, ap, arith, refl}
use Rattle.std.proofs.lemmas.Result.{err_from_is_err_and}
use Rattle.std.specs.Prelude.{Some}
use Rattle.tl_wide.proofs.Asking.{asks-more, kept-at, same-asked}
use Rattle.tl_wide.proofs.Numbering.{block-own, message-a, message-own, named-none, named-some}
use Rattle.tl_wide.specs.code.Narrowing.{MessageNamed}
use Rattle.tl_wide.specs.declared.beat.WideBeat.TheVariants as wide
use Rattle.tl_wide.proofs.narrow.Narrower.request.Goals as goal

pub returns-in_err-named : goal.returns-in_err-named
returns-in_err-named c = λ w x t ea es f.
    let p = err_from_is_err_and c.from_residual-in_err-named.result c.from_residual-in_err-named.ensures.1 in
    rw p.1 (
      c.in_err-named.ensures w (wide.A x) t (block-own c.args.address x.address ea) (ap Some es) refl f.0,
      same-asked c.args.self.now.asked.items c.make_room.new.asked.items t c.make_room.ensures.same f.1,
    )

pub returns-in_default : goal.returns-in_default
returns-in_default c = λ w x t ea es f.
    let h = named-none c.args.link (wide.A x) t
    (MessageNamed c.args.link c.args.address c.args.source ((c.args.link, wide.A x) ∷ t)) c.in_ok-named.field-0
    c.message.new.self c.in_default.is (c.in_ok-named.ensures w (wide.A x) t (block-own c.args.address x.address ea)
    (ap Some es) refl f.0) in
    (h.0, (h.1, same-asked c.args.self.now.asked.items c.make_room.new.asked.items t c.make_room.ensures.same f.1))

pub returns : goal.returns
returns c = λ w x t ea es f.
    let h = named-some c.args.link (wide.A x) t
    (MessageNamed c.args.link c.args.address c.args.source ((c.args.link, wide.A x) ∷ t)) c.in_ok-named.field-0
    c.in-Some.named c.message.new.self c.in-Some.is (c.in_ok-named.ensures w (wide.A x) t
    (block-own c.args.address x.address ea) (ap Some es) refl f.0) in
    let own = message-own c.args.link ((c.args.link, wide.A x) ∷ t) c.args.address x.address c.args.source x.source
    c.in-Some.named ea es h.1 in (
      h.0,
      message-a c.args.link x _ c.in-Some.named own.0 own.1,
      (
        h.2,
        asks-more c.args.link x t c.args.self.now.asked.items c.keep.new.asked.items
            c.in-Some.named.source h.2.few_sources own.0
            (rw ea (kept-at c.args.self.now.asked.items c.make_room.new.asked.items c.keep.new.asked.items c.args.link
            c.in-Some.named.source c.key_of.result c.args.address c.make_room.ensures.same c.key_of.ensures
            (omega (arith, c.key_of.ensures, c.in_ok-make_room.ensures)) c.keep.ensures))
            f.1,
      ),
    )
