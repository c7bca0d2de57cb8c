use Rattle.std.proofs.Common.{◌∙◌, ◌∷◌, ap, refl}
use Rattle.std.proofs.lemmas.Result.{err_from_is_err_and}
use Rattle.std.specs.Prelude.{Some}
use Rattle.tl_wide.proofs.Asking.{asked-is, asks-kept}
use Rattle.tl_wide.proofs.Names.{among-sources}
use Rattle.tl_wide.proofs.Numbering.{named-none, named-some, response-d, response-own, skips-d}
use Rattle.tl_wide.specs.code.Narrowing.{ResponseNamed}
use Rattle.tl_wide.specs.declared.beat.WideBeat.TheVariants as wide
use Rattle.tl_wide.proofs.narrow.Narrower.response.Goals as goal

pub returns-in_err-named : goal.returns-in_err-named
returns-in_err-named c = λ w x t es ek f.
    let p = err_from_is_err_and c.from_residual.result c.from_residual.ensures.1 in
    rw p.1 (c.in_err-named.ensures w (wide.D x) t refl (ap Some es) (ap Some ek) f.0, f.1)

pub returns-in_default : goal.returns-in_default
returns-in_default c = λ w x t es ek f.
    let h = named-none c.args.link (wide.D x) t
    (ResponseNamed c.args.link c.args.source c.args.sink ((c.args.link, wide.D x) ∷ t)) c.in_ok-named.field-0
    c.response.new.self c.in_default.is
    (c.in_ok-named.ensures w (wide.D x) t refl (ap Some es) (ap Some ek) f.0) in
    (h.0, (h.1, f.1))

pub returns : goal.returns
returns c = λ w x t es ek f.
    let h = named-some c.args.link (wide.D x) t
    (ResponseNamed c.args.link c.args.source c.args.sink ((c.args.link, wide.D x) ∷ t)) c.in_ok-named.field-0
    c.in-Some.named c.response.new.self c.in-Some.is
    (c.in_ok-named.ensures w (wide.D x) t refl (ap Some es) (ap Some ek) f.0) in
    let own = response-own c.args.link ((c.args.link, wide.D x) ∷ t) c.args.source x.source c.args.sink x.sink
    c.in-Some.named es ek h.1 in
    let asks = asks-kept c.args.link (wide.D x) t c.args.self.now.asked.items (h.2.few_sources c.args.link.0)
    (λ l s. skips-d c.args.link l x t s) f.1 in
    let found = rw c.key_of.ensures at c.asked_at-asked.ensures in (
      h.0,
      response-d c.args.link x _ (record {
        source = c.in-Some.named.source;
        sink = c.in-Some.named.sink;
        address = c.in-Some.named.address;
        asked = c.asked_at-asked.result;
      }) own.0 own.1 (found ∙ asked-is c.args.self.now.asked.items c.args.link x.source c.in-Some.named.source
          ((c.args.link, wide.D x) ∷ t) asks (among-sources c.args.link (wide.D x) t x.source refl) own.0),
      (h.2, asks),
    )
