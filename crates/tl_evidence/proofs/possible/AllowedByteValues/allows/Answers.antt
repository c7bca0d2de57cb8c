use Rattle.std.proofs.Common.{◌≡◌, ◌+◌, ◌-◌, ◌*◌, ◌∙◌, ap, arith, sym}
use Rattle.std.specs.Prelude.{slice_get}
use Rattle.tl_evidence.specs.code.Following.{is_in_set}
use Rattle.tl_evidence.proofs.possible.AllowedByteValues.allows.Goals as goal

pub returns-in-Some : goal.returns-in-Some
returns-in-Some c =
    let p = c.args.self.now in
    let at : c.from.result ≡ 64 * p.possible.block + c.args.place - (64 * p.possible.block + p.first) =
    omega (arith, c.from.ensures, c.saturating_sub.ensures) in
    c.has.ensures ∙ ap (λ o. is_in_set o c.args.value) (sym c.in-Some.is ∙ c.set_at.ensures)
    ∙ ap (λ i. is_in_set (slice_get p.sets.now i) c.args.value) at

pub returns-in-None : goal.returns-in-None
returns-in-None c =
    let p = c.args.self.now in
    let at : c.from.result ≡ 64 * p.possible.block + c.args.place - (64 * p.possible.block + p.first) =
    omega (arith, c.from.ensures, c.saturating_sub.ensures) in
    ap (λ o. is_in_set o c.args.value) (sym c.in-None.is ∙ c.set_at.ensures)
    ∙ ap (λ i. is_in_set (slice_get p.sets.now i) c.args.value) at
