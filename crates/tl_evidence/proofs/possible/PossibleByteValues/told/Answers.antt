use Rattle.std.proofs.Common.{◌≡◌, ◌+◌, ◌-◌, ◌*◌, ◌∙◌, ap, arith}
use Rattle.tl_evidence.specs.code.Following.{set_in}
use Rattle.tl_evidence.proofs.possible.PossibleByteValues.told.Goals as goal

pub returns : goal.returns
returns c =
    let p = c.args.self.now in
    let at : c.args.place ≡ 64 * p.block + c.args.place - 64 * p.block = omega arith in
    c.set_at.ensures ∙ ap (λ i. set_in p.set.now i c.args.value) at
