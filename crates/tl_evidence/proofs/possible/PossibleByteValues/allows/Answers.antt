use Rattle.std.proofs.Common.{◌≡◌, ◌+◌, ◌-◌, ◌*◌, ◌∙◌, ap, arith}
use Rattle.tl_bytes.specs.statement.Bytes.{told_as}
use Rattle.tl_bytes.specs.statement.Known.{tellings_at}
use Rattle.tl_evidence.proofs.possible.PossibleByteValues.allows.Goals as goal

pub returns : goal.returns
returns c =
    let p = c.args.self.now in
    let at : c.args.place ≡ 64 * p.block + c.args.place - 64 * p.block = omega arith in
    rw c.as_slice.ensures.value at c.is_told_as.ensures
    ∙ ap (λ i. told_as c.args.value (tellings_at i p.set.now.values.items)) at
