use Rattle.std.proofs.Common.{ap, ◌∙◌, ◌||◌}
use Rattle.tl_bytes.{specs.code.Tellings.telling_at, specs.statement.Bytes.could_be, specs.statement.Bytes.told_as}
use Rattle.tl_bytes.{specs.statement.Known.tellings_at, proofs.Offered.told-either}
use Rattle.tl_bytes.{proofs.Offered.found-all}
use Rattle.tl_bytes.proofs.read_bytes.ReadBytes.find.Goals as goal

pub returns : goal.returns
returns c = λ at v lt.
    let last = telling_at c.args.block.now.latest at in
    found-all _ _ _ _ _ _ _ _ (c.in_ok-find_latest.ensures at v lt)
    (c.in_ok-offer_earlier.ensures at v) (c.in_ok-offer_writes.ensures at v lt)
    (ap (λ l. could_be v last.value || told_as v (tellings_at at l)) c.as_slice.ensures.value
    ∙ told-either v last (tellings_at at c.args.block.now.earlier.items))
