use Rattle.std.proofs.Common.{[], ◌∷◌, sym}
use Rattle.tl_schedule.proofs.Gets.{get_fields}
use Rattle.tl_schedule.proofs.get.get.Goals as goal

pub returns : goal.returns
returns c =
    get_fields c.args.client.now (c.args.size ∷ []) c.args.address.now _ (sym c.in_ok-client.ensures.value)
    (sym c.in_ok-size.ensures.value) (sym c.in_ok-address.ensures.value)
