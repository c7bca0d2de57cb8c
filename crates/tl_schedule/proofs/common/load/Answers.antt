use Rattle.std.proofs.Common.{[], ◌∷◌, sym}
use Rattle.tl_schedule.proofs.Commons.{load_fields}
use Rattle.tl_schedule.proofs.common.load.Goals as goal

pub returns : goal.returns
returns c =
    load_fields c.args.client.now (c.args.size ∷ []) c.args.address.now c.in_ok-client.field-0 c.in_ok-size.size
    c.in_ok-address.field-0 (sym c.in_ok-client.ensures.value) (sym c.in_ok-size.ensures.value)
    (sym c.in_ok-address.ensures.value)
