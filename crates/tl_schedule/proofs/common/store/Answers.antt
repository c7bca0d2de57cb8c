use Rattle.std.proofs.Common.{sym}
use Rattle.tl_schedule.proofs.Commons.{store_fields}
use Rattle.tl_schedule.proofs.common.store.Goals as goal

pub returns : goal.returns
returns c =
    store_fields c.args.client.now c.args.address.now c.args.value.now c.in_ok-client.field-0 c.in_ok-address.field-0 _
    (sym c.in_ok-client.ensures.value) (sym c.in_ok-address.ensures.value) (sym c.in_ok-value.ensures.value)
