use Rattle.std.proofs.Common.{rules}
use Rattle.tl_schedule.proofs.Commons.{body_spells, store_body}
use Rattle.tl_schedule.proofs.common.read_store.Goals as goal

pub returns-in_ok-address-in-32 : goal.returns-in_ok-address-in-32
returns-in_ok-address-in-32 c =
    let parts = c.in_ok-address-in-32 in
    body_spells c.store.result c.args.body.now _
    (store_body c.args.body.now parts.address.now parts.value.now c.in-32.len_at_least (search rules) (search rules)
    (search rules) (search rules) (search rules) (search rules) (search rules) (search rules) (search rules)
    parts.ensures)
    c.store.ensures
