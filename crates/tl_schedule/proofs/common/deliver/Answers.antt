use Rattle.std.proofs.Common.{[], ◌∷◌, sym}
use Rattle.tl_schedule.proofs.Commons.{deliver_fields}
use Rattle.tl_schedule.proofs.common.deliver.Goals as goal

pub returns : goal.returns
returns c =
    deliver_fields c.args.link.now (c.args.letter ∷ []) (record { 0 = c.in_ok-number.field-0 }) c.in_ok-channel.channel
    (sym c.in_ok-number.ensures.value) (sym c.in_ok-channel.ensures)
