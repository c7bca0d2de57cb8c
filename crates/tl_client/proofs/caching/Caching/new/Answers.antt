use Rattle.std.proofs.Common.{refl}
use Rattle.tl_params.proofs.Refusals.{none_broken}
use Rattle.tl_client.proofs.caching_client.New.{knows-new}
use Rattle.tl_client.proofs.caching.Caching.new.Goals as goal

pub returns : goal.returns
returns g c = (
  none_broken _ c.in_ok-check.ensures,
  knows-new _ refl c.new-4.ensures refl c.in_ok-new.ensures.held
      c.in_ok-new.ensures.copies c.in_ok-new.ensures.waiting c.new-2.ensures c.new-3.ensures,
  refl,
)
