-- What the links carried is beside the manager's end, after whatever beats it was offered.
use Rattle.std.proofs.Common.{ℕ, List, [], ◌∷◌}
use Rattle.tl_beat.specs.statement.Width.{IsWidth}
use Rattle.tl_params.specs.declared.config.Config.{Config}
use Rattle.tl_manager.proofs.calls.Keeping.{fresh-kept}
use Rattle.tl_manager.specs.code.Kept.{IsKept}
use Rattle.tl_partner.specs.declared.terms.Terms.{Terms}
use Rattle.tl_partner.specs.laws.Carried.{IsCarried}
use Rattle.tl_partner.specs.laws.Offers.{AreTyped, Offer}
unfoldable use Rattle.tl_partner.specs.laws.Offers.{after_offers}
use Rattle.tl_partner.proofs.AnyBeat.{carried-under, fresh-carried}
use Rattle.tl_partner.proofs.Keeping.{kept-under}

pub reached : {w : ℕ} (terms : Terms) (config : Config) (offers : List (Offer w)) → IsWidth w → AreTyped offers
    → IsCarried terms config (after_offers terms config offers).0 (after_offers terms config offers).1
    × IsKept config (after_offers terms config offers).1.manager
unfolding after_offers
reached terms config [] width typed = (fresh-carried terms config, fresh-kept config)
reached terms config (x ∷ offers) width typed =
    let before = reached terms config offers width typed.1 in (
      carried-under terms config x.link x.channel x.beat (after_offers terms config offers).0
          (after_offers terms config offers).1 width typed.0 before.1 before.0,
      kept-under terms config x.link x.channel x.beat (after_offers terms config offers).1 width typed.0 before.1,
    )
