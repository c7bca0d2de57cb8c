use Rattle.tl_partner.specs.laws.Offers.{after_offers}
use Rattle.tl_partner.proofs.AnyRefusal.{names-under}
use Rattle.tl_partner.proofs.Histories.{reached}
use Rattle.tl_partner.proofs.law.names_the_first_rule.Goals as goal

pub returns-clause-step : goal.returns-clause-step
returns-clause-step g c = λ terms config link ch x t e typed kept carried.
    names-under terms config link ch x t e c.requires typed kept carried

pub returns-clause-history : goal.returns-clause-history
returns-clause-history g c = λ terms config offers x typed typed_x.
    let so = reached terms config offers c.requires typed in
    names-under terms config x.link x.channel x.beat (after_offers terms config offers).0
    (after_offers terms config offers).1 c.requires typed_x so.1 so.0
