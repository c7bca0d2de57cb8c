-- The beats that the links of a manager carried, and its end, after any beats that it was offered.
use Rattle.std.specs.Prelude.{ℕ, List, [], ◌∷◌, ⊤}
use Rattle.tl_beat.specs.declared.beat.Beat.{Beat}
use Rattle.tl_beat.specs.declared.beat.Link.{Link}
use Rattle.tl_beat.specs.declared.channel.Channel.{Channel}
use Rattle.tl_params.specs.declared.config.Config.{Config}
use Rattle.tl_rules.specs.statement.Conformance.{Trace}
use Rattle.tl_manager.specs.code.Kept.{IsTyped}
use Rattle.tl_partner.specs.declared.terms.Terms.{Terms}
use Rattle.tl_partner.specs.laws.Carried.{carried_after}
use Rattle.tl_partner.specs.statement.Cleaning.{PartnerEnd, fresh_partner}
use Rattle.tl_partner.specs.statement.Partner.{offered_under}

-- a beat that is offered on a channel of a link
pub record Offer (w : ℕ) : Type 0 where
  pub link : Link
  pub channel : Channel
  pub beat : Beat w

-- the numbers of each beat are those of its types
abbrev pub AreTyped : {w : ℕ} → List (Offer w) → Type 0
AreTyped [] = ⊤
AreTyped (x ∷ offers) = IsTyped x.beat × AreTyped offers

-- the trace and the end after one more beat
abbrev pub after_offer : {w : ℕ} → Terms → Config → Offer w → Trace w × PartnerEnd w → Trace w × PartnerEnd w
after_offer terms config x s = (
  carried_after x.link x.beat (offered_under terms config x.link x.channel x.beat s.1).0 s.0,
  (offered_under terms config x.link x.channel x.beat s.1).1,
)

-- the trace and the end after these beats, the newest first
unfoldable pub after_offers : {w : ℕ} → Terms → Config → List (Offer w) → Trace w × PartnerEnd w
after_offers terms config [] = ([], fresh_partner config)
after_offers terms config (x ∷ offers) = after_offer terms config x (after_offers terms config offers)
