-- What links carried whose clients take liberties, and the rules that refusals name, evaluated.
use Rattle.std.proofs.Common.{◌≡◌, refl}
use Rattle.std.specs.Prelude.{map, reverse, ℕ, List, [], ◌∷◌, None, replicate}
use Rattle.tl_beat.specs.declared.opcode.OpC.{OpC}
use Rattle.tl_burst.specs.statement.Messages.{unfinished}
use Rattle.tl_params.specs.declared.liberties.Liberties.{Liberties}
use Rattle.tl_params.specs.declared.liberties.Liberty.TheVariants.{Reports}
use Rattle.tl_params.specs.declared.perm.Perm.{Perm}
use Rattle.tl_params.specs.declared.rule.Rule.TheVariants.{H4, H10, H12}
use Rattle.tl_params.specs.statement.Liberties.{with_liberty}
use Rattle.tl_rules.specs.statement.Admission.{bytes_carried}
use Rattle.tl_rules.specs.statement.Conformance.{broken_order, on_link}
use Rattle.tl_rules.specs.statement.Effect.{bytes_from, effect}
use Rattle.tl_rules.specs.statement.History.{grant_sink, held, pending, probe_of, release_of, request_of}
use Rattle.tl_rules.specs.statement.Legality.{each_below, illegal}
use Rattle.tl_rules.specs.statement.Liberties.{illegal_under}
use Rattle.tl_manager.proofs.messages.Offers.{Offer, acquire, grant_ack, link_of, on}
use Rattle.tl_manager.proofs.messages.Offers.{report, report_with}
use Rattle.tl_manager.specs.statement.Handing.{with_handed}
use Rattle.tl_manager.specs.statement.Holders.{clients_from, recorded}
use Rattle.tl_manager.specs.statement.Offer.{judged_at, offered}
use Rattle.tl_manager.specs.statement.Reaction.{reaction}
use Rattle.tl_manager.specs.statement.Request.{corrupt_carried, masks_carried, request_carried}
use Rattle.tl_manager.specs.statement.Service.{least_untaken, services}
use Rattle.tl_partner.specs.statement.Cleaning.{PartnerEnd}
use Rattle.tl_partner.specs.statement.Lenient.{offered_lenient}
use Rattle.tl_partner.specs.statement.Partner.{offered_under}
use Rattle.std.specs.Prelude.{Option, Some}
use Rattle.tl_rules.specs.statement.Conformance.{Trace}
use Rattle.tl_params.specs.declared.rule.Rule.{Rule}
use Rattle.tl_rules.specs.statement.Liberties.{broken_order_under, held_under}
use Rattle.tl_manager.specs.statement.Offer.{open_level}
use Rattle.tl_partner.specs.laws.Offers.{Offer as Offered}
unfoldable use Rattle.tl_partner.specs.laws.Offers.{after_offers}
use Rattle.tl_partner.specs.laws.Judged.{first_rule}
use Rattle.tl_partner.specs.statement.Granting.{granted}
use Rattle.tl_partner.proofs.Worked.{caches, dropping, naming, probe_ack, reporting, terms_of, written_back}

abbrev as_offered : {w : ℕ} → Offer w → Offered w
as_offered x = record { link = link_of x.link; channel = x.channel; beat = x.beat }

-- what the links carried, and the end, after these beats
abbrev carried : {w : ℕ} → Liberties → List (Offer w) → Trace w × PartnerEnd w
carried l offers = after_offers (terms_of l) caches (map as_offered (reverse offers))

-- what client 0 holds of the block by what its link carried, and what is recorded of it
abbrev held_and_recorded : {w : ℕ} → Liberties → List (Offer w) → Perm × Perm
held_and_recorded l offers = (
  held_under (granted (terms_of l)) 0 (on_link 0 (carried l offers).0),
  recorded 0 0 (carried l offers).1.manager.trace,
)

-- the first rule that the next beat breaks, by what the links carried
abbrev first_of_next : {w : ℕ} → Liberties → List (Offer w) → Offer w → Option Rule
first_of_next l offers x =
    first_rule (granted (terms_of l)) caches (open_level caches (link_of x.link) (carried l offers).1.manager)
    (link_of x.link) x.channel x.beat (carried l offers).0

-- ---- what is held

data_written_back_leave_trunk : held_and_recorded {w = 8} reporting
    (on 0 (acquire 1 0) ∷ on 0 (grant_ack 0) ∷ written_back 3)
    ≡ (Perm.Trunk, Perm.Trunk)
unfolding bytes_carried on_link broken_order bytes_from effect request_of release_of probe_of grant_sink pending held
    illegal each_below unfinished with_handed held_under broken_order_under
    clients_from masks_carried corrupt_carried request_carried least_untaken services judged_at reaction offered
    offered_lenient offered_under illegal_under after_offers
data_written_back_leave_trunk = refl

a_release_of_nothing_after_a_drop_leaves_nothing : held_and_recorded {w = 8} (with_liberty Reports dropping)
    (on 0 (acquire 1 0) ∷ on 0 (grant_ack 0) ∷ on 0 (report OpC.Release refl 5 0) ∷ [])
    ≡ (Perm.None, Perm.None)
unfolding bytes_carried on_link broken_order bytes_from effect request_of release_of probe_of grant_sink pending held
    illegal each_below unfinished with_handed held_under broken_order_under
    clients_from masks_carried corrupt_carried request_carried least_untaken services judged_at reaction offered
    offered_lenient offered_under illegal_under after_offers
a_release_of_nothing_after_a_drop_leaves_nothing = refl

a_dropped_copy_asked_for_again_is_branch : held_and_recorded {w = 8} dropping
    (on 0 (acquire 1 0) ∷ on 0 (grant_ack 0) ∷ on 0 (acquire 0 0) ∷ [])
    ≡ (Perm.Branch, Perm.Branch)
unfolding bytes_carried on_link broken_order bytes_from effect request_of release_of probe_of grant_sink pending held
    illegal each_below unfinished with_handed held_under broken_order_under
    clients_from masks_carried corrupt_carried request_carried least_untaken services judged_at reaction offered
    offered_lenient offered_under illegal_under after_offers
a_dropped_copy_asked_for_again_is_branch = refl

-- ---- the first rule

another_source_is_h10 : first_of_next {w = 8} naming
    (on 0 (acquire 1 0) ∷ on 0 (grant_ack 0) ∷ on 1 (acquire 0 0) ∷ []) (on 0 (probe_ack 4 0))
    ≡ Some H10
unfolding bytes_carried on_link broken_order bytes_from effect request_of release_of probe_of grant_sink pending held
    illegal each_below unfinished with_handed held_under broken_order_under
    clients_from masks_carried corrupt_carried request_carried least_untaken services judged_at reaction offered
    offered_lenient offered_under illegal_under after_offers
another_source_is_h10 = refl

a_report_of_branch_is_h12 : first_of_next {w = 8} dropping
    (on 0 (acquire 1 0) ∷ on 0 (grant_ack 0) ∷ on 1 (acquire 0 0) ∷ []) (on 0 (probe_ack 0 2))
    ≡ Some H12
unfolding bytes_carried on_link broken_order bytes_from effect request_of release_of probe_of grant_sink pending held
    illegal each_below unfinished with_handed held_under broken_order_under
    clients_from masks_carried corrupt_carried request_carried least_untaken services judged_at reaction offered
    offered_lenient offered_under illegal_under after_offers
a_report_of_branch_is_h12 = refl

nothing_reported_of_a_dropped_copy_is_none : first_of_next {w = 8} dropping
    (on 0 (acquire 1 0) ∷ on 0 (grant_ack 0) ∷ on 1 (acquire 0 0) ∷ []) (on 0 (probe_ack 0 5))
    ≡ None
unfolding bytes_carried on_link broken_order bytes_from effect request_of release_of probe_of grant_sink pending held
    illegal each_below unfinished with_handed held_under broken_order_under
    clients_from masks_carried corrupt_carried request_carried least_untaken services judged_at reaction offered
    offered_lenient offered_under illegal_under after_offers
nothing_reported_of_a_dropped_copy_is_none = refl

an_acquire_amid_a_cleaning_is_h4 : first_of_next {w = 8} reporting
    (on 0 (acquire 1 0) ∷ on 0 (grant_ack 0) ∷ on 0 (report_with OpC.ReleaseData refl 3 0 (replicate 8 1)) ∷ [])
    (on 0 (acquire 2 0))
    ≡ Some H4
unfolding bytes_carried on_link broken_order bytes_from effect request_of release_of probe_of grant_sink pending held
    illegal each_below unfinished with_handed held_under broken_order_under
    clients_from masks_carried corrupt_carried request_carried least_untaken services judged_at reaction offered
    offered_lenient offered_under illegal_under after_offers
an_acquire_amid_a_cleaning_is_h4 = refl
