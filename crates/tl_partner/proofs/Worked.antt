-- What a manager answers to clients that take liberties, evaluated.
use Rattle.std.proofs.Common.{◌≡◌, refl, lit≤}
use Rattle.std.specs.Prelude.{ℕ, List, [], ◌∷◌, ◌++◌, ◌-◌, ◌^◌, false, None, replicate}
use Rattle.tl_beat.specs.declared.beat.Beat.{Beat}
use Rattle.tl_beat.specs.declared.beat.Beat.TheVariants.{C}
use Rattle.tl_beat.specs.declared.opcode.OpB.{OpB}
use Rattle.tl_beat.specs.declared.opcode.OpC.{OpC}
use Rattle.tl_beat.specs.declared.opcode.OpD.{OpD}
use Rattle.tl_burst.specs.declared.message.Message.{Message}
use Rattle.tl_burst.specs.statement.Messages.{unfinished}
use Rattle.tl_params.specs.declared.config.Config.{Config}
use Rattle.tl_params.specs.declared.level.Level.{Level}
use Rattle.tl_params.specs.declared.liberties.Liberties.{Liberties}
use Rattle.tl_params.specs.declared.liberties.Liberty.TheVariants.{Ids, Drops, Reports}
use Rattle.tl_params.specs.declared.perm.Perm.{Perm}
use Rattle.tl_params.specs.declared.profile.Profile.{Profile}
use Rattle.tl_params.specs.declared.rule.Rule.TheVariants.{H4, H5, H10, H12, H13, L2}
use Rattle.tl_params.specs.statement.Liberties.{no_liberties, with_liberty}
use Rattle.tl_rules.specs.statement.Admission.{bytes_carried}
use Rattle.tl_rules.specs.statement.Conformance.{broken_order, on_link}
use Rattle.tl_rules.specs.statement.Effect.{bytes_from, effect}
use Rattle.tl_rules.specs.statement.History.{grant_sink, held, pending, probe_of, release_of, request_of}
use Rattle.tl_rules.specs.statement.Legality.{each_below, illegal}
use Rattle.tl_rules.specs.statement.Liberties.{illegal_under}
use Rattle.tl_manager.proofs.messages.Offers.{Offer, acquire, answer, get, grant_ack, grant_data, link_of, on, release_ack}
use Rattle.tl_manager.proofs.messages.Offers.{report, report_with, said, with_links, zeros}
use Rattle.tl_manager.specs.statement.Handing.{with_handed}
use Rattle.tl_manager.specs.statement.Holders.{clients_from, recorded}
use Rattle.tl_manager.specs.statement.Offer.{Reception, Refused, Sent, judged_at, offered}
use Rattle.tl_manager.specs.statement.Reaction.{reaction}
use Rattle.tl_manager.specs.statement.Request.{corrupt_carried, masks_carried, request_carried}
use Rattle.tl_manager.specs.statement.Service.{least_untaken, services}
use Rattle.tl_partner.specs.declared.terms.Terms.{Terms}
use Rattle.tl_partner.specs.statement.Cleaning.{PartnerEnd, fresh_partner}
use Rattle.tl_partner.specs.statement.Lenient.{offered_lenient}
use Rattle.tl_partner.specs.statement.Partner.{offered_under}

abbrev with_first : {w : ℕ} → Reception w → List (Reception w) × PartnerEnd w → List (Reception w) × PartnerEnd w
with_first answer later = (answer ∷ later.0, later.1)

abbrev and_then : {w : ℕ} → Reception w × PartnerEnd w → (PartnerEnd w → List (Reception w) × PartnerEnd w)
    → List (Reception w) × PartnerEnd w
and_then first later = with_first first.0 (later first.1)

-- the answers to these beats, offered one after another, and the end afterwards
abbrev offer_all : {w : ℕ} → Terms → Config → List (Offer w) → PartnerEnd w → List (Reception w) × PartnerEnd w
offer_all terms config [] e = ([], e)
offer_all terms config (x ∷ xs) e =
    and_then (offered_under terms config (link_of x.link) x.channel x.beat e) (offer_all terms config xs)

-- two caches, whose Probes have the sources 3 and 4, and one block
abbrev pub caches : Config
caches = with_links Profile.One 1 1 (Level.C ∷ Level.C ∷ [])

abbrev pub terms_of : Liberties → Terms
terms_of l = record { ids = l.ids; drops = l.drops; reports = l.reports; sources = 3 ∷ 4 ∷ replicate 14 0 }

abbrev played : {w : ℕ} → Liberties → List (Offer w) → List (Reception w) × PartnerEnd w
played l offers = offer_all (terms_of l) caches offers (fresh_partner caches)

-- the answers under these liberties
abbrev answers : {w : ℕ} → Liberties → List (Offer w) → List (Reception w)
answers l offers = (played l offers).0

-- what client 0 is recorded to hold of the block afterwards
abbrev held_after : {w : ℕ} → Liberties → List (Offer w) → Perm
held_after l offers = recorded 0 0 (played l offers).1.manager.trace

abbrev pub dropping : Liberties
dropping = with_liberty Drops no_liberties

abbrev pub naming : Liberties
naming = with_liberty Ids no_liberties

abbrev pub reporting : Liberties
reporting = with_liberty Reports no_liberties

abbrev taken : {w : ℕ} → Reception w
taken = Sent []

-- a ProbeAck of block 0 with this source and report
abbrev pub probe_ack : {w : ℕ} → ℕ → ℕ → Beat w
probe_ack source param = C (record {
  opcode = OpC.ProbeAck;
  param = param;
  size = 6;
  source = source;
  address = 0;
  lanes = None;
  corrupt = false;
  carries = refl;
})

-- a Probe of block 0 with this source and cap
abbrev probe_from : {w : ℕ} → ℕ → ℕ → Message w
probe_from {w} source cap = Message.B (record {
  opcode = OpB.ProbeBlock;
  param = cap;
  size = 6;
  source = source;
  address = 0;
  payload = zeros;
  mask = 2 ^ w - 1;
  corrupt = 0;
  small = lit≤ tt;
})

-- a block of ones over channel C with this report
abbrev pub written_back : ℕ → List (Offer 8)
written_back param = replicate 8 (on 0 (report_with OpC.ReleaseData refl param 0 (replicate 8 1)))

-- ---- a copy that was dropped

a_dropped_copy_is_asked_for_again : answers {w = 8} dropping
    (on 0 (acquire 1 0) ∷ on 0 (grant_ack 0) ∷ on 0 (acquire 0 0) ∷ [])
    ≡ said 0 (grant_data 0 0 zeros) ∷ taken ∷ said 0 (grant_data 1 0 zeros) ∷ []
unfolding bytes_carried on_link broken_order bytes_from effect request_of release_of probe_of grant_sink pending held
    illegal each_below unfinished with_handed
    clients_from masks_carried corrupt_carried request_carried least_untaken services judged_at reaction offered
    offered_lenient offered_under illegal_under
a_dropped_copy_is_asked_for_again = refl

then_what_was_granted_is_held : held_after {w = 8} dropping
    (on 0 (acquire 1 0) ∷ on 0 (grant_ack 0) ∷ on 0 (acquire 0 0) ∷ [])
    ≡ Perm.Branch
unfolding bytes_carried on_link broken_order bytes_from effect request_of release_of probe_of grant_sink pending held
    illegal each_below unfinished with_handed
    clients_from masks_carried corrupt_carried request_carried least_untaken services judged_at reaction offered
    offered_lenient offered_under illegal_under
then_what_was_granted_is_held = refl

without_drops_it_breaks_h5 : answers {w = 8} no_liberties
    (on 0 (acquire 1 0) ∷ on 0 (grant_ack 0) ∷ on 0 (acquire 0 0) ∷ [])
    ≡ said 0 (grant_data 0 0 zeros) ∷ taken ∷ Refused H5 ∷ []
unfolding bytes_carried on_link broken_order bytes_from effect request_of release_of probe_of grant_sink pending held
    illegal each_below unfinished with_handed
    clients_from masks_carried corrupt_carried request_carried least_untaken services judged_at reaction offered
    offered_lenient offered_under illegal_under
without_drops_it_breaks_h5 = refl

a_dropped_copy_is_reported_gone : answers {w = 8} dropping
    (on 0 (acquire 1 0) ∷ on 0 (grant_ack 0) ∷ on 1 (acquire 0 0) ∷ on 0 (probe_ack 0 5) ∷ [])
    ≡ said 0 (grant_data 0 0 zeros) ∷ taken ∷ said 0 (probe_from 0 1) ∷ said 1 (grant_data 1 0 zeros) ∷ []
unfolding bytes_carried on_link broken_order bytes_from effect request_of release_of probe_of grant_sink pending held
    illegal each_below unfinished with_handed
    clients_from masks_carried corrupt_carried request_carried least_untaken services judged_at reaction offered
    offered_lenient offered_under illegal_under
a_dropped_copy_is_reported_gone = refl

then_nothing_is_held : held_after {w = 8} dropping
    (on 0 (acquire 1 0) ∷ on 0 (grant_ack 0) ∷ on 1 (acquire 0 0) ∷ on 0 (probe_ack 0 5) ∷ [])
    ≡ Perm.None
unfolding bytes_carried on_link broken_order bytes_from effect request_of release_of probe_of grant_sink pending held
    illegal each_below unfinished with_handed
    clients_from masks_carried corrupt_carried request_carried least_untaken services judged_at reaction offered
    offered_lenient offered_under illegal_under
then_nothing_is_held = refl

without_drops_it_breaks_h12 : answers {w = 8} no_liberties
    (on 0 (acquire 1 0) ∷ on 0 (grant_ack 0) ∷ on 1 (acquire 0 0) ∷ on 0 (probe_ack 0 5) ∷ [])
    ≡ said 0 (grant_data 0 0 zeros) ∷ taken ∷ said 0 (probe_from 0 1) ∷ Refused H12 ∷ []
unfolding bytes_carried on_link broken_order bytes_from effect request_of release_of probe_of grant_sink pending held
    illegal each_below unfinished with_handed
    clients_from masks_carried corrupt_carried request_carried least_untaken services judged_at reaction offered
    offered_lenient offered_under illegal_under
without_drops_it_breaks_h12 = refl

a_report_of_branch_breaks_h12 : answers {w = 8} dropping
    (on 0 (acquire 1 0) ∷ on 0 (grant_ack 0) ∷ on 1 (acquire 0 0) ∷ on 0 (probe_ack 0 2) ∷ [])
    ≡ said 0 (grant_data 0 0 zeros) ∷ taken ∷ said 0 (probe_from 0 1) ∷ Refused H12 ∷ []
unfolding bytes_carried on_link broken_order bytes_from effect request_of release_of probe_of grant_sink pending held
    illegal each_below unfinished with_handed
    clients_from masks_carried corrupt_carried request_carried least_untaken services judged_at reaction offered
    offered_lenient offered_under illegal_under
a_report_of_branch_breaks_h12 = refl

-- ---- sources of Probes

a_probe_has_its_links_source : answers {w = 8} naming
    (on 0 (acquire 1 0) ∷ on 0 (grant_ack 0) ∷ on 1 (acquire 0 0) ∷ on 0 (probe_ack 3 0) ∷ [])
    ≡ said 0 (grant_data 0 0 zeros) ∷ taken ∷ said 0 (probe_from 3 1) ∷ said 1 (grant_data 1 0 zeros) ∷ []
unfolding bytes_carried on_link broken_order bytes_from effect request_of release_of probe_of grant_sink pending held
    illegal each_below unfinished with_handed
    clients_from masks_carried corrupt_carried request_carried least_untaken services judged_at reaction offered
    offered_lenient offered_under illegal_under
a_probe_has_its_links_source = refl

another_source_breaks_h10 : answers {w = 8} naming
    (on 0 (acquire 1 0) ∷ on 0 (grant_ack 0) ∷ on 1 (acquire 0 0) ∷ on 0 (probe_ack 4 0) ∷ [])
    ≡ said 0 (grant_data 0 0 zeros) ∷ taken ∷ said 0 (probe_from 3 1) ∷ Refused H10 ∷ []
unfolding bytes_carried on_link broken_order bytes_from effect request_of release_of probe_of grant_sink pending held
    illegal each_below unfinished with_handed
    clients_from masks_carried corrupt_carried request_carried least_untaken services judged_at reaction offered
    offered_lenient offered_under illegal_under
another_source_breaks_h10 = refl

without_ids_a_source_breaks_l2 : answers {w = 8} no_liberties
    (on 0 (acquire 1 0) ∷ on 0 (grant_ack 0) ∷ on 1 (acquire 0 0) ∷ on 0 (probe_ack 3 0) ∷ [])
    ≡ said 0 (grant_data 0 0 zeros) ∷ taken ∷ said 0 (probe_from 0 1) ∷ Refused L2 ∷ []
unfolding bytes_carried on_link broken_order bytes_from effect request_of release_of probe_of grant_sink pending held
    illegal each_below unfinished with_handed
    clients_from masks_carried corrupt_carried request_carried least_untaken services judged_at reaction offered
    offered_lenient offered_under illegal_under
without_ids_a_source_breaks_l2 = refl

-- ---- Releases that give nothing up

branch_is_released_and_kept : answers {w = 8} reporting
    (on 0 (acquire 0 0) ∷ on 0 (grant_ack 0) ∷ on 0 (report OpC.Release refl 4 0) ∷ [])
    ≡ said 0 (grant_data 1 0 zeros) ∷ taken ∷ said 0 release_ack ∷ []
unfolding bytes_carried on_link broken_order bytes_from effect request_of release_of probe_of grant_sink pending held
    illegal each_below unfinished with_handed
    clients_from masks_carried corrupt_carried request_carried least_untaken services judged_at reaction offered
    offered_lenient offered_under illegal_under
branch_is_released_and_kept = refl

then_branch_is_held : held_after {w = 8} reporting
    (on 0 (acquire 0 0) ∷ on 0 (grant_ack 0) ∷ on 0 (report OpC.Release refl 4 0) ∷ [])
    ≡ Perm.Branch
unfolding bytes_carried on_link broken_order bytes_from effect request_of release_of probe_of grant_sink pending held
    illegal each_below unfinished with_handed
    clients_from masks_carried corrupt_carried request_carried least_untaken services judged_at reaction offered
    offered_lenient offered_under illegal_under
then_branch_is_held = refl

from_trunk_it_breaks_h13 : answers {w = 8} reporting
    (on 0 (acquire 1 0) ∷ on 0 (grant_ack 0) ∷ on 0 (report OpC.Release refl 4 0) ∷ [])
    ≡ said 0 (grant_data 0 0 zeros) ∷ taken ∷ Refused H13 ∷ []
unfolding bytes_carried on_link broken_order bytes_from effect request_of release_of probe_of grant_sink pending held
    illegal each_below unfinished with_handed
    clients_from masks_carried corrupt_carried request_carried least_untaken services judged_at reaction offered
    offered_lenient offered_under illegal_under
from_trunk_it_breaks_h13 = refl

without_reports_it_breaks_l2 : answers {w = 8} no_liberties
    (on 0 (acquire 0 0) ∷ on 0 (grant_ack 0) ∷ on 0 (report OpC.Release refl 4 0) ∷ [])
    ≡ said 0 (grant_data 1 0 zeros) ∷ taken ∷ Refused L2 ∷ []
unfolding bytes_carried on_link broken_order bytes_from effect request_of release_of probe_of grant_sink pending held
    illegal each_below unfinished with_handed
    clients_from masks_carried corrupt_carried request_carried least_untaken services judged_at reaction offered
    offered_lenient offered_under illegal_under
without_reports_it_breaks_l2 = refl

data_is_written_back_and_kept : answers {w = 8} reporting
    (on 0 (acquire 1 0) ∷ on 0 (grant_ack 0) ∷ (written_back 3 ++ on 1 (get 0 3 0) ∷ on 0 (probe_ack 0 0) ∷ []))
    ≡ said 0 (grant_data 0 0 zeros) ∷ taken ∷ (replicate 7 taken ++ said 0 release_ack ∷ said 0 (probe_from 0 1)
    ∷ said 1 (answer OpD.AccessAckData 3 refl (replicate 8 1 ++ replicate 56 0)) ∷ [])
unfolding bytes_carried on_link broken_order bytes_from effect request_of release_of probe_of grant_sink pending held
    illegal each_below unfinished with_handed
    clients_from masks_carried corrupt_carried request_carried least_untaken services judged_at reaction offered
    offered_lenient offered_under illegal_under
data_is_written_back_and_kept = refl

then_trunk_is_held : held_after {w = 8} reporting (on 0 (acquire 1 0) ∷ on 0 (grant_ack 0) ∷ written_back 3)
    ≡ Perm.Trunk
unfolding bytes_carried on_link broken_order bytes_from effect request_of release_of probe_of grant_sink pending held
    illegal each_below unfinished with_handed
    clients_from masks_carried corrupt_carried request_carried least_untaken services judged_at reaction offered
    offered_lenient offered_under illegal_under
then_trunk_is_held = refl

an_acquire_amid_it_breaks_h4 : answers {w = 8} reporting
    (on 0 (acquire 1 0) ∷ on 0 (grant_ack 0) ∷ on 0 (report_with OpC.ReleaseData refl 3 0 (replicate 8 1))
    ∷ on 0 (acquire 2 0) ∷ [])
    ≡ said 0 (grant_data 0 0 zeros) ∷ taken ∷ taken ∷ Refused H4 ∷ []
unfolding bytes_carried on_link broken_order bytes_from effect request_of release_of probe_of grant_sink pending held
    illegal each_below unfinished with_handed
    clients_from masks_carried corrupt_carried request_carried least_untaken services judged_at reaction offered
    offered_lenient offered_under illegal_under
an_acquire_amid_it_breaks_h4 = refl
