-- What a manager answers to lists of beats, evaluated.
use Rattle.tl_manager.proofs.Imports.{Config, Profile, L1, S1, A1, A2, on_link, broken_order, bytes_from, effect}
use Rattle.tl_manager.proofs.Imports.{request_of, probe_of, grant_sink, pending, held, illegal, unfinished, with_handed}
use Rattle.tl_manager.proofs.Imports.{clients_from, masks_carried, corrupt_carried, request_carried, least_untaken}
use Rattle.tl_manager.proofs.Imports.{services, reaction, Refused, Stalled, Sent, judged_at, offered}
use Rattle.std.proofs.Common.{◌≡◌, refl}
use Rattle.std.specs.Prelude.{ℕ, List, [], ◌∷◌, ◌++◌, ◌-◌, ◌/◌, replicate}
use Rattle.tl_beat.{specs.declared.channel.Channel.Channel, specs.declared.opcode.OpA.OpA}
use Rattle.tl_beat.{specs.declared.opcode.OpC.OpC, specs.declared.opcode.OpD.OpD}
use Rattle.tl_params.specs.declared.level.Level.{Level}
use Rattle.tl_params.specs.declared.rule.Rule.TheVariants.{H1, H8, H10, A3}
use Rattle.tl_rules.{specs.statement.Admission.bytes_carried, specs.statement.Effect.number_from}
use Rattle.tl_rules.{specs.statement.History.release_of, specs.statement.Legality.each_below}
use Rattle.tl_manager.specs.statement.Offer.{Reception}
use Rattle.tl_manager.proofs.messages.Offers.{Offer, on, on_channel, answers_to, with_links, request, request_of_data}
use Rattle.tl_manager.proofs.messages.Offers.{corrupted, get, put_block, acquire, acquire_whole, report, report_with}
use Rattle.tl_manager.proofs.messages.Offers.{access_ack, grant_ack, to, said, answer, grant_data, grant, release_ack}
use Rattle.tl_manager.proofs.messages.Offers.{probe, zeros, block_from}

-- the beat is taken, and nothing is handed out
abbrev taken : {w : ℕ} → Reception w
taken = Sent []

-- this many beats are taken before the one that is answered so
abbrev after_beats : {w : ℕ} → ℕ → Reception w → List (Reception w)
after_beats n answer = replicate n taken ++ answer ∷ []

-- ---- what clients send

-- the lanes of a beat that are zero but for the first
abbrev lane_0 : ℕ → ℕ → List ℕ
lane_0 w byte = byte ∷ replicate (w - 1) 0

-- four bytes in the lower lanes of eight, the first and the three others
abbrev word : ℕ → ℕ → List ℕ
word first other = first ∷ replicate 3 other ++ replicate 4 0

-- a block over channel C that is zero but for its first byte, with this report or prune
abbrev reported : {w : ℕ} → ℕ → ℕ → ℕ → List (Offer w)
reported {w} link param byte =
    on link (report_with OpC.ProbeAckData refl param 0 (lane_0 w byte)) ∷ replicate (64 / w - 1)
    (on link (report_with OpC.ProbeAckData refl param 0 (replicate w 0)))

abbrev released : {w : ℕ} → ℕ → ℕ → ℕ → List (Offer w)
released {w} link param byte =
    on link (report_with OpC.ReleaseData refl param 0 (lane_0 w byte)) ∷ replicate (64 / w - 1)
    (on link (report_with OpC.ReleaseData refl param 0 (replicate w 0)))

abbrev two_caches : Profile → Config
two_caches p = with_links p 1 1 (Level.C ∷ Level.C ∷ [])

-- client 0 acquires block 0 to write, or to read
abbrev writes : {w : ℕ} → List (Offer w)
writes = on 0 (acquire 1 0) ∷ on 0 (grant_ack 0) ∷ []

abbrev reads : {w : ℕ} → List (Offer w)
reads = on 0 (acquire 0 0) ∷ on 0 (grant_ack 0) ∷ []

-- with this cap it is granted a block of zeros
abbrev granted : {w : ℕ} → ℕ → List (Reception w)
granted cap = said 0 (grant_data cap 0 zeros) ∷ taken ∷ []

-- ---- accesses

another_source_within_a_burst : answers_to {w = 8} (with_links Profile.One 1 1 (Level.UH ∷ []))
    (replicate 4 (on 0 (put_block 0)) ++ on 0 (put_block 1) ∷ on 0 (put_block 0) ∷ on 0 (put_block 1) ∷ [])
    ≡ replicate 4 taken ++ Refused S1 ∷ Refused A3 ∷ Refused A3 ∷ []
unfolding bytes_carried on_link broken_order bytes_from effect request_of release_of probe_of grant_sink pending held
    illegal each_below unfinished with_handed
    clients_from masks_carried corrupt_carried request_carried least_untaken services judged_at reaction offered
another_source_within_a_burst = refl

a_put_counts_from_its_last_beat : answers_to {w = 8} (with_links Profile.One 1 1 (Level.UH ∷ Level.UH ∷ []))
    (replicate 7 (on 0 (put_block 0)) ++ on 1 (get 0 3 0) ∷ on 0 (put_block 0) ∷ on 1 (get 0 3 0) ∷ [])
    ≡ after_beats 7 (said 1 (answer OpD.AccessAckData 3 refl zeros)) ++ said 0 (answer OpD.AccessAck 6 refl zeros)
    ∷ said 1
    (answer OpD.AccessAckData 3 refl (replicate 8 255 ++ replicate 56 0)) ∷ []
unfolding bytes_carried on_link broken_order bytes_from effect request_of release_of probe_of grant_sink pending held
    illegal each_below unfinished with_handed
    clients_from masks_carried corrupt_carried request_carried least_untaken services judged_at reaction offered
a_put_counts_from_its_last_beat = refl

min_by_sign_and_without : answers_to {w = 8} (with_links Profile.One 1 1 (Level.UH ∷ []))
    (on 0 (request_of_data OpA.PutFullData refl 0 2 0 15 (word 255 255)) ∷ on 0
    (request_of_data OpA.ArithmeticData refl 0 2 0 15 (word 1 0)) ∷ on 0
    (request_of_data OpA.ArithmeticData refl 2 2 0 15 (word 1 0)) ∷ on 0 (request OpA.Get refl 0 2 0 0 15) ∷ [])
    ≡ said 0 (answer OpD.AccessAck 2 refl zeros) ∷ said 0
    (answer OpD.AccessAckData 2 refl (replicate 4 255 ++ replicate 60 0)) ∷ said 0
    (answer OpD.AccessAckData 2 refl (replicate 4 255 ++ replicate 60 0)) ∷ said 0
    (answer OpD.AccessAckData 2 refl (block_from 1)) ∷ []
unfolding bytes_carried on_link broken_order bytes_from effect request_of release_of probe_of grant_sink pending held
    illegal each_below unfinished with_handed
    clients_from masks_carried corrupt_carried request_carried least_untaken services judged_at reaction offered
    number_from
min_by_sign_and_without = refl

add_wraps : answers_to {w = 8} (with_links Profile.One 1 1 (Level.UH ∷ []))
    (on 0 (request_of_data OpA.PutFullData refl 0 3 0 255 (replicate 8 255)) ∷ on 0
    (request_of_data OpA.ArithmeticData refl 4 3 0 255 (lane_0 8 1)) ∷ on 0 (get 0 3 0) ∷ [])
    ≡ said 0 (answer OpD.AccessAck 3 refl zeros) ∷ said 0
    (answer OpD.AccessAckData 3 refl (replicate 8 255 ++ replicate 56 0)) ∷ said 0
    (answer OpD.AccessAckData 3 refl zeros) ∷ []
unfolding bytes_carried on_link broken_order bytes_from effect request_of release_of probe_of grant_sink pending held
    illegal each_below unfinished with_handed
    clients_from masks_carried corrupt_carried request_carried least_untaken services judged_at reaction offered
    number_from
add_wraps = refl

an_intent_is_answered_at_once : answers_to {w = 8} (with_links Profile.One 1 1 (Level.UH ∷ []))
    (on 0 (request OpA.Intent refl 1 6 0 0 255) ∷ [])
    ≡ said 0 (answer OpD.HintAck 6 refl zeros) ∷ []
unfolding bytes_carried on_link broken_order bytes_from effect request_of release_of probe_of grant_sink pending held
    illegal each_below unfinished with_handed
    clients_from masks_carried corrupt_carried request_carried least_untaken services judged_at reaction offered
an_intent_is_answered_at_once = refl

a_source_is_free_once_it_is_answered : answers_to {w = 8} (with_links Profile.One 4 2 (Level.C ∷ Level.C ∷ []))
    (on 0 (get 0 3 0) ∷ on 0 (get 0 3 0) ∷ [])
    ≡ said 0 (answer OpD.AccessAckData 3 refl zeros) ∷ said 0 (answer OpD.AccessAckData 3 refl zeros) ∷ []
unfolding bytes_carried on_link broken_order bytes_from effect request_of release_of probe_of grant_sink pending held
    illegal each_below unfinished with_handed
    clients_from masks_carried corrupt_carried request_carried least_untaken services judged_at reaction offered
a_source_is_free_once_it_is_answered = refl

some_lanes_of_a_beat : answers_to {w = 8} (with_links Profile.One 1 1 (Level.UL ∷ []))
    (on 0 (request_of_data OpA.PutPartialData refl 0 2 4 80 (replicate 4 0 ++ 17 ∷ 34 ∷ 51 ∷ 68 ∷ [])) ∷ on 0
    (request OpA.Get refl 0 2 0 4 240) ∷ [])
    ≡ said 0 (answer OpD.AccessAck 2 refl zeros) ∷ said 0
    (answer OpD.AccessAckData 2 refl (replicate 4 0 ++ 17 ∷ 0 ∷ 51 ∷ 0 ∷ replicate 56 0)) ∷ []
unfolding bytes_carried on_link broken_order bytes_from effect request_of release_of probe_of grant_sink pending held
    illegal each_below unfinished with_handed
    clients_from masks_carried corrupt_carried request_carried least_untaken services judged_at reaction offered
some_lanes_of_a_beat = refl

-- ---- probes, grants and releases

a_reader_gets_what_the_writer_stored : answers_to {w = 8} (two_caches Profile.One)
    (writes ++ on 1 (acquire 0 0) ∷ reported 0 0 90 ++ on 1 (grant_ack 0) ∷ [])
    ≡ granted 0 ++ said 0 (probe 1) ∷ after_beats 7 (said 1 (grant_data 1 0 (block_from 90))) ++ taken ∷ []
unfolding bytes_carried on_link broken_order bytes_from effect request_of release_of probe_of grant_sink pending held
    illegal each_below unfinished with_handed
    clients_from masks_carried corrupt_carried request_carried least_untaken services judged_at reaction offered
a_reader_gets_what_the_writer_stored = refl

a_release_while_a_probe_waits : answers_to {w = 8} (two_caches Profile.One)
    (writes ++ on 1 (acquire 1 0) ∷ released 0 1 90 ++ on 0 (report OpC.ProbeAck refl 5 0) ∷ on 1 (grant_ack 0) ∷ [])
    ≡ granted 0 ++ said 0 (probe 2) ∷ after_beats 7 (said 0 release_ack) ++ said 1 (grant_data 0 0 (block_from 90))
    ∷ taken ∷ []
unfolding bytes_carried on_link broken_order bytes_from effect request_of release_of probe_of grant_sink pending held
    illegal each_below unfinished with_handed
    clients_from masks_carried corrupt_carried request_carried least_untaken services judged_at reaction offered
a_release_while_a_probe_waits = refl

-- the second one, probed meanwhile, no longer has the block as it is granted
two_readers_want_to_write : answers_to {w = 8} (with_links Profile.One 1 2 (Level.C ∷ Level.C ∷ []))
    (reads ++ on 1 (acquire 0 0) ∷ on 1 (grant_ack 0) ∷ on 0 (acquire 2 0) ∷ on 1 (acquire 2 0) ∷ on 1
    (report OpC.ProbeAck refl 2 0) ∷ on 0 (grant_ack 0) ∷ on 1
    (acquire 2 0) ∷ reported 0 1 0 ++ on 1 (grant_ack 0) ∷ [])
    ≡ granted 1 ++ said 1 (grant_data 1 0 zeros) ∷ taken ∷ said 1 (probe 2) ∷ Stalled ∷ said 0
    (grant 0 0) ∷ taken ∷ said 0 (probe 2) ∷ after_beats 7 (said 1 (grant_data 0 0 zeros)) ++ taken ∷ []
unfolding bytes_carried on_link broken_order bytes_from effect request_of release_of probe_of grant_sink pending held
    illegal each_below unfinished with_handed
    clients_from masks_carried corrupt_carried request_carried least_untaken services judged_at reaction offered
two_readers_want_to_write = refl

a_whole_block_store_takes_no_data : answers_to {w = 8} (with_links Profile.One 1 2 (Level.C ∷ Level.C ∷ []))
    (reads ++ on 1 (acquire 0 0) ∷ on 1 (grant_ack 0) ∷ on 0 (acquire 2 0) ∷ on 1 (report OpC.ProbeAck refl 2 0) ∷ on 0
    (grant_ack 0) ∷ on 1
    (acquire_whole 2 0) ∷ reported 0 1 0 ++ on 1 (grant_ack 0) ∷ [])
    ≡ granted 1 ++ said 1 (grant_data 1 0 zeros) ∷ taken ∷ said 1 (probe 2) ∷ said 0 (grant 0 0) ∷ taken ∷ said 0
    (probe 2) ∷ after_beats 7 (said 1 (grant 0 0)) ++ taken ∷ []
unfolding bytes_carried on_link broken_order bytes_from effect request_of release_of probe_of grant_sink pending held
    illegal each_below unfinished with_handed
    clients_from masks_carried corrupt_carried request_carried least_untaken services judged_at reaction offered
a_whole_block_store_takes_no_data = refl

a_release_before_its_grant_ack : answers_to {w = 8} (with_links Profile.One 1 1 (Level.C ∷ []))
    (on 0 (acquire 0 0) ∷ on 0 (report OpC.Release refl 2 0) ∷ on 0 (acquire 0 0) ∷ on 0 (grant_ack 0) ∷ on 0
    (acquire 0 0) ∷ [])
    ≡ said 0 (grant_data 1 0 zeros) ∷ said 0 release_ack ∷ Stalled ∷ taken ∷ said 0 (grant_data 1 0 zeros) ∷ []
unfolding bytes_carried on_link broken_order bytes_from effect request_of release_of probe_of grant_sink pending held
    illegal each_below unfinished with_handed
    clients_from masks_carried corrupt_carried request_carried least_untaken services judged_at reaction offered
a_release_before_its_grant_ack = refl

no_tracker_is_free : answers_to {w = 8} (with_links Profile.One 2 1 (Level.C ∷ Level.UL ∷ []))
    (on 0 (acquire 0 0) ∷ on 1 (get 0 3 64) ∷ on 0 (grant_ack 0) ∷ on 1 (get 0 3 64) ∷ [])
    ≡ said 0 (grant_data 1 0 zeros) ∷ Stalled ∷ taken ∷ said 1 (answer OpD.AccessAckData 3 refl zeros) ∷ []
unfolding bytes_carried on_link broken_order bytes_from effect request_of release_of probe_of grant_sink pending held
    illegal each_below unfinished with_handed
    clients_from masks_carried corrupt_carried request_carried least_untaken services judged_at reaction offered
no_tracker_is_free = refl

the_least_free_tracker : answers_to {w = 8} (with_links Profile.One 3 3 (Level.C ∷ []))
    (on 0 (acquire 0 0) ∷ on 0 (acquire 0 64) ∷ on 0 (grant_ack 0) ∷ on 0 (acquire 0 128) ∷ [])
    ≡ said 0 (grant_data 1 0 zeros) ∷ said 0 (grant_data 1 1 zeros) ∷ taken ∷ said 0 (grant_data 1 0 zeros) ∷ []
unfolding bytes_carried on_link broken_order bytes_from effect request_of release_of probe_of grant_sink pending held
    illegal each_below unfinished with_handed
    clients_from masks_carried corrupt_carried request_carried least_untaken services judged_at reaction offered
the_least_free_tracker = refl

a_writer_waits_for_all_readers : answers_to {w = 8} (with_links Profile.One 1 1 (Level.C ∷ Level.C ∷ Level.C ∷ []))
    (reads ++ on 2 (acquire 0 0) ∷ on 2 (grant_ack 0) ∷ on 1 (acquire 1 0) ∷ on 2 (report OpC.ProbeAck refl 2 0) ∷ on 0
    (report OpC.ProbeAck refl 2 0) ∷ [])
    ≡ granted 1 ++ said 2 (grant_data 1 0 zeros) ∷ taken ∷ Sent (to 0 (probe 2) ∷ to 2 (probe 2) ∷ []) ∷ taken ∷ said 1
    (grant_data 0 0 zeros) ∷ []
unfolding bytes_carried on_link broken_order bytes_from effect request_of release_of probe_of grant_sink pending held
    illegal each_below unfinished with_handed
    clients_from masks_carried corrupt_carried request_carried least_untaken services judged_at reaction offered
a_writer_waits_for_all_readers = refl

plain_accesses_of_what_a_cache_holds : answers_to {w = 8} (with_links Profile.One 2 1 (Level.C ∷ Level.UL ∷ []))
    (writes ++ on 1 (request OpA.Get refl 0 0 0 0 1) ∷ reported 0 0 90
    ++ on 1 (request_of_data OpA.PutFullData refl 0 0 0 1 (lane_0 8 107)) ∷ on 0 (report OpC.ProbeAck refl 2 0) ∷ on 1
    (request OpA.Get refl 0 0 0 0 1) ∷ [])
    ≡ granted 0 ++ said 0 (probe 1) ∷ after_beats 7 (said 1 (answer OpD.AccessAckData 0 refl (block_from 90)))
    ++ said 0 (probe 2) ∷ said 1 (answer OpD.AccessAck 0 refl zeros) ∷ said 1
    (answer OpD.AccessAckData 0 refl (block_from 107)) ∷ []
unfolding bytes_carried on_link broken_order bytes_from effect request_of release_of probe_of grant_sink pending held
    illegal each_below unfinished with_handed
    clients_from masks_carried corrupt_carried request_carried least_untaken services judged_at reaction offered
plain_accesses_of_what_a_cache_holds = refl

a_writer_probed_by_its_own_access : answers_to {w = 8} (with_links Profile.One 1 1 (Level.C ∷ []))
    (writes ++ on 0 (get 0 3 0) ∷ reported 0 0 90)
    ≡ granted 0 ++ said 0 (probe 1) ∷ after_beats 7 (said 0 (answer OpD.AccessAckData 3 refl (block_from 90)))
unfolding bytes_carried on_link broken_order bytes_from effect request_of release_of probe_of grant_sink pending held
    illegal each_below unfinished with_handed
    clients_from masks_carried corrupt_carried request_carried least_untaken services judged_at reaction offered
a_writer_probed_by_its_own_access = refl

an_intent_probes_nobody : answers_to {w = 8} (two_caches Profile.One)
    (writes ++ on 1 (request OpA.Intent refl 1 6 0 0 255) ∷ [])
    ≡ granted 0 ++ said 1 (answer OpD.HintAck 6 refl zeros) ∷ []
unfolding bytes_carried on_link broken_order bytes_from effect request_of release_of probe_of grant_sink pending held
    illegal each_below unfinished with_handed
    clients_from masks_carried corrupt_carried request_carried least_untaken services judged_at reaction offered
an_intent_probes_nobody = refl

-- ---- the second profile

a_lone_reader_may_write : answers_to {w = 8} (two_caches Profile.Two)
    (reads ++ on 1 (acquire 0 0) ∷ reported 0 0 90 ++ on 1 (grant_ack 0) ∷ [])
    ≡ granted 0 ++ said 0 (probe 1) ∷ after_beats 7 (said 1 (grant_data 1 0 (block_from 90))) ++ taken ∷ []
unfolding bytes_carried on_link broken_order bytes_from effect request_of release_of probe_of grant_sink pending held
    illegal each_below unfinished with_handed
    clients_from masks_carried corrupt_carried request_carried least_untaken services judged_at reaction offered
a_lone_reader_may_write = refl

nobody_has_it_any_longer_at_the_grant : answers_to {w = 8} (two_caches Profile.Two)
    (reads ++ on 1 (acquire 0 0) ∷ released 0 1 90 ++ on 0 (report OpC.ProbeAck refl 5 0) ∷ on 1 (grant_ack 0) ∷ [])
    ≡ granted 0 ++ said 0 (probe 1) ∷ after_beats 7 (said 0 release_ack) ++ said 1 (grant_data 0 0 (block_from 90))
    ∷ taken ∷ []
unfolding bytes_carried on_link broken_order bytes_from effect request_of release_of probe_of grant_sink pending held
    illegal each_below unfinished with_handed
    clients_from masks_carried corrupt_carried request_carried least_untaken services judged_at reaction offered
nobody_has_it_any_longer_at_the_grant = refl

a_whole_block_store_stays_a_reader : answers_to {w = 8} (two_caches Profile.Two)
    (on 0 (acquire_whole 0 0) ∷ [])
    ≡ said 0 (grant 1 0) ∷ []
unfolding bytes_carried on_link broken_order bytes_from effect request_of release_of probe_of grant_sink pending held
    illegal each_below unfinished with_handed
    clients_from masks_carried corrupt_carried request_carried least_untaken services judged_at reaction offered
a_whole_block_store_stays_a_reader = refl

-- ---- refusals

no_grant_with_this_sink : answers_to {w = 8} (with_links Profile.One 2 2 (Level.C ∷ Level.C ∷ []))
    (on 0 (acquire 0 0) ∷ on 0 (grant_ack 7) ∷ on 0 (grant_ack 7) ∷ on 1 (get 0 3 64) ∷ [])
    ≡ said 0 (grant_data 1 0 zeros) ∷ Refused H8 ∷ Refused A3 ∷ said 1 (answer OpD.AccessAckData 3 refl zeros) ∷ []
unfolding bytes_carried on_link broken_order bytes_from effect request_of release_of probe_of grant_sink pending held
    illegal each_below unfinished with_handed
    clients_from masks_carried corrupt_carried request_carried least_untaken services judged_at reaction offered
no_grant_with_this_sink = refl

outside_the_map_and_then_closed : answers_to {w = 8} (with_links Profile.One 4 2 (Level.C ∷ Level.C ∷ []))
    (on 0 (get 0 3 256) ∷ on 0 (grant_ack 0) ∷ [])
    ≡ Refused A1 ∷ Refused A3 ∷ []
unfolding bytes_carried on_link broken_order bytes_from effect request_of release_of probe_of grant_sink pending held
    illegal each_below unfinished with_handed
    clients_from masks_carried corrupt_carried request_carried least_untaken services judged_at reaction offered
outside_the_map_and_then_closed = refl

a_corrupt_beat : answers_to {w = 8} (with_links Profile.One 4 2 (Level.C ∷ Level.C ∷ []))
    (on 0 (corrupted 0) ∷ [])
    ≡ Refused A2 ∷ []
unfolding bytes_carried on_link broken_order bytes_from effect request_of release_of probe_of grant_sink pending held
    illegal each_below unfinished with_handed
    clients_from masks_carried corrupt_carried request_carried least_untaken services judged_at reaction offered
a_corrupt_beat = refl

a_corrupt_beat_outside_the_map : answers_to {w = 8} (with_links Profile.One 4 2 (Level.C ∷ Level.C ∷ []))
    (on 0 (corrupted 256) ∷ [])
    ≡ Refused A1 ∷ []
unfolding bytes_carried on_link broken_order bytes_from effect request_of release_of probe_of grant_sink pending held
    illegal each_below unfinished with_handed
    clients_from masks_carried corrupt_carried request_carried least_untaken services judged_at reaction offered
a_corrupt_beat_outside_the_map = refl

a_report_without_a_probe : answers_to {w = 8} (with_links Profile.One 4 2 (Level.C ∷ Level.C ∷ []))
    (on 0 (report OpC.ProbeAck refl 5 0) ∷ [])
    ≡ Refused H10 ∷ []
unfolding bytes_carried on_link broken_order bytes_from effect request_of release_of probe_of grant_sink pending held
    illegal each_below unfinished with_handed
    clients_from masks_carried corrupt_carried request_carried least_untaken services judged_at reaction offered
a_report_without_a_probe = refl

a_beat_that_the_manager_sends : answers_to {w = 8} (with_links Profile.One 4 2 (Level.C ∷ Level.C ∷ []))
    (on 0 access_ack ∷ [])
    ≡ Refused L1 ∷ []
unfolding bytes_carried on_link broken_order bytes_from effect request_of release_of probe_of grant_sink pending held
    illegal each_below unfinished with_handed
    clients_from masks_carried corrupt_carried request_carried least_untaken services judged_at reaction offered
a_beat_that_the_manager_sends = refl

a_beat_of_another_channel : answers_to {w = 8} (with_links Profile.One 4 2 (Level.C ∷ Level.C ∷ []))
    (on_channel 0 Channel.C (get 0 3 256) ∷ [])
    ≡ Refused L1 ∷ []
unfolding bytes_carried on_link broken_order bytes_from effect request_of release_of probe_of grant_sink pending held
    illegal each_below unfinished with_handed
    clients_from masks_carried corrupt_carried request_carried least_untaken services judged_at reaction offered
a_beat_of_another_channel = refl

no_such_link : answers_to {w = 8} (with_links Profile.One 4 2 (Level.C ∷ Level.C ∷ []))
    (on 2 (get 0 3 0) ∷ on 2 (grant_ack 0) ∷ [])
    ≡ Refused A3 ∷ Refused A3 ∷ []
unfolding bytes_carried on_link broken_order bytes_from effect request_of release_of probe_of grant_sink pending held
    illegal each_below unfinished with_handed
    clients_from masks_carried corrupt_carried request_carried least_untaken services judged_at reaction offered
no_such_link = refl

-- and its block stays in service
a_closed_link_is_still_answered : answers_to {w = 8} (with_links Profile.One 4 2 (Level.C ∷ Level.C ∷ []))
    (on 1 (acquire 1 0) ∷ on 1 (grant_ack 0) ∷ on 0 (acquire 0 0) ∷ on 0 (get 0 3 64) ∷ reported 1 0 0 ++ on 1
    (get 0 3 0) ∷ on 1 (get 0 3 0) ∷ [])
    ≡ said 1 (grant_data 0 0 zeros) ∷ taken ∷ said 1 (probe 1) ∷ Refused H1 ∷ after_beats 7
    (said 0 (grant_data 1 0 zeros)) ++ Stalled ∷ Stalled ∷ []
unfolding bytes_carried on_link broken_order bytes_from effect request_of release_of probe_of grant_sink pending held
    illegal each_below unfinished with_handed
    clients_from masks_carried corrupt_carried request_carried least_untaken services judged_at reaction offered
a_closed_link_is_still_answered = refl

a_source_in_use_before_the_stall : answers_to {w = 8} (two_caches Profile.One)
    (writes ++ on 1 (acquire 1 0) ∷ on 1 (acquire 1 0) ∷ [])
    ≡ granted 0 ++ said 0 (probe 2) ∷ Refused H1 ∷ []
unfolding bytes_carried on_link broken_order bytes_from effect request_of release_of probe_of grant_sink pending held
    illegal each_below unfinished with_handed
    clients_from masks_carried corrupt_carried request_carried least_untaken services judged_at reaction offered
a_source_in_use_before_the_stall = refl

another_source_before_the_stall : answers_to {w = 8} (with_links Profile.One 1 1 (Level.C ∷ Level.UH ∷ []))
    (on 0 (acquire 1 0) ∷ replicate 7 (on 1 (put_block 0)) ++ on 1 (put_block 1) ∷ [])
    ≡ said 0 (grant_data 0 0 zeros) ∷ replicate 7 taken ++ Refused S1 ∷ []
unfolding bytes_carried on_link broken_order bytes_from effect request_of release_of probe_of grant_sink pending held
    illegal each_below unfinished with_handed
    clients_from masks_carried corrupt_carried request_carried least_untaken services judged_at reaction offered
another_source_before_the_stall = refl

-- ---- other widths

beats_of_4_bytes : answers_to {w = 4} (two_caches Profile.One)
    (writes ++ on 1 (acquire 0 0) ∷ reported 0 0 90 ++ on 1 (grant_ack 0) ∷ [])
    ≡ granted 0 ++ said 0 (probe 1) ∷ after_beats 15 (said 1 (grant_data 1 0 (block_from 90))) ++ taken ∷ []
unfolding bytes_carried on_link broken_order bytes_from effect request_of release_of probe_of grant_sink pending held
    illegal each_below unfinished with_handed
    clients_from masks_carried corrupt_carried request_carried least_untaken services judged_at reaction offered
beats_of_4_bytes = refl

beats_of_16_bytes : answers_to {w = 16} (two_caches Profile.One)
    (writes ++ on 1 (acquire 0 0) ∷ reported 0 0 90 ++ on 1 (grant_ack 0) ∷ [])
    ≡ granted 0 ++ said 0 (probe 1) ∷ after_beats 3 (said 1 (grant_data 1 0 (block_from 90))) ++ taken ∷ []
unfolding bytes_carried on_link broken_order bytes_from effect request_of release_of probe_of grant_sink pending held
    illegal each_below unfinished with_handed
    clients_from masks_carried corrupt_carried request_carried least_untaken services judged_at reaction offered
beats_of_16_bytes = refl

an_atomic_of_two_beats : answers_to {w = 4} (with_links Profile.One 1 1 (Level.UH ∷ []))
    (replicate 2 (on 0 (request_of_data OpA.PutFullData refl 0 3 0 15 (replicate 4 255)))
    ++ on 0 (request_of_data OpA.ArithmeticData refl 4 3 0 15 (lane_0 4 1)) ∷ on 0
    (request_of_data OpA.ArithmeticData refl 4 3 0 15 (replicate 4 0)) ∷ on 0
    (get 0 3 0) ∷ [])
    ≡ after_beats 1 (said 0 (answer OpD.AccessAck 3 refl zeros)) ++ after_beats 1
    (said 0 (answer OpD.AccessAckData 3 refl (replicate 8 255 ++ replicate 56 0)))
    ++ said 0 (answer OpD.AccessAckData 3 refl zeros) ∷ []
unfolding bytes_carried on_link broken_order bytes_from effect request_of release_of probe_of grant_sink pending held
    illegal each_below unfinished with_handed
    clients_from masks_carried corrupt_carried request_carried least_untaken services judged_at reaction offered
    number_from
an_atomic_of_two_beats = refl
