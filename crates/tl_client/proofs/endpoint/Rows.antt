-- What clients answer to operations and beats that are known from elsewhere, evaluated.
use Rattle.tl_client.proofs.Imports.{Message, unfinished, L7, H2, H3, A3}
use Rattle.tl_client.proofs.Imports.{broken_order, request_of, release_of, grant_sink, pending, held, illegal, B1, B2}
use Rattle.tl_client.proofs.Imports.{B4, B5, Acquire, AcquireWhole, Release}
use Rattle.tl_client.proofs.Imports.{Stalled, Taken, Done, asked, busy, least_free, low_bytes}
use Rattle.tl_client.proofs.Imports.{fresh, offered}
use Rattle.std.proofs.Common.{◌≡◌, refl, lit≤}
use Rattle.std.specs.Prelude.{ℕ, false, [], ◌∷◌, ◌++◌, Option, Some, None, replicate}
use Rattle.tl_beat.specs.declared.beat.Beat.TheVariants.{D}
use Rattle.tl_beat.specs.declared.channel.Channel.TheVariants as channel
use Rattle.tl_beat.specs.declared.opcode.OpA.TheVariants as a
use Rattle.tl_beat.specs.declared.opcode.OpD.TheVariants as d
use Rattle.tl_burst.specs.declared.message.Message.TheVariants as message
use Rattle.tl_params.specs.declared.level.Level.TheVariants as level
use Rattle.tl_params.specs.declared.param.Grow.TheVariants.{NtoB, NtoT, BtoT}
use Rattle.tl_params.specs.declared.param.Prune.TheVariants.{TtoN, BtoN}
use Rattle.tl_params.specs.declared.perm.Perm.TheVariants.{Branch, Trunk}
use Rattle.tl_params.specs.declared.profile.Profile.TheVariants as profile
use Rattle.tl_params.specs.declared.rule.Rule.TheVariants.{H6, A1}
use Rattle.tl_rules.specs.statement.Admission.{bytes_carried}
use Rattle.tl_rules.specs.statement.Effect.{number_from}
use Rattle.tl_rules.specs.statement.History.{probe_of}
use Rattle.tl_rules.specs.statement.Legality.{first_illegal, beats_from, each_below}
use Rattle.tl_client.specs.declared.reply.Reply.TheVariants.{Value, Stored, Miss, Started, Busy}
use Rattle.tl_client.specs.declared.verdict.Finish.TheVariants.{Granted, Released}
use Rattle.tl_client.proofs.endpoint.RowWords.{Event, plays, plain, caching, acquire, acquire_perm, probe_ack}
use Rattle.tl_client.proofs.endpoint.RowWords.{probe_ack_data, release, release_data, grant_ack, get_from, load, store}
use Rattle.tl_client.proofs.endpoint.RowWords.{get, part, probe, forwarded_get, release_ack, grant, grant_data, grants}
use Rattle.tl_client.proofs.endpoint.RowWords.{Replied, Judged, Refused}
use Rattle.tl_client.proofs.endpoint.RowWords.{access_data, started, says, granted, Ask, Offer}

-- ---- a plain client

busy_in_order : plays plain fresh (load ∷ get 4 (lit≤ tt) ∷ get 3 (lit≤ tt) ∷ get 3 (lit≤ tt) ∷ part ∷ [])
    ≡ says (Busy B4) ∷ says (Busy B5) ∷ started (Some (get_from 0 3 (lit≤ tt))) ∷ says (Busy B1) ∷ says (Busy B5) ∷ []
unfolding plays asked busy offered least_free low_bytes bytes_carried number_from unfinished request_of release_of
    probe_of grant_sink pending held illegal
    first_illegal beats_from each_below broken_order
busy_in_order = refl

-- ---- caching clients

-- a writer is probed by a reader
writer_then_reader : plays (caching 1) fresh (Ask (Acquire 0 NtoT) ∷ (grants 0 0 ++ store 90 ∷ probe 1 0 ∷ load ∷ []))
    ≡ started (acquire 1) ∷ (granted Trunk ++ says Stored ∷ Judged Taken (probe_ack_data 0 90) ∷ says (Value 90) ∷ [])
unfolding plays asked busy offered least_free low_bytes bytes_carried number_from unfinished request_of release_of
    probe_of grant_sink pending held illegal
    first_illegal beats_from each_below broken_order
writer_then_reader = refl

reader_of_new_data : plays (caching 1) fresh (Ask (Acquire 0 NtoB) ∷ (grants 1 90 ++ load ∷ []))
    ≡ started (acquire 0) ∷ (granted Branch ++ says (Value 90) ∷ [])
unfolding plays asked busy offered least_free low_bytes bytes_carried number_from unfinished request_of release_of
    probe_of grant_sink pending held illegal
    first_illegal beats_from each_below broken_order
reader_of_new_data = refl

-- a Probe waits for the ReleaseAck of its block
released_before_probe : plays (caching 1) fresh
    (Ask (Acquire 0 NtoT) ∷ (grants 0 0 ++ store 90 ∷ Ask (Release 0 TtoN) ∷ probe 2 0 ∷ release_ack ∷ probe 2 0 ∷ []))
    ≡ started (acquire 1) ∷ (granted Trunk ++ says Stored ∷ started (release_data 90) ∷ Judged Stalled None ∷ Judged
    (Done 0 Released) None ∷ Judged Taken (probe_ack 5) ∷ [])
unfolding plays asked busy offered least_free low_bytes bytes_carried number_from unfinished request_of release_of
    probe_of grant_sink pending held illegal
    first_illegal beats_from each_below broken_order
released_before_probe = refl

next_writer : plays (caching 1) fresh (Ask (Acquire 0 NtoT) ∷ (grants 0 90 ++ load ∷ []))
    ≡ started (acquire 1) ∷ (granted Trunk ++ says (Value 90) ∷ [])
unfolding plays asked busy offered least_free low_bytes bytes_carried number_from unfinished request_of release_of
    probe_of grant_sink pending held illegal
    first_illegal beats_from each_below broken_order
next_writer = refl

-- two readers become writers: the first without data, the second after a Probe
upgraded_without_data : plays (caching 1) fresh
    (Ask (Acquire 0 NtoB) ∷ (grants 1 0 ++ Ask (Acquire 0 BtoT) ∷ grant 0 ∷ probe 2 0 ∷ load ∷ []))
    ≡ started (acquire 0) ∷ (granted Branch ++ started (acquire 2) ∷ Judged (Done 0 (Granted Trunk)) grant_ack ∷ Judged
    Taken (probe_ack_data 1 0) ∷ says Miss ∷ [])
unfolding plays asked busy offered least_free low_bytes bytes_carried number_from unfinished request_of release_of
    probe_of grant_sink pending held illegal
    first_illegal beats_from each_below broken_order
upgraded_without_data = refl

upgraded_with_data : plays (caching 1) fresh
    (Ask (Acquire 0 NtoB) ∷ (grants 1 0 ++ Ask (Acquire 0 BtoT) ∷ probe 2 0 ∷ grants 0 0))
    ≡ started (acquire 0) ∷ (granted Branch ++ started (acquire 2) ∷ Judged Taken (probe_ack 2) ∷ granted Trunk)
unfolding plays asked busy offered least_free low_bytes bytes_carried number_from unfinished request_of release_of
    probe_of grant_sink pending held illegal
    first_illegal beats_from each_below broken_order
upgraded_with_data = refl

-- a whole block is stored as it is granted, though the copy was probed before
whole_block : plays (caching 1) fresh
    (Ask (Acquire 0 NtoB) ∷ (grants 1 0 ++ Ask (AcquireWhole 0 (replicate 64 17)) ∷ probe 2 0 ∷ load ∷ grant
    0 ∷ load ∷ []))
    ≡ started (acquire 0) ∷ (granted Branch ++ started (acquire_perm 2) ∷ Judged Taken (probe_ack 2) ∷ says
    Miss ∷ Judged (Done 0 (Granted Trunk)) grant_ack ∷ says (Value 17) ∷ [])
unfolding plays asked busy offered least_free low_bytes bytes_carried number_from unfinished request_of release_of
    probe_of grant_sink pending held illegal
    first_illegal beats_from each_below broken_order
whole_block = refl

released_and_acquired_again : plays (caching 1) fresh
    (Ask (Acquire 0 NtoB) ∷ (grants 1 0 ++ Ask (Release 0 BtoN) ∷ release_ack ∷ Ask (Acquire 0 NtoB) ∷ []))
    ≡ started (acquire 0) ∷ (granted Branch ++ started release ∷ Judged (Done 0 Released) None ∷ started
    (acquire 0) ∷ [])
unfolding plays asked busy offered least_free low_bytes bytes_carried number_from unfinished request_of release_of
    probe_of grant_sink pending held illegal
    first_illegal beats_from each_below broken_order
released_and_acquired_again = refl

-- ---- foreign peers of a caching client

release_ack_of_nothing : plays (caching 4) fresh (release_ack ∷ []) ≡ Refused H2 ∷ []
unfolding plays asked busy offered least_free low_bytes bytes_carried number_from unfinished request_of release_of
    probe_of grant_sink pending held illegal
    first_illegal beats_from each_below broken_order
release_ack_of_nothing = refl

probed_twice : plays (caching 4) fresh (probe 2 0 ∷ probe 2 0 ∷ []) ≡ Judged Taken (probe_ack 5) ∷ Judged Taken
    (probe_ack 5) ∷ []
unfolding plays asked busy offered least_free low_bytes bytes_carried number_from unfinished request_of release_of
    probe_of grant_sink pending held illegal
    first_illegal beats_from each_below broken_order
probed_twice = refl

probe_outside : plays (caching 4) fresh (probe 2 256 ∷ []) ≡ Refused A1 ∷ []
unfolding plays asked busy offered least_free low_bytes bytes_carried number_from unfinished request_of release_of
    probe_of grant_sink pending held illegal
    first_illegal beats_from each_below broken_order
probe_outside = refl

forwarded_access : plays (caching 4) fresh (forwarded_get ∷ []) ≡ Refused L7 ∷ []
unfolding plays asked busy offered least_free low_bytes bytes_carried number_from unfinished request_of release_of
    probe_of grant_sink pending held illegal
    first_illegal beats_from each_below broken_order
forwarded_access = refl

-- a Grant without data for a client that holds nothing, and what the client answers afterwards
grant_without_data : plays (caching 4) fresh (Ask (Acquire 0 NtoB) ∷ grant 1 ∷ load ∷ Ask (Release 0 BtoN) ∷ grant_data
    1 0 0 ∷ [])
    ≡ started (acquire 0) ∷ Refused H6 ∷ says Miss ∷ says (Busy B2) ∷ Refused A3 ∷ []
unfolding plays asked busy offered least_free low_bytes bytes_carried number_from unfinished request_of release_of
    probe_of grant_sink pending held illegal
    first_illegal beats_from each_below broken_order
grant_without_data = refl

grant_of_another_source : plays (caching 4) fresh (Ask (Acquire 0 NtoB) ∷ grant_data 1 1 0 ∷ []) ≡ started
    (acquire 0) ∷ Refused H2 ∷ []
unfolding plays asked busy offered least_free low_bytes bytes_carried number_from unfinished request_of release_of
    probe_of grant_sink pending held illegal
    first_illegal beats_from each_below broken_order
grant_of_another_source = refl

answer_of_another_size : plays (caching 4) fresh (get 3 (lit≤ tt) ∷ access_data 2 ∷ []) ≡ started
    (Some (get_from 0 3 (lit≤ tt))) ∷ Refused H3 ∷ []
unfolding plays asked busy offered least_free low_bytes bytes_carried number_from unfinished request_of release_of
    probe_of grant_sink pending held illegal
    first_illegal beats_from each_below broken_order
answer_of_another_size = refl

-- ---- the second profile

-- Trunk for an NtoB, under both profiles
trunk_refused : plays (caching 1) fresh (Ask (Acquire 0 NtoB) ∷ grant_data 0 0 0 ∷ []) ≡ started (acquire 0) ∷ Refused
    H6 ∷ []
unfolding plays asked busy offered least_free low_bytes bytes_carried number_from unfinished request_of release_of
    probe_of grant_sink pending held illegal
    first_illegal beats_from each_below broken_order
trunk_refused = refl

trunk_granted : plays (record { level = level.C; profile = profile.Two; sources = 1; blocks = 1 }) fresh
    (Ask (Acquire 0 NtoB) ∷ (grants 0 0 ++ store 90 ∷ load ∷ []))
    ≡ started (acquire 0) ∷ (granted Trunk ++ says Stored ∷ says (Value 90) ∷ [])
unfolding plays asked busy offered least_free low_bytes bytes_carried number_from unfinished request_of release_of
    probe_of grant_sink pending held illegal
    first_illegal beats_from each_below broken_order
trunk_granted = refl

-- ---- other widths

-- a beat of GrantData toT
abbrev wide_grant : (w : ℕ) → Event w
wide_grant w = Offer channel.D
    (D (record {
      opcode = d.GrantData;
      param = 0;
      size = 6;
      source = 0;
      sink = 0;
      denied = false;
      lanes =
          Some (replicate w 0);
      corrupt = false;
      carries = refl;
    }))

abbrev wide_acquire : (w mask : ℕ) → Option (Message w)
wide_acquire w mask = Some
    (message.A (record {
      opcode = a.AcquireBlock;
      param = 1;
      size = 6;
      source = 0;
      address = 0;
      payload =
          replicate 64 0;
      mask = mask;
      corrupt = 0;
      small = lit≤ tt;
    }))

granted_in_sixteen_beats : plays {w = 4} (caching 1) fresh (Ask (Acquire 0 NtoT) ∷ replicate 16 (wide_grant 4))
    ≡ Replied (Started 0) (wide_acquire 4 15) ∷ (replicate 15 (Judged Taken None) ++ Judged (Done 0 (Granted Trunk))
    (Some (message.E (record { sink = 0 }))) ∷ [])
unfolding plays asked busy offered least_free low_bytes bytes_carried number_from unfinished request_of release_of
    probe_of grant_sink pending held illegal
    first_illegal beats_from each_below broken_order
granted_in_sixteen_beats = refl

granted_in_four_beats : plays {w = 16} (caching 1) fresh (Ask (Acquire 0 NtoT) ∷ replicate 4 (wide_grant 16))
    ≡ Replied (Started 0) (wide_acquire 16 65535) ∷ (replicate 3 (Judged Taken None) ++ Judged (Done 0 (Granted Trunk))
    (Some (message.E (record { sink = 0 }))) ∷ [])
unfolding plays asked busy offered least_free low_bytes bytes_carried number_from unfinished request_of release_of
    probe_of grant_sink pending held illegal
    first_illegal beats_from each_below broken_order
granted_in_four_beats = refl
