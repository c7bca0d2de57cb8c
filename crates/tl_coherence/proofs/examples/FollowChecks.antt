-- Tests of the simulation relation, event by event, for the worked schedules.
-- Whether the protocol follows the world at every event of a list that is played, evaluated: the values that the ends,
-- the manager and the flow have are those of the protocol, and its phases are well. By tests with numbers, of which
-- those that fail are listed.
use Rattle.std.proofs.Common.{◌+◌, ◌≡◌, ℕ, zero, suc, ◌*◌, Bool, true, false, not, ◌&&◌, ◌||◌, ◌==◌, if◌then◌else◌, List, []}
use Rattle.std.proofs.Common.{◌∷◌, ◌++◌, Option, Some, None, refl, length, lit≤, replicate, reverse, option_map}
use Rattle.std.proofs.Common.{is_some}
use Rattle.tl_coherence.proofs
use proofs.Imports.{beq, Beat, BeatA, BeatB, Link, Channel, OpA, MessageA, a_beat_of, same_control, unfinished, Config}
use proofs.Imports.{AcquireOf, GrantAckOf, GrantSink, ProbeOf, ReleaseOf, ReleaseSource, RequestSource, Level, Cap}
use proofs.Imports.{Grow, Prune, Perm, Profile, Trace, comes_in_grant, comes_in_release, comes_in_request, same_perm}
use proofs.Imports.{on_link, bytes_from, block_at, is_acquire, grant_sink, held, pending, probe_of, release_of}
use proofs.Imports.{request_of, same_bytes, open_beat, comes_of, cap_probed, recorded, service_of_block, services}
use proofs.Imports.{Event, Deliver, acquires_of, acquires_with, is_of, releases_with, serves_of, serves_with}
use proofs.Imports.{tracks_with, is_unprobed, is_unreleased, is_whole, same_cap, ok, Free, Service, State, Waits, view}
use proofs.Imports.{is_acknowledging, is_answered, is_granting, is_unserved, is_wanting, AbstractState, abstract_step}
use proofs.Imports.{first_abstract_state, some_below, comes_granting, client_in, is_own, is_let_by, is_release_pending}
use proofs.links.Acknowledged.{acks}
use proofs.Imports.{one_if, is_requested, AccessMessages, messages_on, probe_beat, block_message, asked_by, cap_waited}
use proofs.Imports.{is_granted, is_served, started, receiver, flow, releases, requests, next_delivery}
use proofs.Imports.{accesses_answered, performing, Step, stepped, System}
use Rattle.tl_coherence.specs.refinement.Carried.{spelled}
use Rattle.tl_manager.specs.statement.Service as service
use proofs.examples.Checks.{Past, begun, next, all_below, failed, same_beats, performs}
use proofs.examples.Play.{evaluated, Drains, world, deliver, load, store, acquire, whole, release, access, Line, Does}
use proofs.queues.Phases.{implies}

-- ---- tests of values

abbrev pub same_a : {w : ℕ} → Option (BeatA w) → Option (BeatA w) → Bool
same_a (Some x) (Some y) = same_control (Beat.A x) (Beat.A y)
same_a None None = true
same_a _ _ = false

abbrev pub same_b : {w : ℕ} → Option (BeatB w) → Option (BeatB w) → Bool
same_b (Some x) (Some y) = same_control (Beat.B x) (Beat.B y)
same_b None None = true
same_b _ _ = false

abbrev pub is_number : ℕ → Option ℕ → Bool
is_number n (Some m) = m == n
is_number n None = false

-- ---- a client's end

abbrev pub known : {w : ℕ} → ℕ → ℕ → AccessMessages w → State (List ℕ) → System w → ℕ → Bool
known blocks sources mail s sys c = all_below blocks (λ n. same_perm (held n (sys.clients c).past)
    ((s.block n).pair c).held && (beq (pending (AcquireOf n) (sys.clients c).past)
    (is_wanting ((s.block n).pair c).acquiring) && (beq (pending (ReleaseOf n) (sys.clients c).past) (not (is_unreleased
    ((s.block n).pair c).letting)) && (not (pending (ProbeOf n) (sys.clients c).past) && beq (pending (GrantAckOf n)
    (sys.clients c).past) (comes_granting n (asked_by mail s c) (unfinished Channel.D (sys.clients c).past))))))
    && all_below sources (λ i. same_a (open_beat i (sys.clients c).past) (asked_by mail s c i) && beq
    (pending (GrantSink i) (sys.clients c).past) (comes_in_grant i (unfinished Channel.D (sys.clients c).past)))

abbrev pub opened : {w : ℕ} → ℕ → AccessMessages w → State (List ℕ) → System w → ℕ → Bool
opened sources mail s sys c =
    let released : Option ℕ → Option ℕ → Bool = elim [ None ↦ λ x. true | Some n ↦ λ x. is_number n x ] in
    all_below sources (λ i. beq (pending (RequestSource i) (sys.clients c).past) (is_some (asked_by mail s c i))
    && (beq (pending (ReleaseSource i) (sys.clients c).past) (is_some (s.lets c i)) && released (s.lets c i)
    (option_map (λ x. block_at x.address) (release_of i (sys.clients c).past))))

abbrev pub copied : Option (List ℕ) → List ℕ → Bool
copied None bytes = false
copied (Some copy) bytes = same_bytes copy bytes

abbrev pub kept : {w : ℕ} → ℕ → State (List ℕ) → System w → ℕ → Bool
kept blocks s sys c = all_below blocks (λ n. implies (not (same_perm ((s.block n).pair c).held Perm.None))
    (copied ((sys.clients c).copies n) ((s.block n).copy c)) && implies (is_whole ((s.block n).pair c).acquiring)
    (copied ((sys.clients c).waiting n) ((s.block n).waiting c)))

-- ---- the manager's end

abbrev pub managed : {w : ℕ} → ℕ → State (List ℕ) → Trace w → ℕ → Bool
managed blocks s t c = all_below blocks (λ n. same_perm (recorded c n t) ((s.block n).pair c).recorded
    && (beq (pending (ProbeOf n) (on_link c t)) (not (is_unprobed ((s.block n).pair c).probing))
    && (beq (pending (AcquireOf n) (on_link c t)) (is_own (view (s.block n).service c)) && beq (pending (GrantAckOf n)
    (on_link c t)) (is_granting (view (s.block n).service c) || is_acknowledging (view (s.block n).service c)))))

abbrev pub same_service : {w : ℕ} → Option (service.Service w) → Option ℕ → ℕ → MessageA w → Bool
same_service None None tracker m = true
same_service (Some x) (Some r) tracker m = (x.tracker == tracker)
    && ((x.link.0 == r) && same_control (Beat.A (a_beat_of x.request 0)) (Beat.A (a_beat_of m 0)))
same_service _ _ tracker m = false

abbrev pub same_option_cap : Option Cap → Cap → Bool
same_option_cap None k = false
same_option_cap (Some j) k = same_cap j k

abbrev pub is_for : {w : ℕ} → Service → ℕ → MessageA w → Trace w → Bool
is_for Free n m t = true
is_for (Waits r own source k) n m t =
    beq (is_acquire m.opcode) own && ((m.source == source) && ((block_at m.address == n) && (same_option_cap
    (cap_probed m.opcode m.param) k && same_a (request_of source (on_link r t)) (Some (a_beat_of m 0)))))
is_for _ n m t = is_acquire m.opcode && (block_at m.address == n)

abbrev pub in_service : {w : ℕ} → ℕ → AbstractState w → Trace w → Bool
in_service blocks h t = all_below blocks (λ n. same_service (service_of_block n (services t))
    (client_in (h.state.block n).service) (h.state.block n).tracker (h.request n) && is_for (h.state.block n).service n
    (h.request n) t)

abbrev pub served : {w : ℕ} → ℕ → ℕ → ℕ → State (List ℕ) → Trace w → ℕ → Bool
served blocks sources trackers s t c = all_below sources (λ i. beq (pending (RequestSource i) (on_link c t))
    (is_served c (s.uses c i) s || comes_in_request i (unfinished Channel.A (on_link c t))) && beq
    (pending (ReleaseSource i) (on_link c t)) (comes_in_release i (unfinished Channel.C (on_link c t))))
    && (all_below trackers (λ i. beq (pending (GrantSink i) (on_link c t)) (is_granted c (s.tracked i) s))
    && all_below blocks (λ n. beq (pending (ReleaseOf n) (on_link c t))
    (comes_of n (unfinished Channel.C (on_link c t))) && implies (not (is_unprobed ((s.block n).pair c).probing))
    (same_b (probe_of n (on_link c t)) (Some (probe_beat n (cap_waited (s.block n).service))))))

-- ---- the flow

abbrev pub flowed : {w : ℕ} → ℕ → ℕ → ℕ → AccessMessages w → State (List ℕ) → System w → List (Beat w) → ℕ → Bool
flowed {w} blocks sources trackers mail s sys t c =
    let rest : Channel → List (Beat w) = λ ch. unfinished ch (receiver ch c sys) in
    let still : Channel → Bool = λ ch. same_beats (unfinished ch t) (rest ch) in
    all_below blocks
    (λ n. same_perm (held n t) (if is_granting (view (s.block n).service c) then ((s.block n).pair c).held else
    ((s.block n).pair c).recorded) && (beq (pending (AcquireOf n) t) (is_wanting ((s.block n).pair c).acquiring
    && not (is_unserved (view (s.block n).service c))) && (beq (pending (ReleaseOf n) t) (is_release_pending
    ((s.block n).release_source c) (rest Channel.C) ((s.block n).pair c).letting) && (beq (pending (GrantAckOf n) t)
    (is_acknowledging (view (s.block n).service c) || comes_granting n (asked_by mail s c) (rest Channel.D))
    && (beq (pending (ProbeOf n) t) (is_answered ((s.block n).pair c).probing) && (implies (is_answered
    ((s.block n).pair c).probing) (same_b (probe_of n t) (Some (probe_beat n (cap_waited (s.block n).service))))
    && implies (pending (GrantAckOf n) t) (is_of (s.block n).tracker (grant_sink n t))))))))
    && (all_below sources (λ i. beq (pending (RequestSource i) t) (is_requested c i (rest Channel.A) (s.uses c i) s)
    && (implies (pending (RequestSource i) t) (same_a (request_of i t) (asked_by mail s c i))
    && (beq (pending (ReleaseSource i) t) (is_let_by c i (rest Channel.C) (s.lets c i) s) && implies
    (pending (ReleaseSource i) t) (is_of 6 (option_map (λ x. x.size) (release_of i t))))))
    && (all_below trackers (λ i. one_if (pending (GrantSink i) t) == one_if (pending (GrantSink i) (sys.clients c).past)
    + acks i (sys.channels c Channel.E))
    && (still Channel.A && (still Channel.B && (still Channel.C && (still Channel.D && still Channel.E))))))

-- ---- channels, the memory and the protocol by itself

abbrev pub carries : {w : ℕ} → AccessMessages w → State (List ℕ) → System w → ℕ → Channel → Bool
carries mail s sys c ch = same_beats (reverse (unfinished ch (receiver ch c sys)) ++ sys.channels c ch)
    (spelled (messages_on ch mail s c))

abbrev pub all_carry : {w : ℕ} → AccessMessages w → State (List ℕ) → System w → ℕ → Bool
all_carry mail s sys c = carries mail s sys c Channel.A && (carries mail s sys c Channel.B
    && (carries mail s sys c Channel.C && (carries mail s sys c Channel.D && carries mail s sys c Channel.E)))

abbrev pub named : ℕ → ℕ → ℕ → State (List ℕ) → ℕ → Bool
named blocks sources trackers s c = all_below blocks (λ n. ok ((s.block n).pair c) (view (s.block n).service c)
    && (all_below sources (λ i. beq (acquires_of n (s.uses c i)) (acquires_with c i (s.block n)) && (beq (serves_of n
    (s.uses c i)) (serves_with c i (s.block n)) && beq (is_of n (s.lets c i)) (releases_with c i (s.block n))))
    && all_below trackers (λ i. beq (is_of n (s.tracked i)) (tracks_with i (s.block n)))))

abbrev pub remembers : {w : ℕ} → ℕ → State (List ℕ) → Past w → Bool
remembers blocks s p = all_below blocks (λ n. same_bytes (bytes_from p.system.manager.memory (64 * n) 64)
    (s.block n).memory && same_bytes (bytes_from p.machine.memory (64 * n) 64) (s.block n).truth)

-- ---- playing

-- a whole with its past, and the protocol beside it
pub record Followed (w : ℕ) : Type 0 where
  pub past : Past w
  pub shadow : AbstractState w

abbrev pub beginning : {w : ℕ} → Followed w
beginning = record { past = begun; shadow = first_abstract_state }

abbrev pub faults_at : {w : ℕ} → ℕ → ℕ → Config → Followed w → List ℕ → List ℕ
faults_at clients sources config f more =
    failed 1 (all_below clients (known config.blocks sources f.shadow.mail f.shadow.state f.past.system))
    (failed 2 (all_below clients (opened sources f.shadow.mail f.shadow.state f.past.system))
    (failed 3 (all_below clients (kept config.blocks f.shadow.state f.past.system))
    (failed 4 (all_below clients (managed config.blocks f.shadow.state f.past.system.manager.trace))
    (failed 5 (in_service config.blocks f.shadow f.past.system.manager.trace) (failed 6 (all_below clients
    (served config.blocks sources config.trackers f.shadow.state f.past.system.manager.trace)) (failed 7
    (all_below clients (λ c. flowed config.blocks sources config.trackers f.shadow.mail f.shadow.state f.past.system
    (flow c f.past.log) c)) (failed 8 (all_below clients (all_carry f.shadow.mail f.shadow.state f.past.system))
    (failed 9 (all_below clients (named config.blocks sources config.trackers f.shadow.state))
    (failed 10 (remembers config.blocks f.shadow.state f.past) more)))))))))

abbrev pub after_event : {w : ℕ} → Config → Event w → Step w → Followed w → Followed w
after_event config event step f =
    record { past = next event step f.past; shadow = abstract_step config event f.past.system f.shadow }

abbrev pub checked : {w : ℕ} → ℕ → ℕ → Config → Event w → Followed w → (Followed w → List ℕ) → List ℕ
checked {w} clients sources config event f later =
    let g : Followed w = after_event config event (stepped config event f.past.system) f in
    faults_at clients sources config g (later g)

abbrev pub on_delivery : {w : ℕ} → ℕ → ℕ → Config → Option (Link × Channel) → Followed w → (Followed w → List ℕ)
    → (Followed w → List ℕ) → List ℕ
on_delivery clients sources config None f on stop = stop f
on_delivery clients sources config (Some d) f on stop = checked clients sources config (Deliver d.0 d.1) f on

unfoldable pub faults_draining : {w : ℕ} → ℕ → ℕ → Config → ℕ → Followed w → (Followed w → List ℕ) → List ℕ
faults_draining clients sources config zero f stop = stop f
faults_draining clients sources config (suc n) f stop = on_delivery clients sources config
    (next_delivery config f.past.system) f (λ g. faults_draining clients sources config n g stop) stop

unfoldable pub faults : {w : ℕ} → ℕ → ℕ → Config → List (Line w) → Followed w → List ℕ
faults clients sources config [] f = []
faults clients sources config (Does e ∷ lines) f =
    checked clients sources config e f (faults clients sources config lines)
faults clients sources config (Drains n ∷ lines) f =
    faults_draining clients sources config n f (faults clients sources config lines)

-- the protocol follows the world at these lines; sources are tried up to this number
abbrev pub Follows : {w : ℕ} → ℕ → Config → List (Line w) → Type 0
Follows {w} sources config lines = faults {w = w} (length config.clients.items) sources config lines beginning ≡ []

-- what unfolds besides where these tests are evaluated
unfoldable pub evaluated_tests : ℕ
unfolding block_message some_below spelled ok performs all_below flow started requests releases accesses_answered
    performing
evaluated_tests = 0

-- ---- lists that are known from elsewhere

plain_accesses_of_what_a_cache_holds : Follows {w = 8} 2 (world Profile.One 2 1 ((Level.C, 1) ∷ (Level.UL, 1) ∷ []))
    ((acquire 0 0 Grow.NtoT ∷ Drains 220 ∷ store 0 0 0 90 ∷ access 1 OpA.Get 0 0 (lit≤ tt) 0 1
    (replicate 64 0) ∷ deliver 1 Channel.A ∷ deliver 0 Channel.B ∷ []) ++ replicate 8 (deliver 0 Channel.C)
    ++ (deliver 1 Channel.D ∷ load 0 0 0 ∷ access 1 OpA.PutFullData 0 0 (lit≤ tt) 0 1 ((107 ∷ []) ++ replicate 63 0)
    ∷ deliver 1 Channel.A ∷ deliver 0 Channel.B ∷ deliver 0 Channel.C ∷ deliver 1 Channel.D ∷ load 0 0 0 ∷ []))
unfolding faults faults_draining evaluated_tests evaluated
plain_accesses_of_what_a_cache_holds = refl

bytes_of_a_word : Follows {w = 8} 2 (world Profile.One 1 1 ((Level.UL, 1) ∷ []))
    ((access 0 OpA.PutPartialData 0 2 (lit≤ tt) 4 80 (replicate 4 0 ++ (17 ∷ 34 ∷ 51 ∷ 68 ∷ []) ++ replicate 56 0)
    ∷ Drains 220 ∷ access 0 OpA.Get 0 3 (lit≤ tt) 0 255 (replicate 64 0) ∷ Drains 220 ∷ []))
unfolding faults faults_draining evaluated_tests evaluated
bytes_of_a_word = refl

a_put_counts_from_its_last_beat : Follows {w = 8} 2 (world Profile.One 1 1 ((Level.UH, 1) ∷ (Level.UH, 1) ∷ []))
    ((access 0 OpA.PutFullData 0 6 (lit≤ tt) 0 18446744073709551615 (replicate 64 255) ∷ [])
    ++ replicate 7 (deliver 0 Channel.A)
    ++ (access 1 OpA.Get 0 3 (lit≤ tt) 0 255 (replicate 64 0) ∷ deliver 1 Channel.A ∷ deliver 1 Channel.D ∷ []))
unfolding faults faults_draining evaluated_tests evaluated
a_put_counts_from_its_last_beat = refl

min_by_sign_and_without : Follows {w = 8} 2 (world Profile.One 1 1 ((Level.UH, 1) ∷ []))
    ((access 0 OpA.PutFullData 0 2 (lit≤ tt) 0 15 (replicate 4 255 ++ replicate 60 0) ∷ Drains 220 ∷ access 0
    OpA.ArithmeticData 0 2 (lit≤ tt) 0 15
    ((1 ∷ []) ++ replicate 63 0) ∷ Drains 220 ∷ access 0 OpA.ArithmeticData 2 2 (lit≤ tt) 0 15
    ((1 ∷ []) ++ replicate 63 0) ∷ Drains 220 ∷ access 0 OpA.Get 0 2 (lit≤ tt) 0 15 (replicate 64 0) ∷ Drains 220 ∷ []))
unfolding faults faults_draining evaluated_tests evaluated
min_by_sign_and_without = refl

add_wraps : Follows {w = 8} 2 (world Profile.One 1 1 ((Level.UH, 1) ∷ []))
    ((access 0 OpA.PutFullData 0 3 (lit≤ tt) 0 255 (replicate 8 255 ++ replicate 56 0) ∷ Drains 220 ∷ access 0
    OpA.ArithmeticData 4 3 (lit≤ tt) 0 255 ((1 ∷ []) ++ replicate 63 0) ∷ Drains 220 ∷ access 0 OpA.Get 0 3 (lit≤ tt) 0
    255 (replicate 64 0) ∷ Drains 220 ∷ []))
unfolding faults faults_draining evaluated_tests evaluated
add_wraps = refl

a_reader_gets_what_the_writer_stored : Follows {w = 8} 2 (world Profile.One 1 1 ((Level.C, 1) ∷ (Level.C, 1) ∷ []))
    ((acquire 0 0 Grow.NtoT ∷ Drains 220 ∷ store 0 0 0 90 ∷ acquire 1 0 Grow.NtoB ∷ Drains 220 ∷ load 0 0 0 ∷ load 1 0
    0 ∷ []))
unfolding faults faults_draining evaluated_tests evaluated
a_reader_gets_what_the_writer_stored = refl

a_release_while_a_probe_waits : Follows {w = 8} 2 (world Profile.One 1 1 ((Level.C, 1) ∷ (Level.C, 1) ∷ []))
    ((acquire 0 0 Grow.NtoT ∷ Drains 220 ∷ store 0 0 0 90 ∷ acquire 1 0 Grow.NtoT ∷ deliver 1 Channel.A ∷ release 0 0
    Prune.TtoN ∷ deliver 0 Channel.B ∷ Drains 220 ∷ load 1 0 0 ∷ []))
unfolding faults faults_draining evaluated_tests evaluated
a_release_while_a_probe_waits = refl

the_second_writer_gets_data : Follows {w = 8} 2 (world Profile.One 1 2 ((Level.C, 1) ∷ (Level.C, 1) ∷ []))
    ((acquire 0 0 Grow.NtoB ∷ Drains 220 ∷ acquire 1 0 Grow.NtoB ∷ Drains 220 ∷ acquire 0 0 Grow.BtoT ∷ acquire 1 0
    Grow.BtoT ∷ Drains 220 ∷ []))
unfolding faults faults_draining evaluated_tests evaluated
the_second_writer_gets_data = refl

a_whole_block_store_takes_no_data : Follows {w = 8} 2 (world Profile.One 1 2 ((Level.C, 1) ∷ (Level.C, 1) ∷ []))
    ((acquire 0 0 Grow.NtoB ∷ Drains 220 ∷ acquire 1 0 Grow.NtoB ∷ Drains 220 ∷ acquire 0 0 Grow.BtoT ∷ whole 1 0
    (replicate 64 17) ∷ Drains 220 ∷ load 1 0 0 ∷ load 0 0 0 ∷ []))
unfolding faults faults_draining evaluated_tests evaluated
a_whole_block_store_takes_no_data = refl

a_release_before_its_grant_ack : Follows {w = 8} 2 (world Profile.One 1 1 ((Level.C, 1) ∷ []))
    ((acquire 0 0 Grow.NtoB ∷ deliver 0 Channel.A ∷ []) ++ replicate 8 (deliver 0 Channel.D)
    ++ (release 0 0 Prune.BtoN ∷ deliver 0 Channel.C ∷ deliver 0 Channel.D ∷ acquire 0 0 Grow.NtoB ∷ deliver 0
    Channel.A ∷ deliver 0 Channel.E ∷ deliver 0 Channel.A ∷ []))
unfolding faults faults_draining evaluated_tests evaluated
a_release_before_its_grant_ack = refl

busy_in_order : Follows {w = 8} 2 (world Profile.One 1 1 ((Level.UL, 1) ∷ []))
    ((load 0 0 0 ∷ access 0 OpA.Get 0 4 (lit≤ tt) 0 255 (replicate 64 0) ∷ access 0 OpA.Get 0 3 (lit≤ tt) 0 255
    (replicate 64 0) ∷ access 0 OpA.Get 0 3 (lit≤ tt) 0 255 (replicate 64 0) ∷ access 0 OpA.PutPartialData 0 1 (lit≤ tt)
    7 128 (replicate 7 0 ++ (17 ∷ []) ++ replicate 56 0) ∷ deliver 0 Channel.D ∷ []))
unfolding faults faults_draining evaluated_tests evaluated
busy_in_order = refl

beats_of_4_bytes : Follows {w = 4} 2 (world Profile.One 1 1 ((Level.C, 1) ∷ (Level.C, 1) ∷ []))
    ((acquire 0 0 Grow.NtoT ∷ Drains 220 ∷ store 0 0 0 90 ∷ acquire 1 0 Grow.NtoB ∷ Drains 220 ∷ load 0 0 0 ∷ load 1 0
    0 ∷ []))
unfolding faults faults_draining evaluated_tests evaluated
beats_of_4_bytes = refl

beats_of_16_bytes : Follows {w = 16} 2 (world Profile.One 1 1 ((Level.C, 1) ∷ (Level.C, 1) ∷ []))
    ((acquire 0 0 Grow.NtoT ∷ Drains 220 ∷ store 0 0 0 90 ∷ acquire 1 0 Grow.NtoB ∷ Drains 220 ∷ load 0 0 0 ∷ load 1 0
    0 ∷ []))
unfolding faults faults_draining evaluated_tests evaluated
beats_of_16_bytes = refl

an_atomic_of_two_beats : Follows {w = 4} 2 (world Profile.One 1 1 ((Level.UH, 1) ∷ []))
    ((access 0 OpA.PutFullData 0 3 (lit≤ tt) 0 255 (replicate 8 255 ++ replicate 56 0) ∷ Drains 220 ∷ access 0
    OpA.ArithmeticData 4 3 (lit≤ tt) 0 255 ((1 ∷ []) ++ replicate 63 0) ∷ Drains 220 ∷ []))
unfolding faults faults_draining evaluated_tests evaluated
an_atomic_of_two_beats = refl

a_lone_reader_may_write : Follows {w = 8} 2 (world Profile.Two 1 1 ((Level.C, 1) ∷ (Level.C, 1) ∷ []))
    ((acquire 0 0 Grow.NtoB ∷ Drains 220 ∷ store 0 0 0 90 ∷ acquire 1 0 Grow.NtoB ∷ Drains 220 ∷ []))
unfolding faults faults_draining evaluated_tests evaluated
a_lone_reader_may_write = refl

nobody_has_it_any_longer_at_the_grant : Follows {w = 8} 2 (world Profile.Two 1 1 ((Level.C, 1) ∷ (Level.C, 1) ∷ []))
    ((acquire 0 0 Grow.NtoB ∷ Drains 220 ∷ store 0 0 0 90 ∷ acquire 1 0 Grow.NtoB ∷ deliver 1 Channel.A ∷ release 0 0
    Prune.TtoN ∷ Drains 220 ∷ []))
unfolding faults faults_draining evaluated_tests evaluated
nobody_has_it_any_longer_at_the_grant = refl

-- two blocks and two trackers, with Releases beside Acquires, and the oldest beats not first
beside_each_other : Follows {w = 16} 3 (world Profile.One 2 2 ((Level.C, 2) ∷ (Level.C, 2) ∷ (Level.UH, 1) ∷ []))
    ((acquire 0 0 Grow.NtoT ∷ acquire 0 1 Grow.NtoB ∷ acquire 1 1 Grow.NtoB ∷ Drains 220 ∷ store 0 0 2 90 ∷ release 0 1
    Prune.BtoN ∷ release 0 0 Prune.TtoB ∷ acquire 1 0 Grow.NtoB ∷ deliver 1 Channel.A ∷ whole 1 1
    (replicate 64 7) ∷ access 2 OpA.Get 0 6 (lit≤ tt) 0 65535 (replicate 64 0) ∷ deliver 2 Channel.A ∷ deliver 0
    Channel.C ∷ Drains 220 ∷ access 2 OpA.PutFullData 0 6 (lit≤ tt) 0 18446744073709551615 (replicate 64 3) ∷ acquire 0
    1 Grow.NtoB ∷ Drains 220 ∷ release 0 1 Prune.BtoN ∷ Drains 220 ∷ access 0 OpA.Intent 0 6 (lit≤ tt) 0 65535
    (replicate 64 0) ∷ Drains 220 ∷ []))
unfolding faults faults_draining evaluated_tests evaluated
beside_each_other = refl
