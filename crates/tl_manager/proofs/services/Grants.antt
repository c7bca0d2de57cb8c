-- A Grant that is handed out answers an Acquire in service, whose tracker is its sink.
use Rattle.tl_manager.proofs.Imports.{Beat, BeatA, BeatC, Link, A, MessageA, channel_of, unfinished, Answer, Config}
use Rattle.tl_manager.proofs.Imports.{Cap, Trace, on_link, Memory, effect, answer_of, ends, block_at, is_acquire}
use Rattle.tl_manager.proofs.Imports.{is_probe_ack, is_release, probe_of_block, release_ack, access_answer, grant}
use Rattle.tl_manager.proofs.Imports.{Reaction, nothing, performed, cap_probed, probed, is_settled, Each, is_granting}
use Rattle.tl_manager.proofs.Imports.{request_if, request_carried, Service, with_service, least_untaken, trackers_of}
use Rattle.tl_manager.proofs.Imports.{services, service_of_block, probing_or, begun_with, begun_if_any}
use Rattle.tl_manager.proofs.Imports.{performed_if_any, finish, written, completed_c, completed, reaction, End}
use Rattle.std.proofs.Common.{◌≡◌, ℕ, ◌==◌, Bool, true, false, cond, ◌||◌, List, [], ◌∷◌, map, Option, Some, None, refl}
use Rattle.std.{specs.Prelude.nat_le, specs.Prelude.option_map, specs.Prelude.if◌then◌else◌, proofs.lemmas.Bool.eq-eqb}
use Rattle.tl_manager.{proofs.words_of_clients.Lists.each_weaker, proofs.messages.Requests.made_of}
use Rattle.tl_manager.{proofs.pending.Sinks.grants_by, proofs.pending.Sinks.IsGranted}

-- all Grants handed out are so
abbrev AllGranted : {w : ℕ} → List (Service w) → Reaction w → Type 0
AllGranted ss d = Each (IsGranted ss) d.handed

-- the service, where it is of an Acquire, is one of these
abbrev IsAmong : {w : ℕ} → List (Service w) → Service w → Type 0
IsAmong ss s = is_acquire s.request.opcode ≡ true → is_granting s.link.0 s.tracker ss ≡ true

own_tracker : {w : ℕ} (s : Service w) (ss : List (Service w)) → IsAmong (s ∷ ss) s
own_tracker s ss acquires = rw (acquires, eq-eqb s.link.0 s.link.0 refl, eq-eqb s.tracker s.tracker refl) refl

among_more : {w : ℕ} (s t : Service w) (ss : List (Service w)) → IsAmong ss t → IsAmong (s ∷ ss) t
among_more s t ss among acquires = go (grants_by t.link.0 t.tracker s) (among acquires)
  where
    go : (b : Bool) → is_granting t.link.0 t.tracker ss ≡ true → (b || is_granting t.link.0 t.tracker ss) ≡ true
    go true e = refl
    go false e = e

all_among : {w : ℕ} (ss : List (Service w)) → Each (IsAmong ss) ss
all_among [] = tt
all_among (s ∷ ss) = (
  own_tracker s ss,
  each_weaker (IsAmong ss) (IsAmong (s ∷ ss)) ss
      (λ t among. among_more s t ss among) (all_among ss),
)

-- ---- answers

no_grant : {w : ℕ} (ss : List (Service w)) (link : Link) (m : MessageA w) (kind : Answer)
    → IsGranted ss (link, access_answer m kind)
no_grant ss link m Answer.Ack = λ e. absurd cc
no_grant ss link m v = λ e. absurd cc

performed_granted : {w : ℕ} (config : Config) (s : Service w) (t : Trace w) (memory : Memory) (ss : List (Service w))
    → IsAmong ss s → AllGranted ss (performed config s t memory)
performed_granted {w} config s t memory ss among = go (is_acquire s.request.opcode) refl
  where
    go : (b : Bool) → is_acquire s.request.opcode ≡ b → AllGranted ss (if b
        then record { handed = (s.link, grant config s t memory) ∷ []; memory = memory }
        else record {
          handed = (
            s.link,
            access_answer s.request
                (answer_of (A s.request) (effect (A s.request) memory).1),
          ) ∷ [];
          memory = (effect (A s.request) memory).0;
        })
    go true acquires = (λ e. among acquires, tt)
    go false acquires = (no_grant ss s.link s.request _, tt)

probes_granted : {w : ℕ} (ss : List (Service w)) (block : ℕ) (c : Cap) (clients : List ℕ)
    → Each (IsGranted ss) (map (λ n. (record { 0 = n }, probe_of_block block c)) clients)
probes_granted ss block c [] = tt
probes_granted ss block c (client ∷ clients) = (tt, probes_granted ss block c clients)

probing_granted : {w : ℕ} (ss : List (Service w)) (d : Reaction w) (block : ℕ) (c : Cap) (clients : List ℕ)
    (memory : Memory) → AllGranted ss d → AllGranted ss (probing_or d block c clients memory)
probing_granted ss d block c [] memory granted = granted
probing_granted ss d block c (client ∷ clients) memory granted = probes_granted ss block c (client ∷ clients)

begun_granted : {w : ℕ} (config : Config) (o : Option Cap) (s : Service w) (t : Trace w) (memory : Memory)
    (ss : List (Service w)) → IsAmong ss s → AllGranted ss (begun_with config o s t memory)
begun_granted config None s t memory ss among = performed_granted config s t memory ss among
begun_granted config (Some c) s t memory ss among =
    probing_granted ss (performed config s t memory) (block_at s.request.address) c (probed config s c t) memory
    (performed_granted config s t memory ss among)

begun_new : {w : ℕ} (config : Config) (link : Link) (x : BeatA w) (beats : List (Beat w)) (tracker : ℕ) (t : Trace w)
    (memory : Memory)
    (before ss : List (Service w)) (fits : Bool) (e : nat_le x.size 6 ≡ fits)
    → ss ≡ with_service (option_map (λ m. record { tracker = tracker; link = link; request = m })
    (request_if x beats fits e)) before
    → AllGranted ss (begun_if_any config (option_map (λ m. record { tracker = tracker; link = link; request = m })
    (request_if x beats fits e)) t memory)
begun_new config link x beats tracker t memory before ss false e is = tt
begun_new {w} config link x beats tracker t memory before ss true e is =
    let s : Service w = record { tracker = tracker; link = link; request = made_of x beats e } in
    begun_granted config (cap_probed x.opcode x.param) s t memory ss (rw is (own_tracker s before))

found_granted : {w : ℕ} (config : Config) (block : ℕ) (found ss : List (Service w)) (t : Trace w) (memory : Memory)
    → Each (IsAmong ss) found
    → AllGranted ss (performed_if_any config (service_of_block block found) t memory)
found_granted config block [] ss t memory among = tt
found_granted {w} config block (s ∷ found) ss t memory among =
    go (block_at s.request.address == block) (found_granted config block found ss t memory among.1)
  where
    go : (b : Bool) → AllGranted ss (performed_if_any config (service_of_block block found) t memory)
        → AllGranted ss (performed_if_any config (cond b (Some s) (service_of_block block found)) t memory)
    go true rest = performed_granted config s t memory ss among.0
    go false rest = rest

settled_granted : {w : ℕ} (config : Config) (block : ℕ) (t : Trace w) (memory : Memory)
    → AllGranted (services t) (finish config block t memory)
settled_granted {w} config block t memory = go (is_settled config block t)
  where
    go : (b : Bool) → AllGranted (services t) (if b then performed_if_any config (service_of_block block (services t)) t
        memory else nothing memory)
    go true = found_granted config block (services t) (services t) t memory (all_among (services t))
    go false = tt

done_c_granted : {w : ℕ} (config : Config) (link : Link) (x : BeatC w) (t : Trace w) (memory : Memory)
    → AllGranted (services t) (completed_c config link x t memory)
done_c_granted {w} config link x t memory = go (is_release x.opcode) (is_probe_ack x.opcode)
  where
    go : (r p : Bool) → AllGranted (services t) (if r then record {
      handed = (link, release_ack x.source) ∷ [];
      memory =
          memory;
    } else if p then finish config
        (block_at x.address) t memory else nothing memory)
    go true p = (λ e. absurd cc, tt)
    go false true = settled_granted config (block_at x.address) t memory
    go false false = tt

done_granted : {w : ℕ} (config : Config) (link : Link) (x : Beat w) (e : End w) (last : Bool)
    → ends x (on_link link.0 e.trace) ≡ last
    → AllGranted (services ((link, x) ∷ e.trace))
    (if last then completed config link x (unfinished (channel_of x) (on_link link.0 e.trace)) e.trace e.memory else
    nothing e.memory)
unfolding request_carried services
done_granted config link x e false last = tt
done_granted {w} config link (Beat.A x) e true last =
    let burst : List (Beat w) = unfinished (channel_of (Beat.A x)) (on_link link.0 e.trace) in
    begun_new config link x (Beat.A x ∷ burst) (least_untaken (trackers_of (services e.trace)))
    ((link, Beat.A x) ∷ e.trace) e.memory (services e.trace)
    (services ((link, Beat.A x) ∷ e.trace)) (nat_le x.size 6) refl (rw last refl)
done_granted config link (Beat.B x) e true last = tt
done_granted config link (Beat.C x) e true last =
    done_c_granted config link x ((link, Beat.C x) ∷ e.trace)
    (written x (Beat.C x ∷ unfinished (channel_of (Beat.C x)) (on_link link.0 e.trace)) e.memory)
done_granted config link (Beat.D x) e true last = tt
done_granted config link (Beat.E x) e true last = tt

pub reaction_granted : {w : ℕ} (config : Config) (link : Link) (x : Beat w) (e : End w)
    → Each (IsGranted (services ((link, x) ∷ e.trace))) (reaction config link x e).handed
unfolding reaction
reaction_granted config link x e = done_granted config link x e (ends x (on_link link.0 e.trace)) refl
