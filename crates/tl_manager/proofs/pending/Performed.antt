-- What is pending after a request was performed and answered.
use Rattle.tl_manager.proofs.Imports.{Message, A, D, MessageA, MessageD, Config, ProbeOf, Answer, Trace, Memory, effect}
use Rattle.tl_manager.proofs.Imports.{answer_of, block_at, is_grant, is_acquire, is_release_ack, Reaction, with_handed}
use Rattle.tl_manager.proofs.Imports.{performed, grant, grant_opcode, access_answer, recorded, is_settled, is_awaited}
use Rattle.tl_manager.proofs.Imports.{IsSteady, Service, services, service_of_block, is_access_answer, IsReady}
use Rattle.std.proofs.Common.{◌≡◌, ℕ, ◌==◌, Bool, true, false, not, ◌&&◌, ◌||◌, [], ◌∷◌, None, refl, sym, ap, subst}
use Rattle.std.proofs.Common.{◌∙◌}
use Rattle.std.{specs.Prelude.filter, specs.Prelude.if◌then◌else◌, proofs.lemmas.Bool.eqb-true}
use Rattle.tl_manager.{specs.statement.Handing.is_granted_data, proofs.words_of_clients.Counts.serving-without}
use Rattle.tl_manager.{proofs.pending.Handed.after_sent, proofs.pending.Replied.IsReply}
use Rattle.tl_manager.{proofs.pending.Replies.reply-quiet, proofs.blocks.Unmoved.awaited-same}
use Rattle.tl_manager.proofs.pending.Accesses.{answer_kind, granted-still, services-answer, accounted-answer}
use Rattle.tl_manager.proofs.pending.Granted.{IsGrant, granted-now, granted-elsewhere, services-grant, accounted-grant}

-- ---- the answers

pub grants_by_opcode : (b : Bool) → (is_grant (grant_opcode b) ≡ true) × (is_release_ack (grant_opcode b) ≡ false)
grants_by_opcode true = (refl, refl)
grants_by_opcode false = (refl, refl)

-- a Grant is a message of channel D with the source of its request and the tracker as its sink
pub grant_is : {w : ℕ} (config : Config) (s : Service w) (t : Trace w) (memory : Memory)
    → (m : MessageD w) × (grant config s t memory ≡ D m) × (is_grant m.opcode ≡ true)
    × (is_release_ack m.opcode ≡ false) × (m.source ≡ s.request.source) × (m.sink ≡ s.tracker)
grant_is config s t memory =
    let kind = grants_by_opcode
    (is_granted_data s.request.opcode s.request.param (recorded s.link.0 (block_at s.request.address) t)) in
    (_, refl, kind.0, kind.1, refl, refl)

-- and so is an answer to an access
pub answer_is : {w : ℕ} (r : MessageA w) (kind : Answer)
    → (m : MessageD w) × (access_answer r kind ≡ D m) × (is_access_answer m.opcode ≡ true)
    × (is_release_ack m.opcode ≡ false) × (m.source ≡ r.source)
answer_is r Answer.Ack = (_, refl, refl, refl, refl)
answer_is r v = (_, refl, refl, refl, refl)

-- ---- a request that may be performed

pub reply_of : {w : ℕ} (config : Config) (n : ℕ) (s : Service w) (m : MessageD w) (t : Trace w) → IsReady config n s t
    → is_release_ack m.opcode ≡ false → m.source ≡ s.request.source → IsReply n s m t
reply_of config n s m t is other source = record {
  width = is.width;
  serves = is.serves;
  unanswered = is.unanswered;
  source = source;
  answers = other;
  settled = is.settled;
  whole = (is.whole s.link.0).1;
  blocks_apart = is.blocks_apart;
  trackers_apart = is.trackers_apart;
}

answered_steady : {w : ℕ} (config : Config) (n : ℕ) (s : Service w) (m : MessageD w) (t : Trace w)
    → IsReady config n s t → is_acquire s.request.opcode ≡ false
    → is_access_answer m.opcode ≡ true → IsReply n s m t → is_grant m.opcode ≡ false
    → IsSteady config (after_sent s.link (D m) t)
answered_steady {w} config n s m t is access kind reply other = record {
  accounted = accounted-answer n s m t reply kind access is.accounted;
  awaited = λ k. awaited k (n == k) refl;
}
  where
    u : Trace w
    u = after_sent s.link (D m) t

    serves : (k : ℕ) → service_of_block k (services u) ≡ (if n == k then None else service_of_block k (services t))
    serves k = ap (service_of_block k) (services-answer n s m t reply kind access is.accounted) ∙ serving-without n k
        (services t)

    awaited : (k : ℕ) (b : Bool) → (n == k) ≡ b → is_awaited config k u (service_of_block k (services u)) ≡ true
    awaited k true e = ap (is_awaited config k u) (serves k) ∙ rw e refl
    awaited k false e =
        awaited-same config k t u (serves k ∙ rw e refl) (λ v f. granted-still s.link m t v is.width reply.whole other)
        (λ c. reply-quiet (ProbeOf k) s.link m t c is.width reply.whole (λ f. (refl, refl))) (is.awaited k e)

granted_steady : {w : ℕ} (config : Config) (n : ℕ) (s : Service w) (m : MessageD w) (t : Trace w) → IsReady config n s t
    → IsGrant n s m t → IsSteady config (after_sent s.link (D m) t)
granted_steady {w} config n s m t is grants = record {
  accounted = accounted-grant n s m t grants is.accounted;
  awaited = λ k. awaited k (n == k) refl;
}
  where
    u : Trace w
    u = after_sent s.link (D m) t

    serves : services u ≡ services t
    serves = services-grant s.link m t is.width grants.reply.whole grants.grants

    awaited : (k : ℕ) (b : Bool) → (n == k) ≡ b → is_awaited config k u (service_of_block k (services u)) ≡ true
    awaited k true e =
        ap (is_awaited config k u) (ap (service_of_block k) serves ∙ ap (λ i. service_of_block i (services t))
        (sym (eqb-true n k e)) ∙ is.serves)
        ∙ ap (λ b. b || not (is_settled config k u)) (granted-now n s m t grants)
    awaited k false e =
        awaited-same config k t u (ap (service_of_block k) serves) (λ v f. granted-elsewhere n k s v m t grants e f)
        (λ c. reply-quiet (ProbeOf k) s.link m t c is.width grants.reply.whole (λ f. (refl, refl))) (is.awaited k e)

pub performed-steady : {w : ℕ} (config : Config) (n : ℕ) (s : Service w) (t : Trace w) (memory : Memory)
    → IsReady config n s t → IsSteady config (with_handed (performed config s t memory).handed t)
unfolding with_handed
performed-steady {w} config n s t memory is = go (is_acquire s.request.opcode) refl
  where
    reaction_by : Bool → Reaction w
    reaction_by b = if b
        then record { handed = (s.link, grant config s t memory) ∷ []; memory = memory }
        else record {
          handed = (
            s.link,
            access_answer s.request
                (answer_of (A s.request) (effect (A s.request) memory).1),
          ) ∷ [];
          memory = (effect (A s.request) memory).0;
        }

    go : (b : Bool) → is_acquire s.request.opcode ≡ b → IsSteady config (with_handed (reaction_by b).handed t)
    go true acquires =
        let m = grant_is config s t memory in
        subst (λ (i : Message w). IsSteady config (after_sent s.link i t)) (sym m.1)
        (granted_steady config n s m.0 t is (record {
          reply = reply_of config n s m.0 t is m.3 m.4;
          grants = m.2;
          sink =
              m.5;
          acquires = acquires;
        }))
    go false access =
        let m = answer_is s.request (answer_of (A s.request) (effect (A s.request) memory).1) in
        subst (λ (i : Message w). IsSteady config (after_sent s.link i t)) (sym m.1)
        (answered_steady config n s m.0 t is access m.2 (reply_of config n s m.0 t is m.3 m.4)
        (answer_kind m.0.opcode m.2))

-- ---- the services afterwards

-- a Grant leaves them, and an answer to an access ends that of its block
pub performed-services : {w : ℕ} (config : Config) (n : ℕ) (s : Service w) (t : Trace w) (memory : Memory)
    → IsReady config n s t
    → services (with_handed (performed config s t memory).handed t) ≡ (if is_acquire s.request.opcode then services t
    else filter (λ v. not (block_at v.request.address == n)) (services t))
unfolding with_handed
performed-services {w} config n s t memory is = go (is_acquire s.request.opcode) refl
  where
    reaction_by : Bool → Reaction w
    reaction_by b = if b
        then record { handed = (s.link, grant config s t memory) ∷ []; memory = memory }
        else record {
          handed = (
            s.link,
            access_answer s.request
                (answer_of (A s.request) (effect (A s.request) memory).1),
          ) ∷ [];
          memory = (effect (A s.request) memory).0;
        }

    go : (b : Bool) → is_acquire s.request.opcode ≡ b
        → services (with_handed (reaction_by b).handed t)
        ≡ (if b then services t else filter (λ v. not (block_at v.request.address == n)) (services t))
    go true acquires =
        let m = grant_is config s t memory in
        ap (λ (i : Message w). services (after_sent s.link i t)) m.1 ∙ services-grant s.link m.0 t is.width
        (is.whole s.link.0).1 m.2
    go false access =
        let m = answer_is s.request (answer_of (A s.request) (effect (A s.request) memory).1) in
        ap (λ (i : Message w). services (after_sent s.link i t)) m.1 ∙ services-answer n s m.0 t
        (reply_of config n s m.0 t is m.3 m.4) m.2 access is.accounted

-- of each block
pub performed-serving : {w : ℕ} (config : Config) (n k : ℕ) (s : Service w) (t : Trace w) (memory : Memory)
    → IsReady config n s t
    → service_of_block k (services (with_handed (performed config s t memory).handed t))
    ≡ (if not (is_acquire s.request.opcode) && (n == k) then None else service_of_block k (services t))
performed-serving {w} config n k s t memory is = ap (service_of_block k) (performed-services config n s t memory is)
    ∙ go (is_acquire s.request.opcode)
  where
    go : (b : Bool) → service_of_block k (if b then services t else filter (λ v. not (block_at v.request.address == n))
        (services t))
        ≡ (if not b && (n == k) then None else service_of_block k (services t))
    go true = refl
    go false = serving-without n k (services t)
