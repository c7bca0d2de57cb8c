-- What the manager knows after a request that is performed at once: an access that is answered, an Acquire that is
-- granted.
-- The manager's end after a beat of a request: one that isn't the last, and the last one, where others are probed, the
-- access is answered, or the Acquire is granted.
use Rattle.std.proofs.Common.{◌≡◌, ℕ, suc, ◌+◌, ◌*◌, ◌<◌, Bool, true, false, not, ◌&&◌, ◌==◌, if◌then◌else◌, List, []}
use Rattle.std.proofs.Common.{◌∷◌, Some, None, refl, sym, ◌∙◌, ap, subst, inl, inr, ne_eqb, unwrap_or}
use Rattle.tl_coherence.proofs
use proofs.Imports.{cases_eq, Beat, Channel, IsWidth, beats-positive, Message, A, D, MessageA, MessageD, a_beat_of}
use proofs.Imports.{beats_of, unfinished, Config, ProbeOf, Cap, cap_right, held-sent_d, not_last, Trace, on_link}
use proofs.Imports.{Memory, answer_of, bytes_from, effect, asks_for, block_at, capped, is_acquire, is_grant, held}
use proofs.Imports.{pending, request_of, memory-elsewhere, cap-gives, performed-access, performed-acquire}
use proofs.Imports.{reaction-part, after_sent, other_link, own_link, whole-taken, reply-quiet, request-reply, IsKept}
use proofs.Imports.{illegal_message_at, End, Reaction, access_answer, cap_granted, grant, performed, probes}
use proofs.Imports.{with_handed, cap_probed, is_nobody, probed, recorded, level_of, reaction, service_of_block}
use proofs.Imports.{trackers_of, least_untaken, services, set, is_unprobed, after_grant_sent, Block, Free, GrantSent}
use proofs.Imports.{State, Waits, granted_at_once, performed_block, served_block, performs, client_in, service_with}
use proofs.Imports.{AccessMessages, IsServedWith}
use Rattle.tl_manager.{proofs.calls.Events.reaction-probes, proofs.calls.Keeping.kept-offered}
use Rattle.tl_manager.{proofs.pending.LinkHistories.sent-keeps, proofs.pending.Performed.performed-serving}
use Rattle.tl_manager.{specs.statement.Handing.is_granted_data, specs.statement.Service.Service}
use Rattle.tl_manager.{specs.statement.Offer.taken}
use Rattle.tl_rules.specs.declared.answer.Answer.{Answer}
use Rattle.tl_manager.specs.statement.Holders as holders
use proofs.manager.{Admitted.offered-taken, Accounts.some-clients, Accounts.IsAtManager, Memories.block-same}
use proofs.manager.{Memories.performed-block, BlockAccounts.IsTraced, BlockAccounts.traced-at}
use proofs.manager.Probing.{IsProbing, traced-probing, IsUnwaited, traced-more, link_of, with_beat, IsComing}
use proofs.manager.Probing.{ends-coming, service_for, served-last, ready-last, recorded-beat, missing-beat}
use proofs.manager.Probing.{request-beat, request-own, serving-last, serving-others}
use proofs.queues.{Tokens.set-same, Tokens.set-other, Tokens.set-part, Tokens.same_number, Codes.grants-so}

-- the trace after the last beat of a request, which is performed, and its answer
abbrev pub with_answer : {w : ℕ} → Config → ℕ → ℕ → MessageA w → Memory → Trace w → Trace w
with_answer config c k m memory t = with_handed (performed config (service_for c m t) (with_beat c m k t) memory).handed
    (with_beat c m k t)

-- ---- the answers

answer_of_d : {w : ℕ} (r : MessageA w) (kind : Answer) → (m : MessageD w) × (access_answer r kind ≡ D m)
    × (is_grant m.opcode ≡ false)
answer_of_d r Answer.Ack = (_, refl, refl)
answer_of_d r kind = (_, refl, refl)

one-handed : {w : ℕ} (c : ℕ) (m : Message w) (t : Trace w) → with_handed ((link_of c, m) ∷ []) t ≡ after_sent
    (link_of c) m t
unfolding with_handed
one-handed c m t = refl

-- what is recorded after a message of channel D that is no Grant
recorded-reply : {w : ℕ} (link : ℕ) (m : MessageD w) (t : Trace w) (d i : ℕ) → IsWidth w
    → ((c : ℕ) → unfinished Channel.D (on_link c t) ≡ []) → is_grant m.opcode ≡ false
    → recorded d i (after_sent (link_of link) (D m) t) ≡ recorded d i t
recorded-reply link m t d i width whole other = sent-keeps (held i) d (link_of link) (D m) t
    (λ h f. held-sent_d i m h (ap (unfinished Channel.D) f ∙ whole d) (beats-positive (D m) width) ∙ rw other refl)

-- ---- an access

pub record IsAnswering {w : ℕ} {X : Type 0} (config : Config) (c k n : ℕ) (m : MessageA w) (s : State X)
    (e : End w) : Type 0 where
  pub comes : IsComing config c k m e
  pub last : beats_of (A m) ≡ suc k
  pub access : is_acquire m.opcode ≡ false
  pub block : block_at m.address ≡ n
  pub free : (s.block n).service ≡ Free
  pub unwaited : IsUnwaited c m.source s

pub traced-answered : {w : ℕ} {X : Type 0} {config : Config} {request : ℕ → MessageA w} {c k n : ℕ} (f : X → X)
    {m : MessageA w} {s : State X} (u : State X) (memory : Memory) {e : End w}
    → ((i : ℕ) → u.block i ≡ set n (performed_block f (s.block n)) s.block i) → IsAnswering config c k n m s e
    → IsTraced request s e.trace → IsTraced request u (with_answer config c k m memory e.trace)
traced-answered {w} {X} {config} {request} {c} {k} {n} f {m} {s} u memory {e} blocks is known =
    let after : Trace w = with_answer config c k m memory e.trace in
    let new : Block X = performed_block f (s.block n) in
    let here : u.block n ≡ new = blocks n ∙ set-same n new s.block in
    let reply = answer_of_d m (answer_of (A m) (effect (A m) memory).1) in
    let after_is : after ≡ after_sent (link_of c) (D reply.0) t = ap (λ d. with_handed d.handed t)
    (performed-access config (service_for c m e.trace) t memory is.access) ∙ one-handed c (access_answer m
    (answer_of (A m) (effect (A m) memory).1)) t ∙ ap (λ i. after_sent (link_of c) i t) reply.1 in
    let recorded_same : (d i : ℕ) → recorded d i after ≡ recorded d i e.trace = λ d i. ap (recorded d i) after_is
    ∙ recorded-reply c reply.0 t d i is.comes.width whole reply.2 ∙ recorded-beat c k m e.trace d i in
    let missing_same : (d i : ℕ) → pending (ProbeOf i) (on_link d after) ≡ pending (ProbeOf i) (on_link d e.trace) =
    λ d i. cc (
      after_is,
      reply-quiet (ProbeOf i) _ reply.0 t d is.comes.width (whole c) (λ g. (refl, refl)),
      missing-beat c k m e.trace d i,
    ) in
    let asked_same : (r src : ℕ) → request_of src (on_link r after) ≡ request_of src (on_link r t) =
    λ r src. cc (after_is, request-reply (link_of c) reply.0 t r src) in
    let served : (i : ℕ) → service_of_block i (services after) ≡ (if not (is_acquire m.opcode)
    && (block_at m.address == i) then None else service_of_block i (services t)) = λ i. performed-serving config
    _ i _ t memory (ready-last is.comes is.last) in
    traced-at (record {
      other_blocks = λ i ne. blocks i ∙ set-other n i new s.block ne;
      other_requests = λ i ne. refl;
      recorded_here = λ d. cc (recorded_same d n, known.recorded_is d n, here);
      recorded_else = λ d i ne. recorded_same d i;
      probes_here = λ d. cc (missing_same d n, known.probes d n, here);
      probes_else = λ d i ne. missing_same d i;
      serving_here = served n ∙ rw (is.access, is.block, same_number n)
          (sym (ap (λ b. service_with (client_in b.service) b.tracker (request n)) here ∙ rw is.free refl));
      serving_else = λ i ne. let differ : n ≡ i → ⊥ = λ g. ne (sym g) in
          served i ∙ rw (is.access, is.block, ne_eqb n i differ) (serving-others n i is.comes is.last is.block ne);
      request_here = rw (here, is.free) tt;
      asked_here = λ r src o l g. absurd (let no : Free ≡ Waits r o src l =
          sym is.free ∙ ap (λ b. b.service) (sym here) ∙ g in cc);
      asked_else = λ i r src o l ne g. asked_same r src ∙ request-beat c k m e.trace r src
          (λ same h. is.unwaited i src o l (g ∙ ap (λ z. Waits z o src l) same) h);
    }) known
  where
    t : Trace w
    t = with_beat c m k e.trace

    whole : (d : ℕ) → unfinished Channel.D (on_link d t) ≡ []
    whole d = (whole-taken d (link_of c) (Beat.A (a_beat_of m k)) e.trace refl (is.comes.kept.whole d)).1

-- ---- an Acquire

pub record IsGranting {w : ℕ} {X : Type 0} (config : Config) (c k n : ℕ) (j : Cap) (m : MessageA w) (s : State X)
    (e : End w) : Type 0 where
  pub comes : IsComing config c k m e
  pub last : beats_of (A m) ≡ suc k
  pub acquires : is_acquire m.opcode ≡ true
  pub block : block_at m.address ≡ n
  pub given : cap_granted config.profile m.opcode m.param (holders.is_unheld config n (with_beat c m k e.trace)) ≡ j
  pub unwaited : IsUnwaited c m.source s

-- a Grant, with the cap that it names
grant_of_d : {w : ℕ} (config : Config) (n : ℕ) (j : Cap) (s : Service w) (t : Trace w) (memory : Memory)
    → block_at s.request.address ≡ n → cap_granted config.profile s.request.opcode s.request.param
    (holders.is_unheld config n t) ≡ j → (m : MessageD w) × (grant config s t memory ≡ D m) × (is_grant m.opcode ≡ true)
    × (m.source ≡ s.request.source) × (capped m.param ≡ cap_right j)
grant_of_d config n j s t memory block given = (
  _,
  refl,
  grants-so (is_granted_data s.request.opcode s.request.param (recorded s.link.0 (block_at s.request.address) t)),
  refl,
  rw (block, given) (cap-gives j),
)

pub traced-granted : {w : ℕ} {X : Type 0} {config : Config} {request : ℕ → MessageA w} {c k n : ℕ} (b : Bool) {j : Cap}
    {m : MessageA w} {s : State X} (u : State X) (memory : Memory) {e : End w}
    → ((i : ℕ) → u.block i ≡ set n (granted_at_once c (least_untaken (trackers_of (services e.trace))) b j (s.block n))
    s.block i) → IsGranting config c k n j m s e → IsTraced request s e.trace
    → IsTraced (set n m request) u (with_answer config c k m memory e.trace)
traced-granted {w} {X} {config} {request} {c} {k} {n} b {j} {m} {s} u memory {e} blocks is known =
    let tracker : ℕ = least_untaken (trackers_of (services e.trace)) in
    let new : Block X = granted_at_once c tracker b j (s.block n) in
    let here : u.block n ≡ new = blocks n ∙ set-same n new s.block in
    let recorded_now : (d : ℕ) → recorded d n after ≡ (set c (after_grant_sent j ((s.block n).pair c)) (s.block n).pair
    d).recorded = λ d. elim (cases_eq d c) [
      | inl same ↦ rw (same, set-same c (after_grant_sent j ((s.block n).pair c)) (s.block n).pair)
          (recorded_own n ∙ rw (same_number n) refl)
      | inr ne ↦ recorded_apart d n ne ∙ known.recorded_is d n ∙ ap (λ p. p.recorded)
          (sym (set-other c d (after_grant_sent j ((s.block n).pair c)) (s.block n).pair ne))
    ] in
    let missing_same : (d i : ℕ) → pending (ProbeOf i) (on_link d after) ≡ pending (ProbeOf i) (on_link d e.trace) =
    λ d i. cc (
      after_is,
      reply-quiet (ProbeOf i) (link_of c) reply.0 t d is.comes.width (whole c) (λ g. (refl, refl)),
      missing-beat c k m e.trace d i,
    ) in
    let quiet_same : (d : ℕ) → is_unprobed (set c (after_grant_sent j ((s.block n).pair c)) (s.block n).pair d).probing
    ≡ is_unprobed ((s.block n).pair d).probing = λ d. set-part (λ p. is_unprobed p.probing) c
    (after_grant_sent j ((s.block n).pair c)) (s.block n).pair refl d in
    let asked_same : (r src : ℕ) → request_of src (on_link r after) ≡ request_of src (on_link r t) =
    λ r src. cc (after_is, request-reply (link_of c) reply.0 t r src) in
    let served : (i : ℕ) → service_of_block i (services after) ≡ service_of_block i (services t) =
    λ i. performed-serving config (block_at m.address) i (service_for c m e.trace) t memory
    (ready-last is.comes is.last) ∙ rw is.acquires refl in
    traced-at (record {
      other_blocks = λ i ne. blocks i ∙ set-other n i new s.block ne;
      other_requests = λ i ne. set-other n i m request ne;
      recorded_here = λ d. recorded_now d ∙ sym (ap (λ y. (y.pair d).recorded) here);
      recorded_else = λ d i ne. recorded_other d i ne;
      probes_here = λ d. missing_same d n ∙ known.probes d n ∙ sym
          (ap (λ y. not (is_unprobed (y.pair d).probing)) here ∙ ap not (quiet_same d));
      probes_else = λ d i ne. missing_same d i;
      serving_here = served n ∙ serving-last n is.comes is.last is.block
          ∙ sym (ap (λ y. service_with (client_in y.service) y.tracker (set n m request n)) here
          ∙ ap (λ r. Some (record { tracker = tracker; link = link_of c; request = r })) (set-same n m request));
      serving_else = λ i ne. served i ∙ serving-others n i is.comes is.last is.block ne;
      request_here = rw (here, set-same n m request) (is.acquires, is.block);
      asked_here = λ r src o l g. absurd (let no : GrantSent c b j ≡ Waits r o src l =
          ap (λ y. y.service) (sym here) ∙ g in cc);
      asked_else = λ i r src o l ne g. asked_same r src ∙ request-beat c k m e.trace r src
          (λ same h. is.unwaited i src o l (g ∙ ap (λ z. Waits z o src l) same) h);
    }) known
  where
    t : Trace w
    t = with_beat c m k e.trace

    after : Trace w
    after = with_answer config c k m memory e.trace

    reply : (r : MessageD w) × (grant config (service_for c m e.trace) t memory ≡ D r) × (is_grant r.opcode ≡ true)
        × (r.source ≡ m.source) × (capped r.param ≡ cap_right j)
    reply = grant_of_d config n j (service_for c m e.trace) t memory is.block is.given

    after_is : after ≡ after_sent (link_of c) (D reply.0) t
    after_is = ap (λ d. with_handed d.handed t) (performed-acquire config (service_for c m e.trace) t
        memory is.acquires) ∙ one-handed c (grant config (service_for c m e.trace) t memory) t
        ∙ ap (λ i. after_sent (link_of c) i t) reply.1

    whole : (d : ℕ) → unfinished Channel.D (on_link d t) ≡ []
    whole d = (whole-taken d (link_of c) (Beat.A (a_beat_of m k)) e.trace refl (is.comes.kept.whole d)).1

    -- what the Grant says of each block
    asks : (i : ℕ) → asks_for i (request_of reply.0.source (on_link c t)) ≡ (n == i)
    asks i = rw (reply.3, request-own is.comes, is.block) refl

    recorded_own : (i : ℕ) → recorded c i after ≡ unwrap_or (if true && (n == i) then Some (cap_right j) else None)
        (recorded c i e.trace)
    recorded_own i = ap (recorded c i) after_is ∙ ap (held i) (own_link c (link_of c) (D reply.0) t (same_number c))
        ∙ held-sent_d i reply.0 _ (whole c) (beats-positive (D reply.0) is.comes.width)
        ∙ rw (reply.2, asks i, reply.4, recorded-beat c k m e.trace c i) refl

    recorded_apart : (d i : ℕ) → (d ≡ c → ⊥) → recorded d i after ≡ recorded d i e.trace
    recorded_apart d i ne = ap (recorded d i) after_is ∙ ap (held i)
        (other_link d (link_of c) (D reply.0) t (ne_eqb c d (λ f. ne (sym f)))) ∙ recorded-beat c k m e.trace d i

    recorded_other : (d i : ℕ) → (i ≡ n → ⊥) → recorded d i after ≡ recorded d i e.trace
    recorded_other d i ne = elim (cases_eq d c) [
      | inl same ↦ rw same (recorded_own i ∙ rw (ne_eqb n i (λ f. ne (sym f))) refl)
      | inr apart ↦ recorded_apart d i apart
    ]

-- the manager's end after this beat
abbrev pub end_after : {w : ℕ} → Config → ℕ → ℕ → MessageA w → End w → End w
end_after config c k m e =
    taken (link_of c) (Beat.A (a_beat_of m k)) (reaction config (link_of c) (Beat.A (a_beat_of m k)) e) e

-- where this is done
abbrev pub end_with : {w : ℕ} → ℕ → ℕ → MessageA w → Reaction w → End w → End w
end_with c k m d e = taken (link_of c) (Beat.A (a_beat_of m k)) d e

kept-coming : {w : ℕ} {config : Config} {c k : ℕ} {m : MessageA w} {e : End w} → IsComing config c k m e
    → IsKept config (end_after config c k m e)
kept-coming {config} {c} {k} {m} {e} is = subst (λ p. IsKept config p.1)
    (offered-taken config (link_of c) Channel.A (Beat.A (a_beat_of m k)) e is.passes)
    (kept-offered config (link_of c) Channel.A (Beat.A (a_beat_of m k)) e is.width is.typed is.kept)

-- other blocks of the memory stay
memory-coming : {w : ℕ} {config : Config} {c k : ℕ} (i : ℕ) {m : MessageA w} {e : End w} → IsComing config c k m e
    → (i ≡ block_at m.address → ⊥)
    → bytes_from (end_after config c k m e).memory (64 * i) 64 ≡ bytes_from e.memory (64 * i) 64
memory-coming {w} {config} {c} {k} i {m} {e} is other =
    cc (block-same (end_after config c k m e).memory e.memory i (λ x f. sym
    (ap (λ p. p.1.memory x) (offered-taken config (link_of c) Channel.A (Beat.A (a_beat_of m k))
    e is.passes)) ∙ memory-elsewhere _ (link_of c) Channel.A _ e x is.width is.typed is.kept
    (ne_eqb (block_at m.address) (block_at x) (λ g. other (sym (g ∙ f))))))

-- ---- a beat that isn't the last

pub at_manager-more : {w : ℕ} {config : Config} {mail : AccessMessages w} {request : ℕ
    → MessageA w} {s : State (List ℕ)} {c k : ℕ} {m : MessageA w} {e : End w}
    → IsComing config c k m e → k + 1 < beats_of (A m) → IsUnwaited c m.source s → IsAtManager config mail request s e
    → IsAtManager config mail request s (end_after config c k m e)
unfolding with_handed
at_manager-more {config} {mail} {request} {s} {c} {k} {m} {e} is more unwaited known =
    let done = reaction-part config _ _ e (ends-coming is ∙ not_last k (beats_of (A m)) more) in
    subst (λ d. IsAtManager config mail request s (end_with c k m d e)) (sym done) (record {
      traced = traced-more is more unwaited known.traced;
      served_with = known.served_with;
      manager_kept = subst (λ d. IsKept config (end_with c k m d e)) done (kept-coming is);
      memory = known.memory;
      all_live = known.all_live;
    })

-- ---- the last one: others are probed

pub reaction-probing : {w : ℕ} (config : Config) (c k n : ℕ) (j : Cap) (m : MessageA w) (e : End w)
    → IsComing config c k m e → beats_of (A m) ≡ suc k → block_at m.address ≡ n → cap_probed m.opcode m.param ≡ Some j
    → is_nobody (probed config (service_for c m e.trace) j (with_beat c m k e.trace)) ≡ false
    → reaction config (link_of c) (Beat.A (a_beat_of m k)) e ≡ record {
      handed = probes n j (probed config (service_for c m e.trace) j (with_beat c m k e.trace));
      memory = e.memory;
    }
reaction-probing {w} config c k n j m e is last block caps someone =
    let probing_of : ℕ → List ℕ → Reaction w = λ i ds. record { handed = probes i j ds; memory = e.memory } in
    let one = some-clients (probed config (service_for c m e.trace) j (with_beat c m k e.trace)) someone in
    cc (reaction-probes config _ _ _ j one.0 one.1 e (served-last is last) caps one.2, block, one.2)

pub at_manager-probing : {w : ℕ} {config : Config} {mail : AccessMessages w} {request : ℕ
    → MessageA w} {c k n : ℕ} {own : Bool} {source : ℕ} {j : Cap} {m : MessageA w} {s u : State (List ℕ)} {e : End w}
    → ((i : ℕ) → u.block i ≡ set n (served_block c own source (least_untaken (trackers_of (services e.trace))) j
    (s.block n)) s.block i) → IsProbing config c k n own source j m s e
    → is_nobody (probed config (service_for c m e.trace) j (with_beat c m k e.trace)) ≡ false
    → IsServedWith mail (Waits c own source j) m → IsAtManager config mail request s e
    → IsAtManager config mail (set n m request) u (end_after config c k m e)
at_manager-probing {w} {config} {mail} {request} {c} {k} {n} {own} {source} {j} {m} {s} {u} {e} blocks is
    someone with known =
    let probing : Reaction w = record {
      handed = probes n j (probed config (service_for c m e.trace) j (with_beat c m k e.trace));
      memory = e.memory;
    } in
    let new = served_block c own source (least_untaken (trackers_of (services e.trace))) j (s.block n) in
    let served_now : (i : ℕ) → IsServedWith mail (u.block i).service (set n m request i) = λ i. elim (cases_eq i n) [
      | inl same ↦ rw (same, blocks n, set-same n new s.block, set-same n m request) with
      | inr other ↦ rw (blocks i, set-other n i new s.block other, set-other n i m request other) (known.served_with i)
    ] in
    let done = reaction-probing config c k n j m e is.comes is.last is.for.2 is.for.3 someone in
    subst (λ d. IsAtManager config mail (set n m request) u (end_with c k m d e)) (sym done) (record {
      traced = traced-probing u blocks is known.traced;
      served_with = λ i. served_now i;
      manager_kept = subst (λ d. IsKept config (end_with c k m d e)) done (kept-coming is.comes);
      memory = λ i. cc (known.memory i, blocks i, set-part (λ b. b.memory) n new s.block refl i);
      all_live = known.all_live;
    })

-- ---- the last one: the access is answered

pub at_manager-answered : {w : ℕ} {config : Config} {mail : AccessMessages w} {request : ℕ → MessageA w} {c k n : ℕ}
    {m : MessageA w} {s u : State (List ℕ)} {e : End w}
    → ((i : ℕ) → u.block i ≡ set n (performed_block (performs m) (s.block n)) s.block i)
    → IsAnswering config c k n m s e → illegal_message_at (level_of config c) (A m) ≡ None → reaction config (link_of c)
    (Beat.A (a_beat_of m k)) e ≡ performed config (service_for c m e.trace) (with_beat c m k e.trace) e.memory
    → IsAtManager config mail request s e → IsAtManager config mail request u (end_after config c k m e)
at_manager-answered {w} {config} {mail} {request} {c} {k} {n} {m} {s} {u} {e} blocks is lawful done known =
    let answering : Reaction w = performed config (service_for c m e.trace) (with_beat c m k e.trace) e.memory in
    let new : Block (List ℕ) = performed_block (performs m) (s.block n) in
    let served_now : (i : ℕ) → IsServedWith mail (u.block i).service (request i) = λ i.
    rw (ap (λ b. b.service) (blocks i) ∙ set-part (λ b. b.service) n new s.block refl i) (known.served_with i) in
    let memory_is : answering.memory ≡ (effect (A m) e.memory).0 =
    cc (performed-access config (service_for c m e.trace) (with_beat c m k e.trace) e.memory is.access) in
    let memory_here : bytes_from answering.memory (64 * n) 64 ≡ performs m (s.block n).memory =
    cc (memory_is, is.block, performed-block _ m e.memory is.comes.width lawful, known.memory n) in
    let memory_else : (i : ℕ) → (i ≡ n → ⊥) → bytes_from answering.memory (64 * i) 64 ≡ bytes_from e.memory (64 * i)
    64 = λ i other. cc (done, memory-coming i is.comes (λ f. other (f ∙ is.block))) in
    let memory_now : (i : ℕ) → bytes_from answering.memory (64 * i) 64 ≡ (u.block i).memory = λ i. elim (cases_eq i n) [
      | inl same ↦ rw (same, blocks n, set-same n new s.block) memory_here
      | inr other ↦ rw (blocks i, set-other n i new s.block other) (memory_else i other ∙ known.memory i)
    ] in
    subst (λ d. IsAtManager config mail request u (end_with c k m d e)) (sym done) (record {
      traced = traced-answered (performs m) u e.memory blocks is known.traced;
      served_with = λ i. served_now i;
      manager_kept = subst (λ d. IsKept config (end_with c k m d e)) done (kept-coming is.comes);
      memory = λ i. memory_now i;
      all_live = known.all_live;
    })

-- ---- the last one: the Acquire is granted

pub at_manager-granted : {w : ℕ} {config : Config} {mail : AccessMessages w} {request : ℕ
    → MessageA w} {c k n : ℕ} (b : Bool) {j : Cap} {m : MessageA w} {s u : State (List ℕ)} {e : End w}
    → ((i : ℕ)
    → u.block i ≡ set n (granted_at_once c (least_untaken (trackers_of (services e.trace))) b j (s.block n)) s.block i)
    → IsGranting config c k n j m s e → reaction config (link_of c) (Beat.A (a_beat_of m k)) e
    ≡ performed config (service_for c m e.trace) (with_beat c m k e.trace) e.memory
    → IsAtManager config mail request s e → IsAtManager config mail (set n m request) u (end_after config c k m e)
at_manager-granted {w} {config} {mail} {request} {c} {k} {n} b {j} {m} {s} {u} {e} blocks is done known =
    let granting : Reaction w = performed config (service_for c m e.trace) (with_beat c m k e.trace) e.memory in
    let new : Block (List ℕ) = granted_at_once c (least_untaken (trackers_of (services e.trace))) b j (s.block n) in
    let served_now : (i : ℕ) → IsServedWith mail (u.block i).service (set n m request i) = λ i. elim (cases_eq i n) [
      | inl same ↦ rw (same, blocks n, set-same n new s.block) tt
      | inr other ↦ rw (blocks i, set-other n i new s.block other, set-other n i m request other) (known.served_with i)
    ] in
    let memory_now : (i : ℕ) → bytes_from granting.memory (64 * i) 64 ≡ (u.block i).memory = λ i. cc (
      performed-acquire config (service_for c m e.trace) (with_beat c m k e.trace) e.memory is.acquires,
      known.memory i,
      blocks i,
      set-part (λ y. y.memory) n new s.block refl i,
    ) in
    subst (λ d. IsAtManager config mail (set n m request) u (end_with c k m d e)) (sym done) (record {
      traced = traced-granted b u e.memory blocks is known.traced;
      served_with = λ i. served_now i;
      manager_kept = subst (λ d. IsKept config (end_with c k m d e)) done (kept-coming is.comes);
      memory = λ i. memory_now i;
      all_live = known.all_live;
    })
