-- What is kept of the blocks after a request was performed and answered.
use Rattle.tl_manager.proofs.Imports.{IsWidth, Link, Message, A, D, MessageA, MessageD, Config, ProbeOf, Perm, Answer}
use Rattle.tl_manager.proofs.Imports.{Trace, on_link, Memory, effect, answer_of, block_at, is_acquire, is_grant, capped}
use Rattle.tl_manager.proofs.Imports.{is_one_of, AreBlocks, Reaction, with_handed, performed, grant, access_answer}
use Rattle.tl_manager.proofs.Imports.{recorded, is_missing, IsBlockStateWithout, IsDone, IsReadyAt, is_granted, IsReady}
use Rattle.tl_manager.proofs.Imports.{IsWhole, granted_by, Service, services, service_of_block, trackers_of}
use Rattle.tl_manager.proofs.Imports.{service_with, IsTracked, tracker_at, BlockState, Tracker, Free}
use Rattle.std.proofs.Common.{◌≡◌, ◌≢◌, ℕ, ◌==◌, ◌⊎◌, Bool, true, false, not, ◌&&◌, List, [], ◌∷◌, Some, None, refl}
use Rattle.std.proofs.Common.{sym, ap, subst, ◌∙◌, inl, inr}
use Rattle.std.specs.Prelude.{filter, if◌then◌else◌, unwrap_or}
use Rattle.std.proofs.lemmas.Bool.{cases_eq, eq-eqb, ne_eqb}
use Rattle.tl_manager.{proofs.pending.Accesses.answer_kind, proofs.pending.Accesses.granted-still}
use Rattle.tl_manager.{proofs.calls.Events.performed-access, proofs.words_of_clients.Free.missing_filter}
use Rattle.tl_manager.{proofs.pending.Granted.IsGrant, proofs.pending.Granted.granted-elsewhere}
use Rattle.tl_manager.{proofs.pending.Handed.after_sent, proofs.pending.Handed.recorded-sent}
use Rattle.tl_manager.{proofs.pending.Replies.reply-quiet}
use Rattle.tl_manager.proofs.pending.Performed.{grant_is, answer_is, reply_of, performed-services, performed-serving}
use Rattle.tl_manager.proofs.services.Trackers.{IsStill, tracked-still, other_block, tracker-ended}

-- ---- the services of other blocks

-- after this deed
reaction_by : {w : ℕ} → Bool → Config → Service w → Trace w → Memory → Reaction w
reaction_by b config s t memory = if b
    then record { handed = (s.link, grant config s t memory) ∷ []; memory = memory }
    else record {
      handed = (s.link, access_answer s.request (answer_of (A s.request) (effect (A s.request) memory).1))
          ∷ [];
      memory = (effect (A s.request) memory).0;
    }

pub performed-still : {w : ℕ} (config : Config) (n k : ℕ) (s v : Service w) (t : Trace w) (memory : Memory)
    → IsReady config n s t → (n == k) ≡ false → service_of_block k (services t) ≡ Some v
    → IsStill k v t (with_handed (performed config s t memory).handed t)
unfolding with_handed reaction_by
performed-still {w} config n k s v t memory is other e =
    go (is_acquire s.request.opcode) refl (performed-serving config n k s t memory is)
  where
    serves : (b : Bool) → (if not b && (n == k) then None else service_of_block k (services t)) ≡ Some v
    serves true = e
    serves false = rw other e

    go : (b : Bool) → is_acquire s.request.opcode ≡ b
        → service_of_block k (services (with_handed (reaction_by b config s t memory).handed t))
        ≡ (if not (is_acquire s.request.opcode) && (n == k) then None else service_of_block k (services t))
        → IsStill k v t (with_handed (reaction_by b config s t memory).handed t)
    go true acquires same =
        let m = grant_is config s t memory in
        let reply = reply_of config n s m.0 t is m.3 m.4 in
        let grants : IsGrant n s m.0 t = record { reply = reply; grants = m.2; sink = m.5; acquires = acquires } in
        record {
          serves = same ∙ serves (is_acquire s.request.opcode);
          granted = subst (λ (i : Message w). is_granted (after_sent s.link i t) v ≡ is_granted t v) (sym m.1)
              (granted-elsewhere n k s v m.0 t grants other e);
          missing = λ c. subst (λ (i : Message w). is_missing c k (after_sent s.link i t) ≡ is_missing c k t) (sym m.1)
              (reply-quiet (ProbeOf k) s.link m.0 t c is.width reply.whole (λ f. (refl, refl)));
        }
    go false access same =
        let m = answer_is s.request (answer_of (A s.request) (effect (A s.request) memory).1) in
        let reply = reply_of config n s m.0 t is m.3 m.4 in
        record {
          serves = same ∙ serves (is_acquire s.request.opcode);
          granted = subst (λ (i : Message w). is_granted (after_sent s.link i t) v ≡ is_granted t v) (sym m.1)
              (granted-still s.link m.0 t v is.width reply.whole (answer_kind m.0.opcode m.2));
          missing = λ c. subst (λ (i : Message w). is_missing c k (after_sent s.link i t) ≡ is_missing c k t) (sym m.1)
              (reply-quiet (ProbeOf k) s.link m.0 t c is.width reply.whole (λ f. (refl, refl)));
        }

-- trackers of others
pub tracked-performed : {w : ℕ} (config : Config) (n i : ℕ) (s : Service w) (tracker : Tracker w) (t : Trace w)
    (memory : Memory) → IsReady config n s t → i ≢ s.tracker
    → IsTracked i tracker t → IsTracked i tracker (with_handed (performed config s t memory).handed t)
tracked-performed {w} config n i s tracker t memory is other ok =
    tracked-still i tracker t (with_handed (performed config s t memory).handed t)
    (λ free. ap (λ (ss : List (Service w)). is_one_of i (trackers_of ss)) (performed-services config n s t memory is)
    ∙ still_free (is_acquire s.request.opcode) free)
    (λ k v e at. performed-still config n k s v t memory is
    (other_block n k s v (services t) is.serves e (λ f. other (sym at ∙ f))) e) ok
  where
    still_free : (b : Bool) → is_one_of i (trackers_of (services t)) ≡ false
        → is_one_of i (trackers_of (if b then services t else filter (λ v. not (block_at v.request.address == n))
        (services t))) ≡ false
    still_free true free = free
    still_free false free = missing_filter (λ (v : Service w). v.tracker) (λ v. not (block_at v.request.address == n)) i
        (services t) free

-- the tracker of an access is free then
pub freed-performed : {w : ℕ} (config : Config) (n : ℕ) (s : Service w) (t : Trace w) (memory : Memory)
    → IsReady config n s t → is_acquire s.request.opcode ≡ false
    → is_one_of s.tracker (trackers_of (services (with_handed (performed config s t memory).handed t))) ≡ false
freed-performed {w} config n s t memory is access =
    ap (λ (ss : List (Service w)). is_one_of s.tracker (trackers_of ss))
    (performed-services config n s t memory is ∙ rw access refl)
    ∙ tracker-ended n s (services t) is.trackers_apart is.serves

-- ---- one tracker changes

pub tracker-changed : {w : ℕ} (number i : ℕ) (tracker : Tracker w) (at before : ℕ → Tracker w) (t u : Trace w)
    → ((n : ℕ) → at n ≡ (if number == n then tracker else before n))
    → IsTracked number tracker u
    → ((n : ℕ) → n ≢ number → IsTracked n (before n) t → IsTracked n (before n) u)
    → ((n : ℕ) → n ≢ number → IsTracked n (before n) t) → IsTracked i (at i) u
tracker-changed {w} number i tracker at before t u set here still others =
    subst (λ (x : Tracker w). IsTracked i x u) (sym (set i)) (go (cases_eq i number))
  where
    go : (i ≡ number) ⊎ (i ≡ number → ⊥) → IsTracked i (if number == i then tracker else before i) u
    go (inl same) = rw (eq-eqb number i (sym same)) (subst (λ n. IsTracked n tracker u) (sym same) here)
    go (inr other) = rw (ne_eqb number i (λ e. other (sym e))) (still i other (others i other))

-- ---- an access

-- its answer says nothing of what is held
pub recorded-answer : {w : ℕ} (link : Link) (request : MessageA w) (kind : Answer) (t : Trace w) (c b : ℕ) → IsWidth w
    → IsWhole (on_link c t)
    → recorded c b (after_sent link (access_answer request kind) t) ≡ recorded c b t
recorded-answer {w} link request kind t c b width whole =
    let m = answer_is request kind in
    subst (λ (i : Message w). recorded c b (after_sent link i t) ≡ recorded c b t) (sym m.1)
    (quiet m.0 (answer_kind m.0.opcode m.2))
  where
    quiet : (m : MessageD w) → is_grant m.opcode ≡ false → recorded c b (after_sent link (D m) t) ≡ recorded c b t
    quiet m other = recorded-sent c b link (D m) t width refl whole ∙ ungranted m other
      where
        ungranted : (m : MessageD w) → is_grant m.opcode ≡ false
            → unwrap_or (granted_by (link, D m) t c b) (recorded c b t) ≡ recorded c b t
        ungranted m other = rw other (go (link.0 == c))
          where
            go : (here : Bool) → unwrap_or (if here && false then Some (capped m.param) else None) (recorded c b t)
                ≡ recorded c b t
            go true = refl
            go false = refl

pub block_state-performed : {w : ℕ} {D : Type 0} (perm_of : D → ℕ → ℕ → Perm) (config : Config)
    (old new : BlockState w D) (number : ℕ) (link : Link) (request : MessageA w)
    (kind : Answer) (t : Trace w) (memory : Memory)
    → is_acquire request.opcode ≡ false → new.profile ≡ old.profile → new.directory ≡ old.directory
    → new.trackers.count ≡ old.trackers.count
    → ((n : ℕ) → tracker_at new.trackers n ≡ (if number == n then Free else tracker_at old.trackers n))
    → AreBlocks new.blocks.bytes.items (effect (A request) memory).0
    → kind ≡ answer_of (A request) (effect (A request) memory).1
    → IsReadyAt config number link request t → IsBlockStateWithout number perm_of config old t memory
    → IsDone perm_of config new ((link, access_answer request kind) ∷ []) t
    (performed config (service_with number link request) t memory)
unfolding with_handed
block_state-performed {w} {D} perm_of config old new number link request kind t memory access profile directory count
    trackers bytes is_kind at block_state =
    let s : Service w = service_with number link request in
    let reaction_is = performed-access config s t memory access in (
      ap (λ k. (link, access_answer request k) ∷ []) is_kind ∙ sym (ap (λ (d : Reaction w). d.handed) reaction_is),
      record {
        profile = profile ∙ block_state.profile;
        count = count ∙ block_state.count;
        tracked = λ i all. tracker-changed number i Free (tracker_at new.trackers) (tracker_at old.trackers) t
            (with_handed (performed config s t memory).handed t) trackers
            (freed-performed config (block_at request.address) s t memory at.ready access)
            (λ n other ok. tracked-performed config (block_at request.address) n s (tracker_at old.trackers n) t memory
            at.ready other ok) block_state.tracked;
        records = λ b c. ap (λ d. perm_of d b c) directory ∙ block_state.records b c
            ∙ sym (ap (λ (d : Reaction w). recorded c b (with_handed d.handed t)) reaction_is
            ∙ recorded-answer link request (answer_of (A request) (effect (A request) memory).1) t c b at.ready.width
            (at.ready.whole c));
        bytes = subst (AreBlocks new.blocks.bytes.items) (sym (ap (λ (d : Reaction w). d.memory) reaction_is)) bytes;
      },
    )
