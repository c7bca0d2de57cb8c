-- What is kept of the blocks after a request's Probes were handed out.
use Rattle.tl_manager.proofs.Imports.{Link, MessageA, History, Config, ProbeOf, Cap, Perm, Trace, Memory, block_at}
use Rattle.tl_manager.proofs.Imports.{is_acquire, pending, held, ends, is_one_of, bit_if, Reaction, Handed, with_handed}
use Rattle.tl_manager.proofs.Imports.{probes, probe_beat, performed, clients_from, is_nobody, recorded, is_missing}
use Rattle.tl_manager.proofs.Imports.{is_above, is_spared, probed, IsBlockStateWithout, IsDone, IsReadyAt, Each}
use Rattle.tl_manager.proofs.Imports.{IsSound, IsReady, Service, services, service_of_block, trackers_of, probing_or}
use Rattle.tl_manager.proofs.Imports.{begun_with, service_with, IsTracked, tracker_at, BlockState, Probing}
use Rattle.std.proofs.Common.{◌≡◌, ◌≢◌, ℕ, ◌<◌, ◌≤◌, ◌==◌, Bool, true, false, not, ◌&&◌, List, [], ◌∷◌, length, Option}
use Rattle.std.proofs.Common.{Some, refl, sym, ap, subst, ◌∙◌, arith, inl, inr}
use Rattle.std.{specs.Prelude.if◌then◌else◌, specs.Int.bit_at, proofs.lemmas.Bool.cases_lt, proofs.lemmas.Bool.lt-ltb}
use Rattle.tl_beat.specs.declared.beat.Beat.{Beat}
use Rattle.tl_manager.{proofs.blocks.Answering.tracker-changed, proofs.words_of_clients.Clients.among-where}
use Rattle.tl_manager.{proofs.pending.Probing.missing-else_b, proofs.blocks.Recording.recorded-past}
use Rattle.tl_manager.{proofs.services.Trackers.tracked-still, proofs.services.Trackers.other_block}
use Rattle.tl_manager.proofs.pending.Probed.{probes-keep, granted-probes, missing-probed}
use Rattle.tl_manager.proofs.pending.Probes.{probes-within, probes-beyond, services-probes}
use Rattle.tl_manager.proofs.words_of_clients.Words.{IsWord, word-nobody, word-clients}

-- whom a request probes with a cap
abbrev pub is_probed : {w : ℕ} → Service w → Cap → Trace w → ℕ → Bool
is_probed s c t client = is_above c (recorded client (block_at s.request.address) t) && not (is_spared s client)

none-above : (c : Cap) (b : Bool) → (is_above c Perm.None && b) ≡ false
none-above Cap.ToT b = refl
none-above v b = refl

pub probed-word : {w : ℕ} (config : Config) (number : ℕ) (link : Link) (request : MessageA w) (c : Cap) (word : ℕ)
    (perm_at : ℕ → Perm) (t : Trace w) → Each (IsSound config) t
    → ((client : ℕ) → bit_at word client ≡ bit_if
    (is_above c (perm_at client) && not (is_acquire request.opcode && (link.0 == client))))
    → ((client : ℕ) → perm_at client ≡ recorded client (block_at request.address) t)
    → IsWord config word (is_probed (service_with number link request) c t)
probed-word config number link request c word perm_at t sound bits records = record {
  bits = λ client. bits client ∙ ap
      (λ p. bit_if (is_above c p && not (is_acquire request.opcode && (link.0 == client)))) (records client);
  past = λ client past. ap (λ p. is_above c p && not (is_acquire request.opcode && (link.0 == client)))
      (recorded-past config (block_at request.address) client t sound past) ∙ none-above c
      (not (is_acquire request.opcode && (link.0 == client)));
}

-- ---- the deed

pub probing-none : {w : ℕ} (reaction : Reaction w) (block : ℕ) (c : Cap) (clients : List ℕ) (memory : Memory)
    → is_nobody clients ≡ true → probing_or reaction block c clients memory ≡ reaction
probing-none reaction block c [] memory e = refl
probing-none reaction block c (d ∷ ds) memory e = absurd cc

pub probing-some : {w : ℕ} (reaction : Reaction w) (block : ℕ) (c : Cap) (clients : List ℕ) (memory : Memory)
    → is_nobody clients ≡ false
    → probing_or reaction block c clients memory ≡ record { handed = probes block c clients; memory = memory }
probing-some reaction block c [] memory e = absurd cc
probing-some reaction block c (d ∷ ds) memory e = refl

-- ---- after the Probes

unheld-b : {w : ℕ} (k block : ℕ) (c : Cap) (h : History w) → held k (Beat.B (probe_beat block c) ∷ h) ≡ held k h
unfolding held
unheld-b {w} k block c h = go (ends {w = w} (Beat.B (probe_beat block c)) h)
  where
    go : (b : Bool) → (if b then held k h else held k h) ≡ held k h
    go true = refl
    go false = refl

missing-after : {w : ℕ} (config : Config) (s : Service w) (c : Cap) (t : Trace w) (client : ℕ)
    → IsReady config (block_at s.request.address) s t
    → ((d : ℕ) → length config.clients.items ≤ d → is_probed s c t d ≡ false)
    → is_missing client (block_at s.request.address)
    (with_handed (probes (block_at s.request.address) c (probed config s c t)) t) ≡ is_probed s c t client
missing-after {w} config s c t client is none = elim (cases_lt client (length config.clients.items)) [
  | inl lt ↦ go (is_probed s c t client) refl lt
  | inr le ↦
      ap (pending (ProbeOf block)) (probes-beyond client block c 0 (length config.clients.items) (is_probed s c t) t
      (omega (arith, le)))
      ∙ is.settled client ∙ sym (none client le)
]
  where
    block : ℕ
    block = block_at s.request.address

    go : (b : Bool) → is_probed s c t client ≡ b → client < length config.clients.items
        → is_missing client block (with_handed (probes block c (probed config s c t)) t) ≡ is_probed s c t client
    go true e lt =
        let among : is_one_of client (probed config s c t) ≡ true =
        among-where config (is_probed s c t) client ∙ rw (lt-ltb client (length config.clients.items) lt, e) refl in
        (missing-probed config block s c t client (is.whole client).0 among).1 ∙ sym e
    go false e lt =
        ap (pending (ProbeOf block)) (probes-within client block c 0 (length config.clients.items) (is_probed s c t) t
        (omega arith) (omega (arith, lt)) ∙ rw e refl)
        ∙ is.settled client ∙ sym e

pub block_state-probed : {w : ℕ} {D : Type 0} (perm_of : D → ℕ → ℕ → Perm) (config : Config) (old new : BlockState w D)
    (number : ℕ) (link : Link) (request : MessageA w)
    (c : Cap) (word : ℕ) (t : Trace w) (memory : Memory)
    → new.profile ≡ old.profile → new.directory ≡ old.directory → new.blocks ≡ old.blocks
    → new.trackers.count ≡ old.trackers.count
    → ((n : ℕ) → tracker_at new.trackers n ≡ (if number == n then Probing link request word else tracker_at old.trackers
    n))
    → length config.clients.items ≤ 16 → IsWord config word (is_probed (service_with number link request) c t)
    → (word == 0) ≡ false
    → IsReadyAt config number link request t → IsBlockStateWithout number perm_of config old t memory
    → IsDone perm_of config new (probes (block_at request.address) c (clients_from 0 16 (λ d. bit_at word d == 1))) t
    (probing_or (performed config (service_with number link request) t memory) (block_at request.address) c
    (probed config (service_with number link request) c t) memory)
block_state-probed {w} {D} perm_of config old new number link request c word t memory profile directory blocks count
    trackers few is some at block_state =
    let reaction_is = probing-some (performed config s t memory) block c (probed config s c t) memory
    (sym (word-nobody config word (is_probed s c t) is) ∙ some) in
    subst (λ (d : Reaction w). IsDone perm_of config new (probes block c (clients_from 0 16 (λ d. bit_at word d == 1)))
    t d) (sym reaction_is) (
      ap (probes block c) (word-clients config word (is_probed s c t) few is),
      record {
        profile = profile ∙ block_state.profile;
        count = count ∙ block_state.count;
        tracked = λ i all. tracker-changed number i (Probing link request word) (tracker_at new.trackers)
            (tracker_at old.trackers) t u trackers probing still block_state.tracked;
        records = λ b d. ap (λ m. perm_of m b d) directory ∙ block_state.records b d ∙ sym
            (probes-keep (held b) d block c (probed config s c t) t (unheld-b b block c));
        bytes = rw blocks block_state.bytes;
      },
    )
  where
    s : Service w
    s = service_with number link request

    block : ℕ
    block = block_at request.address

    u : Trace w
    u = with_handed (probes block c (probed config s c t)) t

    same : services u ≡ services t
    same = services-probes block c (probed config s c t) t

    probing : IsTracked number (Probing link request word) u
    probing = record {
      serves = ap (service_of_block block) same ∙ at.ready.serves;
      unanswered = granted-probes block c (probed config s c t) t s ∙ at.ready.unanswered;
      bits = λ d. is.bits d ∙ ap bit_if (sym (missing-after config s c t d at.ready is.past));
    }

    still : (n : ℕ) → n ≢ number → IsTracked n (tracker_at old.trackers n) t → IsTracked n (tracker_at old.trackers n) u
    still n other ok =
        tracked-still n (tracker_at old.trackers n) t u
        (λ free. ap (λ (ss : List (Service w)). is_one_of n (trackers_of ss)) same ∙ free)
        (λ k v e f.
        let apart = other_block block k s v (services t) at.ready.serves e (λ g. other (sym f ∙ g)) in
        record {
          serves = ap (service_of_block k) same ∙ e;
          granted = granted-probes block c (probed config s c t) t v;
          missing = λ d. probes-keep (pending (ProbeOf k)) d block c (probed config s c t) t
              (λ h. missing-else_b k block c h apart);
        }) ok

-- ---- the deed of a request that probes

begun-some : {w : ℕ} (config : Config) (s : Service w) (o : Option Cap) (c : Cap) (t : Trace w) (memory : Memory)
    → Some c ≡ o
    → begun_with config o s t memory ≡ probing_or (performed config s t memory) (block_at s.request.address) c
    (probed config s c t) memory
begun-some config s o c t memory e = rw (← e) refl

pub done-unprobed : {w : ℕ} {D : Type 0} (perm_of : D → ℕ → ℕ → Perm) (config : Config) (block_state : BlockState w D)
    (handed : Handed w) (s : Service w) (o : Option Cap)
    (c : Cap) (word : ℕ) (t : Trace w) (memory : Memory)
    → Some c ≡ o → IsWord config word (is_probed s c t) → (word == 0) ≡ true
    → IsDone perm_of config block_state handed t (performed config s t memory)
    → IsDone perm_of config block_state handed t (begun_with config o s t memory)
done-unprobed {w} perm_of config block_state handed s o c word t memory e is none done =
    subst (λ (d : Reaction w). IsDone perm_of config block_state handed t d)
    (sym (begun-some config s o c t memory e ∙ probing-none (performed config s t memory) (block_at s.request.address) c
    (probed config s c t) memory
    (sym (word-nobody config word (is_probed s c t) is) ∙ none))) done

pub done-probed : {w : ℕ} {D : Type 0} (perm_of : D → ℕ → ℕ → Perm) (config : Config) (block_state : BlockState w D)
    (handed : Handed w) (s : Service w) (o : Option Cap) (c : Cap) (t : Trace w) (memory : Memory)
    → Some c ≡ o → IsDone perm_of config block_state handed t
    (probing_or (performed config s t memory) (block_at s.request.address) c (probed config s c t) memory)
    → IsDone perm_of config block_state handed t (begun_with config o s t memory)
done-probed {w} perm_of config block_state handed s o c t memory e done =
    subst (λ (d : Reaction w). IsDone perm_of config block_state handed t d) (sym (begun-some config s o c t memory e))
    done
