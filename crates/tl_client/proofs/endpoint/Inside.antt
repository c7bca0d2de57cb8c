-- What a client asks for and holds stays of its level, of the map and of its own sources.
use Rattle.tl_client.proofs.Imports.{IsWidth, Beat, BeatA, BeatB, BeatD, Channel, A, B, C, D, E, MessageA, MessageC}
use Rattle.tl_client.proofs.Imports.{MessageE, a_beat_of, History, unfinished, beats-positive, RequestSource}
use Rattle.tl_client.proofs.Imports.{ReleaseSource, Prune, Perm, cap_of, prune_code, prune_left, prune_right}
use Rattle.tl_client.proofs.Imports.{report_code, report_right, sent, payload_of, same_perm, broken_in_order, block_at}
use Rattle.tl_client.proofs.Imports.{is_acquire, is_release, is_grant, asks_for, ends, grants, capped, pending}
use Rattle.tl_client.proofs.Imports.{request_of, held, has_transfers, pending-whole, pending-quiet, pending-closed}
use Rattle.tl_client.proofs.Imports.{held_unsaid, held-sent_unsaid, Op, Load, Store, Acquire, AcquireWhole, Release}
use Rattle.tl_client.proofs.Imports.{Access, Taken, asked, done, load, store, free_request, free_release, is_access_of}
use Rattle.tl_client.proofs.Imports.{source_or_0, whole_grow, EndConfig, Endpoint, zeros, copy_at, held_at, with_past}
use Rattle.tl_client.proofs.Imports.{IsInside, IsEndpointInvariant, acquires, holds, is_acquire_beat, offered, taken}
use Rattle.tl_client.proofs.Imports.{granted, responded, silent, report_for, open_beat, about, sourced, acquisition}
use Rattle.tl_client.proofs.Imports.{release}
use Rattle.std.proofs.Common.{◌≡◌, ℕ, ◌*◌, ◌<◌, Bool, true, false, not, cond, leb, ◌&&◌, ◌||◌, ◌⊎◌, List, [], ◌∷◌}
use Rattle.std.proofs.Common.{Option, Some, None, refl, sym, ◌∙◌, subst, arith, inl, inr}
use Rattle.std.specs.Prelude.{◌==◌, is_none, unwrap_or}
use Rattle.std.proofs.lemmas.Bool.{and_parts, or_parts, not-false, eqb-true, both_ways}
use Rattle.tl_beat.specs.declared.beat.Beat.TheVariants as beat
use Rattle.tl_beat.specs.declared.channel.Channel.TheVariants as channel
use Rattle.tl_beat.specs.declared.opcode.OpA.TheVariants as a
use Rattle.tl_beat.specs.declared.opcode.OpC.TheVariants as c
use Rattle.tl_params.specs.declared.param.Cap.TheVariants as cap
use Rattle.tl_params.specs.declared.perm.Perm.TheVariants as perm
use Rattle.tl_rules.specs.statement.History.{closes}
use Rattle.tl_client.specs.laws.Inside.{is_holdable}
use Rattle.tl_client.proofs.endpoint.Cases.{NotBusy, asked-cases, IsPassed, offered-cases, ended-cases, probe_ack-cases}
use Rattle.tl_client.proofs.endpoint.Cases.{release-cases}
use Rattle.tl_client.proofs.pending.Free.{least_free-some}
use Rattle.tl_client.proofs.endpoint.HeldAfter.{same_block, held-release, held-probe_ack, held-beat_d, kept_past}
use Rattle.tl_client.proofs.endpoint.HeldAfter.{granted_past}
use Rattle.tl_client.proofs.endpoint.HeldAfter.{still_whole}
use Rattle.tl_client.proofs.pending.KeptAsked.{no_acquire, falls_to}
use Rattle.tl_client.proofs.pending.KeptGranted.{still_acquires, acquires_granted}
use Rattle.tl_client.proofs.pending.KeptOffered.{incoming_only, reports_held, good_beat}
use Rattle.tl_client.proofs.pending.Opens.{open_beat-a, open_beat-b, open_beat-c, open_beat-d, open_beat-e}
use Rattle.tl_client.proofs.pending.Opens.{closes_source}
use Rattle.tl_client.proofs.pending.Opens.{unfinished-d}
use Rattle.tl_rules.proofs.Named.{still}

-- ---- messages

opened_below : (b : Bool) (p : Bool) (n m : ℕ) → (b ≡ true → n < m) → (p ≡ true → n < m) → cond b true p ≡ true → n < m
opened_below true p n m new old e = new refl
opened_below false p n m new old e = old e

own_block : {w : ℕ} (k : ℕ) (b : Bool) (m : MessageA w) (o : Option (BeatA w))
    → acquires k (cond b (Some (a_beat_of m 0)) o) ≡ true
    → ((is_acquire m.opcode && (block_at m.address == k)) ≡ true) ⊎ (acquires k o ≡ true)
own_block k true m o e = inl e
own_block k false m o e = inr e

inside_a : {w : ℕ} (terms : EndConfig) (m : MessageA w) (t : History w) → IsWidth w → unfinished channel.A t ≡ []
    → m.source < terms.sources
    → (is_acquire m.opcode ≡ true → is_holdable terms (block_at m.address) ≡ true) → IsInside terms t
    → IsInside terms (sent (A m) t)
inside_a {w} terms m t is none below maps old = record {
  acquires_inside = λ s k e. asked_for s k
      (own_block k (m.source == s) m (open_beat s t) (rw (open_beat-a s m t is none) at e));
  holds_inside = λ k e. old.holds_inside k (rw (held-sent_unsaid k (A m) t (λ i u. refl)) at e);
  requests_below =
      λ s e. opened_below (m.source == s) (pending (RequestSource s) t) s terms.sources (λ same. let source =
      eqb-true m.source s same in omega (arith, below, source)) (old.requests_below s)
      (sym (pending-whole (RequestSource s) (A m) t none (beats-positive (A m) is)) ∙ e);
  releases_below = λ s e. old.releases_below s
      (sym (pending-whole (ReleaseSource s) (A m) t none (beats-positive (A m) is)) ∙ e);
}
  where
    asked_for : (s k : ℕ) → ((is_acquire m.opcode && (block_at m.address == k)) ≡ true)
        ⊎ (acquires k (open_beat s t) ≡ true) → is_holdable terms k ≡ true
    asked_for s k (inr before) = old.acquires_inside s k before
    asked_for s k (inl new) =
        let parts = and_parts (is_acquire m.opcode) (block_at m.address == k) new in
        rw (eqb-true (block_at m.address) k parts.1) at (maps parts.0)

inside_c : {w : ℕ} (terms : EndConfig) (m : MessageC w) (t : History w) → IsWidth w → unfinished channel.C t ≡ []
    → (is_release m.opcode ≡ true → m.source < terms.sources)
    → ((k : ℕ) → holds (held k (sent (C m) t)) ≡ true → holds (held k t) ≡ true) → IsInside terms t
    → IsInside terms (sent (C m) t)
inside_c {w} terms m t is none below falls old = record {
  acquires_inside = λ s k e. old.acquires_inside s k (rw (open_beat-c s m t is none) at e);
  holds_inside = λ k e. old.holds_inside k (falls k e);
  requests_below = λ s e. old.requests_below s
      (sym (pending-whole (RequestSource s) (C m) t none (beats-positive (C m) is)) ∙ e);
  releases_below = λ s e. opened_below (is_release m.opcode && (m.source == s)) (pending (ReleaseSource s) t) s
      terms.sources
      (λ same. let parts = and_parts (is_release m.opcode) (m.source == s) same in let source =
      eqb-true m.source s parts.1 in let low =
      below parts.0 in omega (arith, low, source)) (old.releases_below s)
      (sym (pending-whole (ReleaseSource s) (C m) t none (beats-positive (C m) is)) ∙ e);
}

inside_e : {w : ℕ} (terms : EndConfig) (m : MessageE) (t : History w) → IsWidth w → unfinished channel.E t ≡ []
    → IsInside terms t → IsInside terms (sent (E m) t)
inside_e {w} terms m t is none old = record {
  acquires_inside = λ s k e. old.acquires_inside s k (rw (open_beat-e s m t is none) at e);
  holds_inside = λ k e. old.holds_inside k (rw (held-sent_unsaid k (E m) t (λ i u. refl)) at e);
  requests_below = λ s e. old.requests_below s
      (sym (pending-whole (RequestSource s) (E m) t none (beats-positive {w = w} (E m) is)) ∙ e);
  releases_below = λ s e. old.releases_below s
      (sym (pending-whole (ReleaseSource s) (E m) t none (beats-positive {w = w} (E m) is)) ∙ e);
}

-- ---- operations

inside_load : {w : ℕ} (terms : EndConfig) (address size : ℕ) (p : Perm) (e : Endpoint w) → IsInside terms e.past
    → IsInside terms (load address size p e).after.past
inside_load terms address size perm.None e old = old
inside_load terms address size perm.Branch e old = old
inside_load terms address size perm.Trunk e old = old

inside_store : {w : ℕ} (terms : EndConfig) (address size value : ℕ) (p : Perm) (e : Endpoint w) → IsInside terms e.past
    → IsInside terms (store address size value p e).after.past
inside_store terms address size value perm.None e old = old
inside_store terms address size value perm.Branch e old = old
inside_store terms address size value perm.Trunk e old = old

own_source : {w : ℕ} (terms : EndConfig) (t : History w) → is_none (free_request terms t) ≡ false
    → source_or_0 (free_request terms t) < terms.sources
own_source terms t one = let below = (least_free-some (λ s. pending (RequestSource s) t) 0 terms.sources one).1 in
    omega (arith, below)

own_release : {w : ℕ} (terms : EndConfig) (t : History w) → is_none (free_release terms t) ≡ false
    → source_or_0 (free_release terms t) < terms.sources
own_release terms t one = let below = (least_free-some (λ s. pending (ReleaseSource s) t) 0 terms.sources one).1 in
    omega (arith, below)

holdable : (terms : EndConfig) (block : ℕ) → not (has_transfers terms.level) ≡ false
    → (leb terms.blocks block || false) ≡ false → is_holdable terms (block_at (64 * block)) ≡ true
holdable terms block four five =
    let inside : leb terms.blocks block ≡ false = (or_parts (leb terms.blocks block) false five).0 in
    rw (same_block block, not-false (has_transfers terms.level) four, inside) refl

falls_from : (b : Bool) (p q : Perm) → (holds p ≡ true → b ≡ true → holds q ≡ true) → holds (cond b p q) ≡ true
    → holds q ≡ true
falls_from true p q from e = from e refl
falls_from false p q from e = e

inside_release : {w : ℕ} (terms : EndConfig) (p : Prune) (source block : ℕ) (copy : List ℕ) (t : History w) → IsWidth w
    → unfinished channel.C t ≡ [] → source < terms.sources
    → same_perm (prune_left p) (held block t) ≡ true → IsInside terms t
    → IsInside terms (sent (release p source block copy) t)
inside_release {w} terms p source block copy t is none below left old =
    release-cases p source block copy (λ m. ((k : ℕ) → holds (held k (sent m t)) ≡ true → holds (held k t) ≡ true)
    → IsInside terms (sent m t))
    (λ falls. inside_c terms (about c.ReleaseData (prune_code p) source block copy) t is none (λ r. below) falls old)
    (λ falls. inside_c terms (about c.Release (prune_code p) source block zeros) t is none (λ r. below) falls old)
    (λ k e. falls_from (k == block) (prune_right p) (held k t)
    (λ h same. rw (eqb-true k block same) (falls_to p (held block t) left))
    (rw (held-release k p source block copy t is none) at e))

inside_done : {w : ℕ} (terms : EndConfig) (op : Op w) (e : Endpoint w) → IsWidth w → IsEndpointInvariant e
    → NotBusy terms op e → IsInside terms e.past → IsInside terms (done terms op e).after.past
inside_done terms (Load address size) e is kept free old = inside_load terms address size (held_at e (block_at address))
    e old
inside_done terms (Store address size value) e is kept free old =
    inside_store terms address size value (held_at e (block_at address)) e old
inside_done terms (Acquire block grow) e is kept free old =
    inside_a terms (acquisition a.AcquireBlock grow (source_or_0 (free_request terms e.past)) block) e.past is
    kept.a_whole (own_source terms e.past free.b1)
    (λ acquires. holdable terms block free.b4 free.b5) old
inside_done terms (AcquireWhole block bytes) e is kept free old =
    inside_a terms (acquisition a.AcquirePerm (whole_grow (held_at e block)) (source_or_0 (free_request terms e.past))
    block) e.past is kept.a_whole
    (own_source terms e.past free.b1) (λ acquires. holdable terms block free.b4 free.b5) old
inside_done terms (Release block prune) e is kept free old =
    subst (λ t. IsInside terms t) (sym (kept_past block (prune_right prune) _))
    (inside_release terms prune (source_or_0 (free_release terms e.past)) block (copy_at e block) e.past is kept.c_whole
    (own_release terms e.past free.b1)
    (not-false (same_perm (prune_left prune) (held_at e block)) free.b3) old)
inside_done terms (Access (A x)) e is kept free old =
    let plain = (no_acquire terms.level x.opcode (not-false (is_access_of terms.level x.opcode) free.b4)).0 in
    inside_a terms (sourced (source_or_0 (free_request terms e.past)) x) e.past is kept.a_whole
    (own_source terms e.past free.b1)
    (λ acquires. absurd (both_ways (is_acquire x.opcode) plain acquires)) old
inside_done terms (Access (B m)) e is kept free old = old
inside_done terms (Access (C m)) e is kept free old = old
inside_done terms (Access (D m)) e is kept free old = old
inside_done terms (Access (E m)) e is kept free old = old

pub inside-asked : {w : ℕ} (terms : EndConfig) (op : Op w) (e : Endpoint w) → IsWidth w → IsEndpointInvariant e
    → IsInside terms e.past → IsInside terms (asked terms op e).after.past
inside-asked terms op e is kept old = asked-cases terms op e (λ o. IsInside terms o.after.past) (λ b. old)
    (λ free. inside_done terms op e is kept free old)

-- ---- beats

inside_b : {w : ℕ} (terms : EndConfig) (x : BeatB w) (t : History w) → IsInside terms t → IsInside terms (beat.B x ∷ t)
inside_b terms x t old = record {
  acquires_inside = λ s k e. old.acquires_inside s k (rw (open_beat-b s x t) at e);
  holds_inside = λ k e. old.holds_inside k (rw (held_unsaid k (beat.B x) t refl) at e);
  requests_below = λ s e. old.requests_below s (sym (pending-quiet (RequestSource s) (beat.B x) t refl refl) ∙ e);
  releases_below = λ s e. old.releases_below s (sym (pending-quiet (ReleaseSource s) (beat.B x) t refl refl) ∙ e);
}

inside_probed : {w : ℕ} (terms : EndConfig) (x : BeatB w) (e : Endpoint w) → IsWidth w → IsEndpointInvariant e
    → IsInside terms e.past → IsInside terms (taken (beat.B x) e).after.past
inside_probed {w} terms x e is kept old =
    let block = block_at x.address in
    let p = held_at e block in
    let r = report_for x p in
    let t : History w = beat.B x ∷ e.past in
    let none : unfinished channel.C t ≡ [] = still_whole x e.past ∙ kept.c_whole in
    let before = inside_b terms x e.past old in
    subst (λ u. IsInside terms u) (sym (kept_past block (report_right r) _))
    (probe_ack-cases x.opcode p r block (copy_at e block)
    (λ m. ((k : ℕ) → holds (held k (sent m t)) ≡ true → holds (held k t) ≡ true) → IsInside terms (sent m t))
    (λ falls. inside_c terms (about c.ProbeAckData (report_code r) 0 block (copy_at e block)) t is none
    (λ releases. absurd (let bad : false ≡ true = releases in cc)) falls before)
    (λ falls. inside_c terms (about c.ProbeAck (report_code r) 0 block zeros) t is none
    (λ releases. absurd (let bad : false ≡ true = releases in cc)) falls before)
    (λ k e1. falls_from (k == block) (report_right r) (held k t)
    (λ h same. rw (eqb-true k block same, held_unsaid block (beat.B x) e.past refl)
    (reports_held (unwrap_or (cap_of x.param) cap.ToN) p h))
    (rw (held-probe_ack k x.opcode p r block (copy_at e block) t is none) at e1)))

held_more : (b : Bool) (p q : Perm) → holds (cond b p q) ≡ true → (b ≡ true) ⊎ (holds q ≡ true)
held_more true p q e = inl refl
held_more false p q e = inr e

inside_d : {w : ℕ} (terms : EndConfig) (x : BeatD w) (t : History w)
    → (is_grant x.opcode ≡ true → is_acquire_beat (open_beat x.source t) ≡ true) → IsInside terms t
    → IsInside terms (beat.D x ∷ t)
inside_d {w} terms x t acquired old = record {
  acquires_inside = λ s k e. old.acquires_inside s k (still_acquires k (closes_source x t s) (open_beat s t)
      (rw (open_beat-d s x t) at e)).1;
  holds_inside = λ k e. gives k (held_more (ends (beat.D x) t && grants k x t) (capped x.param) (held k t)
      (rw (held-beat_d k x t) at e));
  requests_below =
      λ s e. old.requests_below s (still (ends (beat.D x) t && closes (RequestSource s) (beat.D x) t)
      (pending (RequestSource s) t) (sym (pending-closed (RequestSource s) (beat.D x) t refl) ∙ e));
  releases_below =
      λ s e. old.releases_below s (still (ends (beat.D x) t && closes (ReleaseSource s) (beat.D x) t)
      (pending (ReleaseSource s) t) (sym (pending-closed (ReleaseSource s) (beat.D x) t refl) ∙ e));
}
  where
    gives : (k : ℕ) → ((ends (beat.D x) t && grants k x t) ≡ true) ⊎ (holds (held k t) ≡ true)
        → is_holdable terms k ≡ true
    gives k (inr before) = old.holds_inside k before
    gives k (inl granting) =
        let parts = and_parts (ends (beat.D x) t) (grants k x t) granting in
        let kind = and_parts (is_grant x.opcode) (asks_for k (request_of x.source t)) parts.1 in
        old.acquires_inside x.source k (acquires_granted x t k (acquired kind.0) kind.1)

inside_taken_d : {w : ℕ} (terms : EndConfig) (x : BeatD w) (e : Endpoint w) → IsWidth w → IsEndpointInvariant e
    → broken_in_order terms.profile (beat.D x) e.past ≡ None → IsInside terms e.past
    → IsInside terms (taken (beat.D x) e).after.past
inside_taken_d {w} terms x e is kept order old = go (ends (beat.D x) e.past)
  where
    now : IsInside terms (beat.D x ∷ e.past)
    now = inside_d terms x e.past (λ g. ((good_beat terms.profile e x kept order).good g).answers_acquire) old

    payload : List ℕ
    payload = payload_of (beat.D x ∷ unfinished channel.D e.past)

    same : (granted x.opcode (request_of x.source e.past) payload (with_past (beat.D x ∷ e.past) e)).past
        ≡ (beat.D x ∷ e.past)
    same = granted_past x.opcode (request_of x.source e.past) payload (with_past (beat.D x ∷ e.past) e)

    go : (b : Bool) → IsInside terms (cond b (responded x (request_of x.source e.past) payload e)
        (silent Taken (with_past (beat.D x ∷ e.past) e))).after.past
    go false = now
    go true = ended-cases x.opcode x _ (granted x.opcode (request_of x.source e.past) payload
        (with_past (beat.D x ∷ e.past) e)) (λ o. IsInside terms o.after.past)
        (λ grant. subst (λ t. IsInside terms (sent (E (record { sink = x.sink })) t)) (sym same)
        (inside_e terms (record { sink = x.sink }) (beat.D x ∷ e.past) is ((unfinished-d x e.past).3 ∙ kept.e_whole)
        now))
        (λ other. subst (λ t. IsInside terms t) (sym same) now)

inside_taken : {w : ℕ} (terms : EndConfig) (ch : Channel) (x : Beat w) (e : Endpoint w) → IsWidth w
    → IsEndpointInvariant e → IsPassed terms ch x e → IsInside terms e.past → IsInside terms (taken x e).after.past
inside_taken terms ch (beat.A x) e is kept passed old =
    absurd (incoming_only terms.level ch (beat.A x) passed.comes passed.lawful)
inside_taken terms ch (beat.B x) e is kept passed old = inside_probed terms x e is kept old
inside_taken terms ch (beat.C x) e is kept passed old =
    absurd (incoming_only terms.level ch (beat.C x) passed.comes passed.lawful)
inside_taken terms ch (beat.D x) e is kept passed old = inside_taken_d terms x e is kept passed.order old
inside_taken terms ch (beat.E x) e is kept passed old =
    absurd (incoming_only terms.level ch (beat.E x) passed.comes passed.lawful)

pub inside-offered : {w : ℕ} (terms : EndConfig) (ch : Channel) (x : Beat w) (e : Endpoint w) → IsWidth w
    → IsEndpointInvariant e → IsInside terms e.past → IsInside terms (offered terms ch x e).after.past
inside-offered terms ch x e is kept old = offered-cases terms ch x e (λ o. IsInside terms o.after.past) (λ r. old) old
    (λ passed. inside_taken terms ch x e is kept passed old)

pub inside-fresh : (w : ℕ) (terms : EndConfig) → IsInside {w = w} terms []
unfolding pending held
inside-fresh w terms = record {
  acquires_inside = λ s k e. absurd (let bad : false ≡ true = e in cc);
  holds_inside = λ k e. absurd (let bad : false ≡ true = e in cc);
  requests_below = λ s e. absurd (let bad : false ≡ true = e in cc);
  releases_below = λ s e. absurd (let bad : false ≡ true = e in cc);
}
