-- The requests of accesses that clients have open, as their links carry them.
use Rattle.tl_true_bytes.proofs.Imports.{Beat, BeatA, Link, OpA, MessageA, IsBlankAfter, a_beat_of, beats_of}
use Rattle.tl_true_bytes.proofs.Imports.{unfinished, Config, Request, Trace, on_link, AccessResult, ends, pending}
use Rattle.tl_true_bytes.proofs.Imports.{request_of, Access, is_access, writes, sourced, AbstractState}
use Rattle.tl_true_bytes.proofs.Imports.{IsRequest, MonitorRelations, SimulationRelation, trace_of, IsGiven, Log}
use Rattle.tl_true_bytes.proofs.Imports.{system_after, Machine, Requests, one_memory_after, shadow, trace-flows, flowed}
use Rattle.tl_true_bytes.proofs.Imports.{matched-given, effect-sourced, IsOfAccess, IsOpenAs, Channel, Op}
use Rattle.std.proofs.Common.{◌≡◌, ℕ, suc, Bool, true, false, not, ◌&&◌, ◌||◌, List, ◌∷◌, length, Some, None, refl, sym, ◌∙◌, ap}
use Rattle.std.proofs.Common.{subst}
use Rattle.std.{specs.Prelude.if◌then◌else◌, specs.Prelude.Option, specs.Prelude.is_some, proofs.lemmas.Bool.and_parts}
use Rattle.std.{specs.Prelude.find, proofs.lemmas.Bool.not-false}
use Rattle.tl_burst.specs.declared.message.Message.{Message}
use Rattle.tl_params.specs.declared.key.Key.TheVariants.{RequestSource}
use Rattle.tl_rules.{specs.code.Open.request_fields, specs.statement.Conformance.comes_in_request}
use Rattle.tl_coherence.specs.{protocol.Protocol.Replied, refinement.MemoryRelation.IsOpened}
use Rattle.tl_coherence.proofs.flow.Windowed.{asked_flow, opened-now}
use Rattle.tl_concord.{proofs.WritesBeside.replied_with, specs.statement.Accesses.IsAsked}
use Rattle.tl_bytes.proofs.Pending.{IsAskedNow}
use Rattle.tl_true_bytes.{specs.code.Like.IsLike, proofs.Asked.IsSomePending, proofs.AskedLog.pending-open}
use Rattle.tl_true_bytes.proofs.Asked.{comes-own}
use Rattle.tl_true_bytes.specs.code.Beside.{comes}
use Rattle.tl_bytes.specs.statement.Bytes.{asked_since, asks, is_of, is_put, pending_accesses}
use Rattle.tl_true_bytes.{proofs.Like.asked-opcode, proofs.Like.like-asked, proofs.Opened.IsOpen, proofs.Opened.asks_access}
use Rattle.tl_true_bytes.{proofs.Sources.open-request}

-- ---- a request that comes

pub writes_sourced : {w : ℕ} (source : ℕ) (m : MessageA w) (o : OpA) (x : ℕ)
    → writes o (sourced source m) x ≡ writes o m x
writes_sourced source m OpA.PutFullData x = refl
writes_sourced source m v x = refl

like_sourced : {w : ℕ} (source : ℕ) (p m : MessageA w) → IsLike p (sourced source m) → IsLike p m
like_sourced source p m like = record {
  opcode_is = like.opcode_is;
  size_is = like.size_is;
  address_is = like.address_is;
  effect_is = λ f. like.effect_is f ∙ effect-sourced source m f;
  writes_is = λ x. like.writes_is x ∙ writes_sourced source m m.opcode x;
}

-- what is asked for is open so
pub asked-open : {w : ℕ} (m : Machine w) (t : Trace w) (c s : ℕ) (p : Access w) (link : Link) (x : Beat w)
    → ((i : ℕ) (z : MessageA w) → m.opened link.0 Requests i
    ≡ Some (record { asked = Op.Access (Message.A z); answer = None })
    → IsBlankAfter (beats_of (Message.A (sourced i z))) (Message.A (sourced i z)))
    → IsOfAccess m link.0 x t → IsAskedNow c s p (link, x) t
    → IsOpenAs (comes c s ((link, x) ∷ t)) p (m.opened c Requests s)
asked-open {w} m t c s p link x blank of_access now = record {
  asked = z;
  answer = None;
  opened = ap (λ (d : ℕ). m.opened d Requests s) now.link_is ∙ ap (m.opened link.0 Requests) now.source_is
      ∙ asked.opened;
  accesses = sym (ap is_access (asked-opcode beat older (sourced beat.source z) n asked.has_come.burst_is)) ∙ both.0;
  like = λ whole. like (last whole);
}
  where
    beat : BeatA w
    beat = now.beat

    older : List (Beat w)
    older = unfinished Channel.A (on_link link.0 t)

    since : ℕ
    since = asked_since (find (is_of link.0 beat.source) (pending_accesses t)) (suc (length t))

    both : (is_access beat.opcode ≡ true) × (is_put beat.opcode || ends (Beat.A beat) (on_link link.0 t) ≡ true)
    both = and_parts (is_access beat.opcode) (is_put beat.opcode || ends (Beat.A beat) (on_link link.0 t))
        (and_parts (asks beat (on_link link.0 t)) _ now.asks_it).0

    asked : IsAsked m link.0 beat t
    asked = subst (λ (b : Beat w). IsOfAccess m link.0 b t) now.beat_is of_access both.0

    z : MessageA w
    z = asked.asked

    n : ℕ
    n = asked.has_come.count

    last : comes c s ((link, x) ∷ t) ≡ false → ends (Beat.A beat) (on_link link.0 t) ≡ true
    last whole = not-false (ends (Beat.A beat) (on_link link.0 t)) (sym (comes-own link beat t)
        ∙ ap (λ b. comes link.0 beat.source ((link, b) ∷ t)) (sym now.beat_is)
        ∙ ap (λ i. comes link.0 i ((link, x) ∷ t)) (sym now.source_is)
        ∙ ap (λ d. comes d s ((link, x) ∷ t)) (sym now.link_is) ∙ whole)

    like : ends (Beat.A beat) (on_link link.0 t) ≡ true → IsLike p.request z
    like complete = like_sourced beat.source p.request z
        (subst (λ (q : Access w). IsLike q.request (sourced beat.source z)) (sym now.access_is)
        (like-asked link.0 beat older since (sourced beat.source z) n
        (subst (λ (k : ℕ). IsBlankAfter k (Message.A (sourced beat.source z))) (sym (asked.has_come.whole complete))
        (blank beat.source z asked.opened)) asked.has_come.burst_is))

-- ---- an access that was answered

some_open : (p c : Bool) (o : Option Request) → is_some (if p && not c then o else None) ≡ true
    → (p ≡ true) × (c ≡ false)
some_open true false o e = (refl, refl)
some_open v u o e = absurd cc

module _ {w : ℕ} (config : Config) (log : Log w) (given : IsGiven config log) where
  abbrev h : AbstractState w
  h = shadow config log

  is : SimulationRelation config log h.mail h.request h.state (system_after config log)
  is = matched-given config log given

  values : MonitorRelations log h.mail h.state (system_after config log)
  values = flowed config log given.width given.typed given.is_log

  -- the request of one that is open is lawful, and zero where no beat carries anything
  pub request-known : (c s : ℕ) (a : MessageA w) (r : Option AccessResult)
      → (one_memory_after config log).opened c Requests s ≡ Some (record {
        asked = Op.Access (Message.A a);
        answer =
            r;
      }) → IsRequest config c s (Message.A (sourced s a))
  request-known c s a r e = open-request c s h.mail h.state a config r (h.state.uses c s)
      (subst (IsOpened c s h.mail h.state (h.state.uses c s)) e (is.beside.requests c s)) (is.sourced c s)

  -- its request is the one that its link has
  pub request-asked : (c s : ℕ) (a : MessageA w) (r : AccessResult)
      → (one_memory_after config log).opened c Requests s ≡ Some (record {
        asked = Op.Access (Message.A a);
        answer =
            Some r;
      }) → request_of s (on_link c (trace_of log)) ≡ Some (a_beat_of (sourced s a) 0)
  request-asked c s a r e =
      let used = replied_with c s h.mail h.state (h.state.uses c s) a r
      (subst (IsOpened c s h.mail h.state (h.state.uses c s)) e (is.beside.requests c s)) in
      ap (request_of s) (trace-flows c log)
      ∙ asked_flow config log h (system_after config log) is values c s (sourced s a) used.0 used.1

  pub answered-open : (c s : ℕ) (a : MessageA w) (r : AccessResult) → (one_memory_after config log).opened c Requests s
      ≡ Some (record { asked = Op.Access (Message.A a); answer = Some r })
      → is_access a.opcode ≡ true → IsOpen s (on_link c (trace_of log))
  answered-open c s a r e accesses = record {
    pending_is = parts.0;
    whole = parts.1;
    accesses = ap asks_access (request-asked c s a r e) ∙ accesses;
  }
    where
      used : (h.state.uses c s ≡ Replied) × (h.mail.request c s ≡ Message.A (sourced s a))
      used = replied_with c s h.mail h.state (h.state.uses c s) a r
          (subst (IsOpened c s h.mail h.state (h.state.uses c s)) e (is.beside.requests c s))

      parts : (pending (RequestSource s) (on_link c (trace_of log)) ≡ true)
          × (comes_in_request s (unfinished Channel.A (on_link c (trace_of log))) ≡ false)
      parts = some_open (pending (RequestSource s) (on_link c (trace_of log)))
          (comes_in_request s (unfinished Channel.A (on_link c (trace_of log))))
          (request_fields (request_of s (on_link c (trace_of log))))
          (opened-now config log h (system_after config log) is values c s (sourced s a) used.0 used.1)

  -- so it is pending
  pub answered-pending : (c s : ℕ) (a : MessageA w) (r : AccessResult)
      → (one_memory_after config log).opened c Requests s ≡ Some (record {
        asked = Op.Access (Message.A a);
        answer =
            Some r;
      }) → is_access a.opcode ≡ true → IsSomePending c s (trace_of log)
  answered-pending c s a r e accesses = pending-open config log given c s (answered-open c s a r e accesses)
