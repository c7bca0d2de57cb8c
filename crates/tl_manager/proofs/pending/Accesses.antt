-- What is pending after the answer to an access was handed out, and after a ReleaseAck.
use Rattle.tl_manager.proofs.Imports.{IsWidth, Link, OpD, D, MessageD, beat_of, unfinished, RequestSource, AcquireOf}
use Rattle.tl_manager.proofs.Imports.{GrantSink, GrantAckOf, ProbeOf, Trace, on_link, block_at, is_grant, is_acquire}
use Rattle.tl_manager.proofs.Imports.{is_release_ack, pending, never, count_where, is_granted, is_asking, is_acquiring}
use Rattle.tl_manager.proofs.Imports.{is_granted_to, IsNamed, IsHandled, IsAccounted, Service, services}
use Rattle.tl_manager.proofs.Imports.{service_of_block, is_access_answer, is_ended_by}
use Rattle.std.proofs.Common.{◌≡◌, ℕ, ◌==◌, Bool, true, false, not, ◌&&◌, [], None, refl, sym, ap, subst, ◌∙◌}
use Rattle.std.{specs.Prelude.filter, specs.Prelude.if◌then◌else◌, specs.Cmp.both_ways}
use Rattle.std.proofs.lemmas.Bool.{eqb-true, eq-eqb, and_parts}
use Rattle.tl_beat.specs.declared.channel.Channel.{Channel}
use Rattle.tl_manager.proofs.words_of_clients.Counts.{count-filter, counted-kept, filter-same, each_both, same_block}
use Rattle.tl_manager.proofs.words_of_clients.Counts.{serving-without}
use Rattle.tl_manager.{proofs.services.Ended.services-sent, proofs.pending.Handed.after_sent}
use Rattle.tl_manager.{proofs.pending.Probes.filter-all}
use Rattle.tl_manager.proofs.pending.Replied.{IsReply, asks-alone, asks_else, block_served, sources-reply}
use Rattle.tl_manager.proofs.pending.Replies.{reply-quiet, burst-reply, reports-reply, request-reply, probe-reply}
use Rattle.tl_manager.proofs.pending.Replies.{sink-reply}
use Rattle.tl_manager.proofs.blocks.Unmoved.{IsSame, handled-same, begun-kept, accounted-kept}

pub answer_kind : (opcode : OpD) → is_access_answer opcode ≡ true → is_grant opcode ≡ false
answer_kind OpD.AccessAck e = refl
answer_kind OpD.AccessAckData e = refl
answer_kind OpD.HintAck e = refl
answer_kind v e = absurd cc

ack_kind : (opcode : OpD) → is_release_ack opcode ≡ true → (is_grant opcode ≡ false) × (is_access_answer opcode ≡ false)
ack_kind OpD.ReleaseAck e = (refl, refl)
ack_kind v e = absurd cc

-- what a message of channel D that is no Grant leaves
pub granted-still : {w : ℕ} (link : Link) (m : MessageD w) (t : Trace w) (v : Service w) → IsWidth w
    → unfinished Channel.D (on_link link.0 t) ≡ [] → is_grant m.opcode ≡ false
    → is_granted (after_sent link (D m) t) v ≡ is_granted t v
granted-still link m t v width none other =
    ap (λ b. is_acquire v.request.opcode && b) (reply-quiet (GrantSink v.tracker) link m t v.link.0 width none
    (λ e. (rw other refl, refl)))

same-still : {w : ℕ} (link : Link) (m : MessageD w) (t : Trace w) (k : ℕ) → IsWidth w
    → unfinished Channel.D (on_link link.0 t) ≡ [] → is_grant m.opcode ≡ false
    → service_of_block k (services (after_sent link (D m) t)) ≡ service_of_block k (services t)
    → IsSame k t (after_sent link (D m) t)
same-still link m t k width none other serves = record {
  serves = serves;
  granted = λ v e. granted-still link m t v width none other;
  acquires = λ c. reply-quiet (AcquireOf k) link m t c width none (λ e. (refl, rw other refl));
  grants = λ c. reply-quiet (GrantAckOf k) link m t c width none (λ e. (rw other refl, refl));
  requests = λ v e f. request-reply link m t v.link.0 v.request.source;
  sinks = λ c. sink-reply link m t c k width none (λ e. rw other refl);
  probes = λ c e. sym (reply-quiet (ProbeOf k) link m t c width none (λ f. (refl, refl))) ∙ e;
  probe = λ c. probe-reply link m t c k;
}

-- ---- a ReleaseAck

pub services-release_ack : {w : ℕ} (link : Link) (m : MessageD w) (t : Trace w) → IsWidth w
    → unfinished Channel.D (on_link link.0 t) ≡ [] → is_release_ack m.opcode ≡ true
    → services (after_sent link (D m) t) ≡ services t
services-release_ack {w} link m t width none ack =
    services-sent link (D m) t width refl none
    ∙ filter-all (λ v. not (is_ended_by (link, beat_of (D m) 0) v)) (services t)
    (λ v. rw ((ack_kind m.opcode ack).1) (ap not (never (v.link.0 == link.0))))

pub accounted-release_ack : {w : ℕ} (link : Link) (m : MessageD w) (t : Trace w) → IsWidth w
    → unfinished Channel.D (on_link link.0 t) ≡ [] → is_release_ack m.opcode ≡ true → IsAccounted t
    → IsAccounted (after_sent link (D m) t)
accounted-release_ack {w} link m t width none ack ok =
    let other = (ack_kind m.opcode ack).0 in
    accounted-kept t (after_sent link (D m) t)
    (record {
      serves = services-release_ack link m t width none ack;
      granted = λ v. granted-still link m t v width none other;
      bursts = λ c. burst-reply link m t c;
      sources = λ c q. reply-quiet (RequestSource q) link m t c width none (λ e. (refl, rw ack refl));
      requests = λ c q. request-reply link m t c q;
    })
    (λ c. reports-reply link m t c width none ok)
    (λ k. handled-same k t (after_sent link (D m) t)
    (same-still link m t k width none other
    (ap (service_of_block k) (services-release_ack link m t width none ack))) (ok.blocks k)) ok

-- ---- an answer to an access

-- it ends the service of its block, and no other
pub services-answer : {w : ℕ} (n : ℕ) (s : Service w) (m : MessageD w) (t : Trace w) → IsReply n s m t
    → is_access_answer m.opcode ≡ true → is_acquire s.request.opcode ≡ false → IsAccounted t
    → services (after_sent s.link (D m) t) ≡ filter (λ v. not (block_at v.request.address == n)) (services t)
services-answer {w} n s m t is answer access ok =
    services-sent s.link (D m) t is.width refl is.whole
    ∙ filter-same (λ v. not (is_ended_by (s.link, beat_of (D m) 0) v)) (λ v. not (block_at v.request.address == n))
    (services t)
    (each_both (λ v. is_asking s.link.0 s.request.source t v ≡ true → v ≡ s)
    (λ v. (block_at v.request.address == n) ≡ true → v ≡ s)
    (λ v. not (is_ended_by (s.link, beat_of (D m) 0) v) ≡ not (block_at v.request.address == n)) (services t)
    (λ v alone mine. ap not (both_ways (is_ended_by (s.link, beat_of (D m) 0) v) (block_at v.request.address == n)
    (λ e. of_block v (alone (asking v e))) (λ e. ended v (mine e))))
    (asks-alone n s m t is ok) (same_block n (services t) s is.blocks_apart is.serves))
  where
    of_block : (v : Service w) → v ≡ s → (block_at v.request.address == n) ≡ true
    of_block v e = eq-eqb (block_at v.request.address) n (ap (λ (r : Service w). block_at r.request.address)
        e ∙ block_served n t s is.serves)

    ends_it : is_ended_by (s.link, beat_of (D m) 0) s ≡ true
    ends_it = rw (eq-eqb s.link.0 s.link.0 refl, answer, access, eq-eqb s.request.source m.source (sym is.source)) refl

    ended : (v : Service w) → v ≡ s → is_ended_by (s.link, beat_of (D m) 0) v ≡ true
    ended v e = ap (is_ended_by (s.link, beat_of (D m) 0)) e ∙ ends_it

    asking : (v : Service w) → is_ended_by (s.link, beat_of (D m) 0) v ≡ true
        → is_asking s.link.0 s.request.source t v ≡ true
    asking v e =
        let p = and_parts (v.link.0 == s.link.0)
        (is_access_answer m.opcode && (not (is_acquire v.request.opcode) && (v.request.source == m.source))) e in
        let q = and_parts (not (is_acquire v.request.opcode)) (v.request.source == m.source)
        (and_parts (is_access_answer m.opcode) _ p.1).1 in
        let from : (v.request.source == s.request.source) ≡ true =
        eq-eqb v.request.source s.request.source (eqb-true v.request.source m.source q.1 ∙ is.source) in
        rw (p.0, from) (ungranted (is_acquire v.request.opcode) (pending (GrantSink v.tracker) (on_link v.link.0 t))
        q.0)
      where
        ungranted : (a b : Bool) → not a ≡ true → not (a && b) ≡ true
        ungranted true b f = absurd cc
        ungranted false b f = refl

pub accounted-answer : {w : ℕ} (n : ℕ) (s : Service w) (m : MessageD w) (t : Trace w) → IsReply n s m t
    → is_access_answer m.opcode ≡ true → is_acquire s.request.opcode ≡ false
    → IsAccounted t → IsAccounted (after_sent s.link (D m) t)
accounted-answer {w} n s m t is answer access ok = record {
  sources = λ c q. sources-reply n c q s m t is ok (counted c q);
  begun = λ c. begun-kept t u c (burst-reply s.link m t c) (λ q. request-reply s.link m t c q) ok;
  reports = λ c. reports-reply s.link m t c is.width is.whole ok;
  blocks = λ k. handled k (n == k) refl;
}
  where
    u : Trace w
    u = after_sent s.link (D m) t

    other : is_grant m.opcode ≡ false
    other = answer_kind m.opcode answer

    serves : (k : ℕ) → service_of_block k (services u) ≡ (if n == k then None else service_of_block k (services t))
    serves k = ap (service_of_block k) (services-answer n s m t is answer access ok) ∙ serving-without n k (services t)

    counted : (c q : ℕ) → count_where (is_asking c q u) (services u) ≡ count_where (asks_else n c q t) (services t)
    counted c q =
        ap (count_where (is_asking c q u)) (services-answer n s m t is answer access ok)
        ∙ counted-kept t u c q (filter (λ v. not (block_at v.request.address == n)) (services t))
        (λ v. granted-still s.link m t v is.width is.whole other)
        ∙ count-filter (λ v. not (block_at v.request.address == n)) (is_asking c q t) (services t)

    gone : service_of_block n (services u) ≡ None
    gone = serves n ∙ rw (eq-eqb n n refl) refl

    handled : (k : ℕ) (b : Bool) → (n == k) ≡ b → IsHandled k u
    handled k false e = handled-same k t u (same-still s.link m t k is.width is.whole other (serves k ∙ rw e refl))
        (ok.blocks k)
    handled k true e = subst (λ (i : ℕ). IsHandled i u) (eqb-true n k e) (record {
      acquires = λ c.
          reply-quiet (AcquireOf n) s.link m t c is.width is.whole (λ f. (refl, rw other refl)) ∙ (ok.blocks n).acquires
          c ∙ ap (is_acquiring c t) is.serves
          ∙ ap (λ b. b && ((s.link.0 == c) && not (is_granted t s))) access ∙ ap (is_acquiring c u) (sym gone);
      grants = λ c.
          reply-quiet (GrantAckOf n) s.link m t c is.width is.whole (λ f. (rw other refl, refl)) ∙ (ok.blocks n).grants
          c ∙ ap (is_granted_to c t) is.serves
          ∙ ap (λ b. (s.link.0 == c) && b) is.unanswered ∙ never (s.link.0 == c) ∙ ap (is_granted_to c u) (sym gone);
      named = subst (IsNamed n u) (sym gone) tt;
      probes = λ c f. absurd (let no : pending (ProbeOf n) (on_link c u) ≡ false =
          reply-quiet (ProbeOf n) s.link m t c is.width is.whole (λ g. (refl, refl)) ∙ is.settled c in cc);
    })
