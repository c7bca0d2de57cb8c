-- What is pending after the Grant of an Acquire was handed out.
use Rattle.tl_manager.proofs.Imports.{IsWidth, Link, OpD, D, MessageD, beat_of, unfinished, beats-positive, AcquireOf}
use Rattle.tl_manager.proofs.Imports.{GrantSink, GrantAckOf, ProbeOf, Trace, on_link, block_at, is_grant, is_acquire}
use Rattle.tl_manager.proofs.Imports.{pending, asks_for, request_of, grant_sink, never, Each, count_where, is_granted}
use Rattle.tl_manager.proofs.Imports.{is_asking, is_acquiring, is_granted_to, IsNamed, IsHandled, IsAccounted, Service}
use Rattle.tl_manager.proofs.Imports.{services, service_of_block, is_access_answer, is_ended_by}
use Rattle.std.proofs.Common.{◌≡◌, ℕ, ◌==◌, Bool, true, false, not, ◌&&◌, List, [], ◌∷◌, Some, refl, sym, ap, subst}
use Rattle.std.proofs.Common.{◌∙◌}
use Rattle.std.{specs.Prelude.if◌then◌else◌, proofs.lemmas.Bool.eqb-true, proofs.lemmas.Bool.eq-eqb}
use Rattle.tl_beat.specs.declared.channel.Channel.{Channel}
use Rattle.tl_manager.proofs.words_of_clients.Counts.{count-same, each_both, same_block, same_tracker}
use Rattle.tl_manager.{proofs.services.Ended.services-sent, proofs.pending.Handed.after_sent}
use Rattle.tl_manager.{proofs.pending.Handed.own_link, proofs.pending.Probes.filter-all}
use Rattle.tl_manager.{proofs.services.Serving.some_is, proofs.services.Serving.not_swapped}
use Rattle.tl_manager.proofs.pending.Replied.{IsReply, asks_else, block_served, sources-reply}
use Rattle.tl_manager.proofs.pending.Replies.{pending-reply, reply-quiet, burst-reply, reports-reply, request-reply}
use Rattle.tl_manager.proofs.pending.Replies.{probe-reply, grant_sink-sent, sink-reply, asks_for-fields}
use Rattle.tl_manager.proofs.blocks.Unmoved.{IsSame, handled-same, begun-kept}

grant_kind : (opcode : OpD) → is_grant opcode ≡ true → is_access_answer opcode ≡ false
grant_kind OpD.Grant e = refl
grant_kind OpD.GrantData e = refl
grant_kind v e = absurd cc

-- it ends no service
pub services-grant : {w : ℕ} (link : Link) (m : MessageD w) (t : Trace w) → IsWidth w
    → unfinished Channel.D (on_link link.0 t) ≡ [] → is_grant m.opcode ≡ true
    → services (after_sent link (D m) t) ≡ services t
services-grant {w} link m t width none grant =
    services-sent link (D m) t width refl none
    ∙ filter-all (λ v. not (is_ended_by (link, beat_of (D m) 0) v)) (services t)
    (λ v. rw (grant_kind m.opcode grant) (ap not (never (v.link.0 == link.0))))

-- a Grant that has the tracker of its service as its sink
pub record IsGrant {w : ℕ} (n : ℕ) (s : Service w) (m : MessageD w) (t : Trace w) : Type 0 where
  pub reply : IsReply n s m t
  pub grants : is_grant m.opcode ≡ true
  pub sink : m.sink ≡ s.tracker
  pub acquires : is_acquire s.request.opcode ≡ true

-- the service is granted
pub granted-now : {w : ℕ} (n : ℕ) (s : Service w) (m : MessageD w) (t : Trace w) → IsGrant n s m t
    → is_granted (after_sent s.link (D m) t) s ≡ true
granted-now {w} n s m t is =
    rw is.acquires (pending-reply (GrantSink s.tracker) s.link m t s.link.0 is.reply.width is.reply.whole ∙ rw
    (eq-eqb s.link.0 s.link.0 refl, is.grants, eq-eqb m.sink s.tracker is.sink) refl)

-- and one of another tracker as it was
granted-else : {w : ℕ} (n : ℕ) (s v : Service w) (m : MessageD w) (t : Trace w) → IsGrant n s m t
    → (v.tracker == s.tracker) ≡ false → is_granted (after_sent s.link (D m) t) v ≡ is_granted t v
granted-else n s v m t is apart =
    ap (λ b. is_acquire v.request.opcode && b) (reply-quiet (GrantSink v.tracker) s.link m t v.link.0 is.reply.width
    is.reply.whole (λ e. (rw is.grants (away (m.sink == v.tracker) refl), refl)))
  where
    away : (b : Bool) → (m.sink == v.tracker) ≡ b → b ≡ false
    away true e = absurd (let same : (v.tracker == s.tracker) ≡ true =
        eq-eqb v.tracker s.tracker (sym (eqb-true m.sink v.tracker e) ∙ is.sink) in cc)
    away false e = refl

-- a service of another block has another tracker
apart_from : {w : ℕ} (n : ℕ) (s v : Service w) (t : Trace w) → service_of_block n (services t) ≡ Some s
    → ((v.tracker == s.tracker) ≡ true → v ≡ s) → (block_at v.request.address == n) ≡ false
    → (v.tracker == s.tracker) ≡ false
apart_from {w} n s v t serves same other = go (v.tracker == s.tracker) refl
  where
    go : (b : Bool) → (v.tracker == s.tracker) ≡ b → b ≡ false
    go true e =
        absurd (let mine : (block_at v.request.address == n) ≡ true =
        eq-eqb (block_at v.request.address) n (ap (λ (r : Service w). block_at r.request.address)
        (same e) ∙ block_served n t s serves) in cc)
    go false e = refl

-- what holds of each service holds of the service of a block
pub of_served : {w : ℕ} (P : Service w → Type 0) (k : ℕ) (ss : List (Service w)) (v : Service w)
    → service_of_block k ss ≡ Some v → Each P ss → P v
of_served P k [] v e each = absurd cc
of_served {w} P k (r ∷ ss) v e each = go (block_at r.request.address == k) e (λ f. of_served P k ss v f each.1)
  where
    go : (b : Bool) → (if b then Some r else service_of_block k ss) ≡ Some v → (service_of_block k ss ≡ Some v → P v)
        → P v
    go true f rest = subst P (some_is r v f) each.0
    go false f rest = rest f

pub granted-elsewhere : {w : ℕ} (n k : ℕ) (s v : Service w) (m : MessageD w) (t : Trace w) → IsGrant n s m t
    → (n == k) ≡ false → service_of_block k (services t) ≡ Some v
    → is_granted (after_sent s.link (D m) t) v ≡ is_granted t v
granted-elsewhere {w} n k s v m t is other e =
    granted-else n s v m t is
    (apart_from n s v t is.reply.serves
    (of_served (λ (r : Service w). (r.tracker == s.tracker) ≡ true → r ≡ s) k (services t) v e
    (same_tracker n (services t) s is.reply.trackers_apart is.reply.serves))
    (ap (λ i. i == n) (block_served k t v e) ∙ not_swapped n k other))

-- which block the request asks for
asks_block : {w : ℕ} (n k c : ℕ) (s : Service w) (m : MessageD w) (t : Trace w) → IsGrant n s m t → IsAccounted t
    → (s.link.0 == c) ≡ true → asks_for k (request_of m.source (on_link c t)) ≡ (n == k)
asks_block n k c s m t is ok here =
    let named = subst (IsNamed n t) is.reply.serves (ok.blocks n).named in
    ap (λ q. asks_for k (request_of q (on_link c t))) is.reply.source
    ∙ ap (λ i. asks_for k (request_of s.request.source (on_link i t))) (sym (eqb-true s.link.0 c here))
    ∙ asks_for-fields s.request.opcode s.request.param s.request.size s.request.source s.request.address k
    (request_of s.request.source (on_link s.link.0 t)) (named.0 is.reply.unanswered)
    ∙ ap (λ i. i == k) (block_served n t s is.reply.serves)

pub accounted-grant : {w : ℕ} (n : ℕ) (s : Service w) (m : MessageD w) (t : Trace w) → IsGrant n s m t → IsAccounted t
    → IsAccounted (after_sent s.link (D m) t)
accounted-grant {w} n s m t is ok = record {
  sources = λ c q. sources-reply n c q s m t is.reply ok (counted c q);
  begun = λ c. begun-kept t u c (burst-reply s.link m t c) (λ q. request-reply s.link m t c q) ok;
  reports = λ c. reports-reply s.link m t c is.reply.width is.reply.whole ok;
  blocks = λ k. handled k (n == k) refl;
}
  where
    u : Trace w
    u = after_sent s.link (D m) t

    width : IsWidth w
    width = is.reply.width

    whole : unfinished Channel.D (on_link s.link.0 t) ≡ []
    whole = is.reply.whole

    serves : services u ≡ services t
    serves = services-grant s.link m t width whole is.grants

    trackers : Each (λ v. (v.tracker == s.tracker) ≡ true → v ≡ s) (services t)
    trackers = same_tracker n (services t) s is.reply.trackers_apart is.reply.serves

    neither : (a b : Bool) → (a && (b && false)) ≡ false
    neither true b = never b
    neither false b = refl

    asks_now : (c q : ℕ) (v : Service w) (b : Bool) → (block_at v.request.address == n) ≡ b
        → ((block_at v.request.address == n) ≡ true → v ≡ s) → ((v.tracker == s.tracker) ≡ true → v ≡ s)
        → is_asking c q u v ≡ (not b && is_asking c q t v)
    asks_now c q v true e mine same =
        ap (is_asking c q u) (mine e) ∙ ap (λ b. (s.link.0 == c) && ((s.request.source == q) && not b))
        (granted-now n s m t is) ∙ neither (s.link.0 == c) (s.request.source == q)
    asks_now c q v false e mine same =
        ap (λ b. (v.link.0 == c) && ((v.request.source == q) && not b))
        (granted-else n s v m t is (apart_from n s v t is.reply.serves same e))

    counted : (c q : ℕ) → count_where (is_asking c q u) (services u) ≡ count_where (asks_else n c q t) (services t)
    counted c q =
        ap (count_where (is_asking c q u)) serves
        ∙ count-same (is_asking c q u) (asks_else n c q t) (services t)
        (each_both (λ v. (block_at v.request.address == n) ≡ true → v ≡ s) (λ v. (v.tracker == s.tracker) ≡ true
        → v ≡ s) (λ v. is_asking c q u v ≡ asks_else n c q t v) (services t)
        (λ v mine same. asks_now c q v (block_at v.request.address == n) refl mine same)
        (same_block n (services t) s is.reply.blocks_apart is.reply.serves) trackers)

    missing : (c k : ℕ) → pending (ProbeOf k) (on_link c u) ≡ pending (ProbeOf k) (on_link c t)
    missing c k = reply-quiet (ProbeOf k) s.link m t c width whole (λ f. (refl, refl))

    -- another block
    same-else : (k : ℕ) → (n == k) ≡ false → IsSame k t u
    same-else k other = record {
      serves = ap (service_of_block k) serves;
      granted = λ v e. granted-elsewhere n k s v m t is other e;
      acquires = λ c. reply-quiet (AcquireOf k) s.link m t c width whole (λ f. (refl, quiet c f));
      grants = λ c. reply-quiet (GrantAckOf k) s.link m t c width whole (λ f. (quiet c f, refl));
      requests = λ v e f. request-reply s.link m t v.link.0 v.request.source;
      sinks = λ c. sink-reply s.link m t c k width whole (λ f. quiet c f);
      probes = λ c e. sym (missing c k) ∙ e;
      probe = λ c. probe-reply s.link m t c k;
    }
      where
        quiet : (c : ℕ) → (s.link.0 == c) ≡ true → (is_grant m.opcode && asks_for k (request_of m.source (on_link c t)))
            ≡ false
        quiet c f = ap (λ b. is_grant m.opcode && b) (asks_block n k c s m t is ok f ∙ other) ∙ never
            (is_grant m.opcode)

    -- and its own
    here_grants : (c : ℕ) → (s.link.0 == c) ≡ true
        → (is_grant m.opcode && asks_for n (request_of m.source (on_link c t))) ≡ true
    here_grants c f = ap (λ b. is_grant m.opcode && b) (asks_block n n c s m t is ok f ∙ eq-eqb n n refl) ∙ rw is.grants
        refl

    served : service_of_block n (services u) ≡ Some s
    served = ap (service_of_block n) serves ∙ is.reply.serves

    acquires_at : (c : ℕ) (b : Bool) → (s.link.0 == c) ≡ b → pending (AcquireOf n) (on_link c u) ≡ false
    acquires_at c true e = pending-reply (AcquireOf n) s.link m t c width whole ∙ rw (e, here_grants c e) refl
    acquires_at c false e =
        pending-reply (AcquireOf n) s.link m t c width whole ∙ rw e
        ((ok.blocks n).acquires c ∙ ap (is_acquiring c t) is.reply.serves ∙ rw e
        (never (is_acquire s.request.opcode)))

    grants_at : (c : ℕ) (b : Bool) → (s.link.0 == c) ≡ b → pending (GrantAckOf n) (on_link c u) ≡ b
    grants_at c true e = pending-reply (GrantAckOf n) s.link m t c width whole ∙ rw (e, here_grants c e) refl
    grants_at c false e = pending-reply (GrantAckOf n) s.link m t c width whole ∙ rw e
        ((ok.blocks n).grants c ∙ ap (is_granted_to c t) is.reply.serves ∙ rw e refl)

    only : (b : Bool) → (b && true) ≡ b
    only true = refl
    only false = refl

    sink_here : grant_sink n (on_link s.link.0 u) ≡ Some s.tracker
    sink_here =
        let own = eq-eqb s.link.0 s.link.0 refl in
        ap (grant_sink n) (own_link s.link.0 s.link (D m) t own) ∙ grant_sink-sent n m (on_link s.link.0 t) whole
        (beats-positive (D m) width)
        ∙ ap (λ b. if b then Some m.sink else grant_sink n (on_link s.link.0 t)) (here_grants s.link.0 own) ∙ ap Some
        is.sink

    handled : (k : ℕ) (b : Bool) → (n == k) ≡ b → IsHandled k u
    handled k false e = handled-same k t u (same-else k e) (ok.blocks k)
    handled k true e = subst (λ (i : ℕ). IsHandled i u) (eqb-true n k e) (record {
      acquires = λ c.
          acquires_at c (s.link.0 == c) refl
          ∙ sym (ap (is_acquiring c u) served ∙ ap (λ b. is_acquire s.request.opcode && ((s.link.0 == c) && not b))
          (granted-now n s m t is) ∙ neither (is_acquire s.request.opcode) (s.link.0 == c));
      grants = λ c. grants_at c (s.link.0 == c) refl ∙ sym
          (ap (is_granted_to c u) served ∙ ap (λ b. (s.link.0 == c) && b) (granted-now n s m t is) ∙ only
          (s.link.0 == c));
      named = subst (IsNamed n u) (sym served) (
        λ f. absurd (let yes : is_granted u s ≡ true = granted-now n s m t is in
            cc),
        λ f. sink_here,
      );
      probes = λ c f. absurd (let no : pending (ProbeOf n) (on_link c u) ≡ false = missing c n ∙ is.reply.settled c in
          cc);
    })
