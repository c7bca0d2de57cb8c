-- What a manager hands out for a beat that it takes, and that it grants nothing that isn't asked for.
use Rattle.std.proofs.Common.{◌≡◌, ℕ, zero, suc, ◌==◌, Bool, true, false, ◌&&◌, List, [], ◌∷◌, ◌++◌, Option, Some, None}
use Rattle.std.proofs.Common.{refl, sym, ap, subst, ◌∙◌}
use Rattle.std.proofs.lemmas.Bool.{eqb-true, le-leb}
use Rattle.std.specs.Prelude.{nat_le, if◌then◌else◌, unwrap_or}
use Rattle.tl_beat.specs.declared.beat.Beat.{Beat}
use Rattle.tl_beat.specs.declared.beat.BeatA.{BeatA}
use Rattle.tl_beat.specs.declared.beat.BeatC.{BeatC}
use Rattle.tl_beat.specs.declared.beat.Link.{Link}
use Rattle.tl_beat.specs.declared.channel.Channel.{Channel}
use Rattle.tl_beat.specs.statement.Width.{IsWidth}
use Rattle.tl_burst.specs.declared.message.Message.{Message}
use Rattle.tl_burst.specs.declared.message.MessageD.{MessageD}
use Rattle.tl_burst.specs.statement.Burst.{beat_of, beats_of, begun}
use Rattle.tl_burst.specs.statement.Messages.{History}
use Rattle.tl_params.specs.declared.config.Config.{Config}
use Rattle.tl_params.specs.declared.key.Key.TheVariants.{AcquireOf}
use Rattle.tl_params.specs.declared.param.Cap.{Cap}
use Rattle.tl_params.specs.declared.perm.Perm.{Perm}
use Rattle.tl_rules.proofs.Open.{never}
use Rattle.tl_rules.specs.statement.Conformance.{Trace, on_link}
use Rattle.tl_rules.specs.statement.Effect.{Memory, answer_of}
unfoldable use Rattle.tl_rules.specs.statement.Effect.{effect}
use Rattle.tl_rules.specs.statement.History.{asks_for, block_at, capped, ends, is_acquire, is_grant}
use Rattle.tl_rules.specs.statement.History.{is_probe_ack, is_release, request_of}
unfoldable use Rattle.tl_rules.specs.statement.History.{pending}
use Rattle.tl_manager.proofs.calls.Events.{memory_with, reaction-ack, reaction-intent, reaction-part, reaction-probes}
use Rattle.tl_manager.proofs.calls.Events.{reaction-release, reaction-report, reaction-settled, reaction-unprobed}
use Rattle.tl_manager.proofs.calls.Keeping.{is_taken, recorded-offered}
use Rattle.tl_manager.proofs.calls.Reactions.{reaction_handable}
use Rattle.tl_manager.proofs.judging.Judged.{passed}
use Rattle.tl_manager.proofs.messages.Lawful.{IsHandable}
use Rattle.tl_manager.proofs.messages.Sound.{leveled}
use Rattle.tl_manager.proofs.pending.Accesses.{answer_kind}
use Rattle.tl_manager.proofs.pending.Handed.{after_sent, other_link, own_link}
use Rattle.tl_manager.proofs.pending.LinkHistories.{pending-closed}
use Rattle.tl_manager.proofs.pending.Performed.{answer_is, grant_is}
use Rattle.tl_manager.proofs.pending.Replied.{block_served}
use Rattle.tl_manager.proofs.pending.Replies.{asks_for-fields}
use Rattle.tl_manager.proofs.pending.Requested.{made, service_made}
use Rattle.tl_manager.proofs.pending.Steady.{request-ready}
use Rattle.tl_manager.proofs.pending.SteadyReports.{report-ready, report-service}
use Rattle.tl_manager.proofs.words_of_clients.Masks.{legal-small}
use Rattle.tl_manager.specs.code.Kept.{Each, IsKept, IsTyped}
use Rattle.tl_manager.specs.code.Ready.{IsReady, IsServed, IsTaken}
use Rattle.tl_manager.specs.laws.Pending.{IsNamed, is_acquiring}
use Rattle.tl_manager.specs.laws.Record.{granted_by, granted_by_all, reported_by}
use Rattle.tl_manager.specs.statement.End.{End}
use Rattle.tl_manager.specs.statement.Handing.{Handed, Reaction, access_answer, grant, performed, probes, release_ack}
unfoldable use Rattle.tl_manager.specs.statement.Handing.{with_handed}
use Rattle.tl_manager.specs.statement.Holders.{cap_probed, is_settled, probed, recorded}
use Rattle.tl_manager.specs.statement.Offer.{Passes, is_from_client, judged, level_of}
unfoldable use Rattle.tl_manager.specs.statement.Offer.{offered}
unfoldable use Rattle.tl_manager.specs.statement.Reaction.{reaction}
use Rattle.tl_manager.specs.statement.Service.{Service}

-- ---- what is handed out

-- nothing; the answer to a request that may be performed; Probes; or the answer to a Release that is complete
pub data Gives {w : ℕ} (config : Config) (link : Link) (x : Beat w) (e : End w) : Type 0 where
  Nothing : (reaction config link x e).handed ≡ [] → Gives config link x e
  Performs : (n : ℕ) (s : Service w) (memory : Memory) → IsReady config n s ((link, x) ∷ e.trace)
      → reaction config link x e ≡ performed config s ((link, x) ∷ e.trace) memory → Gives config link x e
  Probing : (n : ℕ) (cap : Cap) (clients : List ℕ) → (reaction config link x e).handed ≡ probes n cap clients
      → Gives config link x e
  Acks : (y : BeatC w) → x ≡ Beat.C y → is_release y.opcode ≡ true
      → (reaction config link x e).handed ≡ (link, release_ack y.source) ∷ [] → Gives config link x e

gives_a : {w : ℕ} (config : Config) (link : Link) (x : BeatA w) (e : End w) → IsTaken config link (Beat.A x) e
    → ends (Beat.A x) (on_link link.0 e.trace) ≡ true → Gives config link (Beat.A x) e
gives_a {w} config link x e is last = go (cap_probed s.request.opcode s.request.param) refl
  where
    u : Trace w
    u = (link, Beat.A x) ∷ e.trace

    found : (fits : nat_le x.size 6 ≡ true) × IsServed link x (service_made link x e.trace fits) e.trace
    found =
        let l = leveled (level_of config link.0) (Beat.A x) is.passes.sound.lawful in
        made link x e.trace last (le-leb x.size 6 (legal-small l.0 x is.width l.2))

    s : Service w
    s = service_made link x e.trace found.0

    ready : IsReady config (block_at x.address) s u
    ready = request-ready config link x e found.0 is found.1

    probing : (k : Cap) → cap_probed s.request.opcode s.request.param ≡ Some k → (ds : List ℕ)
        → probed config s k u ≡ ds → Gives config link (Beat.A x) e
    probing k caps [] f =
        Performs (block_at x.address) s e.memory ready (reaction-unprobed config link x s k e found.1 caps f)
    probing k caps (d ∷ ds) f =
        Probing (block_at x.address) k (d ∷ ds)
        (ap (λ (r : Reaction w). r.handed) (reaction-probes config link x s k d ds e found.1 caps f))

    go : (o : Option Cap) → cap_probed s.request.opcode s.request.param ≡ o → Gives config link (Beat.A x) e
    go None caps = Performs (block_at x.address) s e.memory ready (reaction-intent config link x s e found.1 caps)
    go (Some k) caps = probing k caps (probed config s k u) refl

gives_c : {w : ℕ} (config : Config) (link : Link) (x : BeatC w) (e : End w) → IsTaken config link (Beat.C x) e
    → Gives config link (Beat.C x) e
unfolding reaction
gives_c {w} config link x e is = go (ends (Beat.C x) (on_link link.0 e.trace)) (is_release x.opcode)
    (is_probe_ack x.opcode) refl refl refl
  where
    settled : (b : Bool) → is_settled config (block_at x.address) ((link, Beat.C x) ∷ e.trace) ≡ b
        → ends (Beat.C x) (on_link link.0 e.trace) ≡ true → is_release x.opcode ≡ false → is_probe_ack x.opcode ≡ true
        → Gives config link (Beat.C x) e
    settled true f last other kind =
        let s = report-service config link x e is kind in
        Performs (block_at x.address) s.0 (memory_with link x e) (report-ready config link x s.0 e is kind s.1 f)
        (reaction-settled config link x s.0 e last other kind f s.1)
    settled false f last other kind =
        Nothing (ap (λ (r : Reaction w). r.handed) (reaction-report config link x e last other kind f))

    go : (last release report : Bool) → ends (Beat.C x) (on_link link.0 e.trace) ≡ last → is_release x.opcode ≡ release
        → is_probe_ack x.opcode ≡ report → Gives config link (Beat.C x) e
    go false release report f g h =
        Nothing (ap (λ (r : Reaction w). r.handed) (reaction-part config link (Beat.C x) e f))
    go true true report f g h =
        Acks x refl g (ap (λ (r : Reaction w). r.handed) (reaction-release config link x e f g))
    go true false true f g h =
        settled (is_settled config (block_at x.address) ((link, Beat.C x) ∷ e.trace)) refl f g h
    go true false false f g h = Nothing (rw (f, g, h) refl)

pub gives : {w : ℕ} (config : Config) (link : Link) (x : Beat w) (e : End w) → IsTaken config link x e
    → Gives config link x e
gives {w} config link (Beat.A x) e is = go (ends (Beat.A x) (on_link link.0 e.trace)) refl
  where
    go : (b : Bool) → ends (Beat.A x) (on_link link.0 e.trace) ≡ b → Gives config link (Beat.A x) e
    go true f = gives_a config link x e is f
    go false f = Nothing (ap (λ (r : Reaction w). r.handed) (reaction-part config link (Beat.A x) e f))
gives config link (Beat.B x) e is = absurd (let theirs = is.passes.theirs in cc)
gives config link (Beat.C x) e is = gives_c config link x e is
gives config link (Beat.D x) e is = absurd (let theirs = is.passes.theirs in cc)
gives {w} config link (Beat.E x) e is =
    Nothing (ap (λ (r : Reaction w). r.handed) (reaction-ack config link x e))

-- ---- a Grant answers an Acquire that is pending

asked : {w : ℕ} (config : Config) (n k client : ℕ) (s : Service w) (source : ℕ) (u : Trace w) → IsReady config n s u
    → source ≡ s.request.source → (s.link.0 == client) ≡ true
    → asks_for k (request_of source (on_link client u)) ≡ (n == k)
asked {w} config n k client s source u is same here =
    let named = subst (IsNamed n u) is.serves (is.accounted.blocks n).named in
    ap (λ q. asks_for k (request_of q (on_link client u))) same
    ∙ ap (λ i. asks_for k (request_of s.request.source (on_link i u))) (sym (eqb-true s.link.0 client here))
    ∙ asks_for-fields s.request.opcode s.request.param s.request.size s.request.source s.request.address k
    (request_of s.request.source (on_link s.link.0 u)) (named.0 is.unanswered)
    ∙ ap (λ i. i == k) (block_served n u s is.serves)

acquiring : {w : ℕ} (config : Config) (n k client : ℕ) (s : Service w) (u : Trace w) → IsReady config n s u
    → is_acquire s.request.opcode ≡ true → (s.link.0 == client) ≡ true → (n == k) ≡ true
    → pending (AcquireOf k) (on_link client u) ≡ true
acquiring {w} config n k client s u is acquires here same =
    ap (λ i. pending (AcquireOf i) (on_link client u)) (sym (eqb-true n k same))
    ∙ (is.accounted.blocks n).acquires client ∙ ap (is_acquiring client u) is.serves
    ∙ rw (is.unanswered, acquires, here) refl

ungranted_d : {w : ℕ} (config : Config) (n k client : ℕ) (s : Service w) (m : MessageD w) (u : Trace w) (p : Perm)
    → IsReady config n s u → is_acquire s.request.opcode ≡ true → m.source ≡ s.request.source
    → pending (AcquireOf k) (on_link client u) ≡ false
    → unwrap_or (granted_by (s.link, Message.D m) u client k) p ≡ p
ungranted_d {w} config n k client s m u p is acquires source free = go (s.link.0 == client) refl
  where
    other : (b : Bool) → (n == k) ≡ b → (s.link.0 == client) ≡ true → b ≡ false
    other true same here =
        absurd (let yes = acquiring config n k client s u is acquires here same in cc)
    other false same here = refl

    go : (b : Bool) → (s.link.0 == client) ≡ b
        → unwrap_or (if b && (is_grant m.opcode && asks_for k (request_of m.source (on_link client u)))
        then Some (capped m.param) else None) p ≡ p
    go true here =
        rw (asked config n k client s m.source u is source here, other (n == k) refl here, never (is_grant m.opcode)) refl
    go false here = refl

ungranted-performed : {w : ℕ} (config : Config) (n k client : ℕ) (s : Service w) (u : Trace w) (memory : Memory)
    (p : Perm) → IsReady config n s u → pending (AcquireOf k) (on_link client u) ≡ false
    → granted_by_all (performed config s u memory).handed u client k p ≡ p
ungranted-performed {w} config n k client s u memory p is free = go (is_acquire s.request.opcode) refl
  where
    reaction_by : Bool → Reaction w
    reaction_by b = if b
        then record { handed = (s.link, grant config s u memory) ∷ []; memory = memory }
        else record {
          handed = (
            s.link,
            access_answer s.request
                (answer_of (Message.A s.request) (effect (Message.A s.request) memory).1),
          ) ∷ [];
          memory = (effect (Message.A s.request) memory).0;
        }

    other : (m : MessageD w) → is_grant m.opcode ≡ false → unwrap_or (granted_by (s.link, Message.D m) u client k) p ≡ p
    other m none = rw (none, never (s.link.0 == client)) refl

    go : (b : Bool) → is_acquire s.request.opcode ≡ b → granted_by_all (reaction_by b).handed u client k p ≡ p
    go true acquires =
        let m = grant_is config s u memory in
        subst (λ (i : Message w). unwrap_or (granted_by (s.link, i) u client k) p ≡ p) (sym m.1)
        (ungranted_d config n k client s m.0 u p is acquires m.4 free)
    go false access =
        let m = answer_is s.request (answer_of (Message.A s.request) (effect (Message.A s.request) memory).1) in
        subst (λ (i : Message w). unwrap_or (granted_by (s.link, i) u client k) p ≡ p) (sym m.1)
        (other m.0 (answer_kind m.0.opcode m.2))

ungranted-probes : {w : ℕ} (n k client : ℕ) (cap : Cap) (clients : List ℕ) (u : Trace w) (p : Perm)
    → granted_by_all (probes n cap clients) u client k p ≡ p
ungranted-probes n k client cap [] u p = refl
ungranted-probes n k client cap (d ∷ ds) u p = ungranted-probes n k client cap ds u p

pub ungranted : {w : ℕ} (config : Config) (link : Link) (x : Beat w) (e : End w) (client k : ℕ) (p : Perm)
    → IsTaken config link x e → pending (AcquireOf k) (on_link client ((link, x) ∷ e.trace)) ≡ false
    → granted_by_all (reaction config link x e).handed ((link, x) ∷ e.trace) client k p ≡ p
ungranted {w} config link x e client k p is free = go (gives config link x e is)
  where
    u : Trace w
    u = (link, x) ∷ e.trace

    quiet : (b : Bool) → unwrap_or (if b && false then Some (capped 0) else None) p ≡ p
    quiet true = refl
    quiet false = refl

    go : Gives config link x e → granted_by_all (reaction config link x e).handed u client k p ≡ p
    go (Nothing h) = ap (λ (d : Handed w). granted_by_all d u client k p) h
    go (Performs n s memory ready h) =
        ap (λ (d : Reaction w). granted_by_all d.handed u client k p) h
        ∙ ungranted-performed config n k client s u memory p ready free
    go (Probing n cap clients h) =
        ap (λ (d : Handed w). granted_by_all d u client k p) h ∙ ungranted-probes n k client cap clients u p
    go (Acks y same release h) = ap (λ (d : Handed w). granted_by_all d u client k p) h ∙ quiet (link.0 == client)

-- ---- and asks for nothing

absorbed : (b : Bool) → (if b then false else false) ≡ false
absorbed true = refl
absorbed false = refl

unasked_b : {w : ℕ} (k n : ℕ) (m : Message w) (h : History w) → is_from_client (beat_of m 0) ≡ false
    → pending (AcquireOf k) h ≡ false → pending (AcquireOf k) (begun m n ++ h) ≡ false
unasked_b k zero m h ours free = free
unasked_b k (suc n) (Message.B m) h ours free =
    pending-closed (AcquireOf k) (beat_of (Message.B m) n) (begun (Message.B m) n ++ h) refl
    ∙ rw (unasked_b k n (Message.B m) h ours free) (absorbed _)
unasked_b k (suc n) (Message.D m) h ours free =
    pending-closed (AcquireOf k) (beat_of (Message.D m) n) (begun (Message.D m) n ++ h) refl
    ∙ rw (unasked_b k n (Message.D m) h ours free) (absorbed _)
unasked_b k (suc n) v h ours free = absurd cc

unasked-sent : {w : ℕ} (client k : ℕ) (link : Link) (m : Message w) (t : Trace w) → is_from_client (beat_of m 0) ≡ false
    → pending (AcquireOf k) (on_link client t) ≡ false
    → pending (AcquireOf k) (on_link client (after_sent link m t)) ≡ false
unasked-sent {w} client k link m t ours free = go (link.0 == client) refl
  where
    go : (b : Bool) → (link.0 == client) ≡ b → pending (AcquireOf k) (on_link client (after_sent link m t)) ≡ false
    go true at = ap (pending (AcquireOf k)) (own_link client link m t at)
        ∙ unasked_b k (beats_of m) m (on_link client t) ours free
    go false at = ap (pending (AcquireOf k)) (other_link client link m t at) ∙ free

unasked-handed : {w : ℕ} (config : Config) (client k : ℕ) (handed : Handed w) (t : Trace w)
    → Each (IsHandable config) handed → pending (AcquireOf k) (on_link client t) ≡ false
    → pending (AcquireOf k) (on_link client (with_handed handed t)) ≡ false
unfolding with_handed
unasked-handed config client k [] t each free = free
unasked-handed config client k (x ∷ handed) t each free =
    unasked-handed config client k handed (after_sent x.0 x.1 t) each.1
    (unasked-sent client k x.0 x.1 t each.0.ours free)

-- ---- so what is recorded stays where no Acquire is pending

pub still : {w : ℕ} (config : Config) (link : Link) (ch : Channel) (x : Beat w) (e : End w) (client k : ℕ) → IsWidth w
    → IsTyped x → IsKept config e → judged config link ch x e ≡ Passes
    → pending (AcquireOf k) (on_link client ((link, x) ∷ e.trace)) ≡ false
    → reported_by (link, x) e.trace client k ≡ None
    → (pending (AcquireOf k) (on_link client (offered config link ch x e).1.trace) ≡ false)
    × (recorded client k (offered config link ch x e).1.trace ≡ recorded client k e.trace)
unfolding offered
still {w} config link ch x e client k width typed kept passes free unsaid =
    let ok = passed config link ch x e typed passes in
    let handable = reaction_handable config link x e width ok.sound kept.sound in
    let all = recorded-offered config link ch x e client k width typed kept in
    rw passes (
      unasked-handed config client k (reaction config link x e).handed ((link, x) ∷ e.trace) handable free,
      rw (passes, unsaid) at all
          ∙ ungranted config link x e client k (recorded client k e.trace) (is_taken config link x e width ok kept) free,
    )
