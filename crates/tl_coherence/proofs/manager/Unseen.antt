-- Events that the manager doesn't see: clients that are asked, and beats that clients take. What it knows stays so.
-- Steps of the whole that the manager doesn't see: an event of a client that there isn't, a client that is asked, and a
-- delivery to a client.
-- What the manager hands out at the last beat of a request: the messages of the tokens that the protocol pushes.
use Rattle.std.proofs.Common.{◌≡◌, ℕ, suc, ◌*◌, Bool, true, false, ◌&&◌, ◌==◌, if◌then◌else◌, List, [], ◌∷◌, Option}
use Rattle.std.proofs.Common.{Some, None, Result, Ok, refl, sym, ◌∙◌, ap, ap₂, subst, arith, inl, inr, length, eqb-true}
use Rattle.tl_coherence.proofs
use proofs.Imports.{cases_eq, Beat, Link, Channel, Message, MessageA, a_beat_of, beats_of}
use proofs.Imports.{unfinished, Config, Cap, Grow, Perm, Rule, cap_right, Trace, same_perm, Memory, bytes_from}
use proofs.Imports.{block_at, same_block, Op, Reply, Verdict, copy_stored, whole_grow, offered, access}
use proofs.Imports.{performed-access, performed-acquire, End, cap_granted, cap_probed, recorded, level_of, reaction}
use proofs.Imports.{Event, Ask, Deliver, Outcome, IsInvariant, IsWell, Answer, Grant, Kind, Packet, Probe, ReleaseAck}
use proofs.Imports.{set, set_at, ClientBlock, is_unprobed, is_whole, after_acquire, after_grant, after_grant_sent}
use proofs.Imports.{after_probe, after_release, after_release_ack, is_granted_data, Block, Free, GrantSent, GrantTaken}
use proofs.Imports.{InService, Service, SourceFree, State, Waits, acquiring_block, granted_at_once, is_on, let_go_block}
use proofs.Imports.{on, packet, packets_on, probed_block, releasing_block, stored_block, taken_block, AbstractState}
use proofs.Imports.{abstract_step, abstract_step_by, answers, asked, gift, is_unheld, kind_taken, packet_taken}
use proofs.Imports.{probes_some, taken_by_client, channel_for, AccessMessages, cap_sent, grant_of, block_message}
use proofs.Imports.{IsServedWith, SimulationRelation, is_caching, receiver, is_moving, Log, client_of, handed_by}
use proofs.Imports.{is_to_client, judged, stepped, System, terms_at, with_channel, with_client}
use Rattle.tl_coherence.specs.refinement.AbstractStep.{is_last}
use Rattle.tl_manager.specs.statement.Handing.{grant_with, grant_payload}
use Rattle.tl_manager.specs.statement.Handing as handing
use Rattle.tl_manager.specs.statement.Holders as holders
use Rattle.tl_manager.specs.statement.Service as manager
use Rattle.tl_client.specs.statement.Ask as client_ask
use Rattle.tl_client.specs.statement.Endpoint as client
use proofs.queues.FirstToken.{own_kind}
use proofs.Imports.{is_caching}
use proofs.manager.{Memories.performed-reply, Memories.IsManagerOf}
use proofs.manager.RequestsTaken.{acquire_wanted, next_tracker, reaction-performed, unheld-same}
use proofs.manager.Probing.{recorded-beat, link_of, with_beat, IsComing, service_for}
use proofs.manager.Accounts.{waits-used, at_manager-matched, IsAtManager, at_manager-same}
use proofs.manager.BlockAccounts.{IsSameToManager, SameService}
use proofs.protocol.{Room.IsAsked, Room.IsWanted, FollowKept.IsAskable}
use proofs.protocol.BothParts.{granting-own, first-probe, first-shown}
use proofs.queues.{Codes.acquires-so, Codes.gives-some, Codes.data-same, Moves.kind_channel, Moves.on_same}
use proofs.queues.Tokens.{set-same, set-other, set-part}
use proofs.queues.Steps.{manager-with_messages, stepped-asked, stepped-to-client, stepped-empty}

-- ---- one block changes, and not to the manager

same-again : (service : Service) → SameService service service
same-again service = grind arith

-- the block is the same to the manager
pub record IsSameBlock {X : Type 0} (b new : Block X) : Type 0 where
  pub recorded_same : (c : ℕ) → (new.pair c).recorded ≡ (b.pair c).recorded
  pub quiet_same : (c : ℕ) → is_unprobed (new.pair c).probing ≡ is_unprobed (b.pair c).probing
  pub tracker_same : new.tracker ≡ b.tracker
  pub service_same : SameService b.service new.service
  pub memory_same : new.memory ≡ b.memory

same-blocks : {X : Type 0} (n : ℕ) {new : Block X} (s u : State X) → ((i : ℕ) → u.block i ≡ set n new s.block i)
    → IsSameBlock (s.block n) new → IsSameToManager s u × ((i : ℕ) → (u.block i).memory ≡ (s.block i).memory)
same-blocks {X} n {new} s u blocks is = (
  record {
    recorded_same = λ c i. same (λ (b : Block X). (b.pair c).recorded) (is.recorded_same c) i;
    quiet_same = λ c i. same (λ (b : Block X). is_unprobed (b.pair c).probing) (is.quiet_same c) i;
    tracker_same = λ i. same (λ (b : Block X). b.tracker) is.tracker_same i;
    service_same = λ i. elim (cases_eq i n) [
      | inl e ↦ rw (e, blocks n, set-same n new s.block) is.service_same
      | inr other ↦ rw (blocks i, set-other n i new s.block other) (same-again (s.block i).service)
    ];
  },
  λ i. same (λ (b : Block X). b.memory) is.memory_same i,
)
  where
    same : {A : Type 0} (part : Block X → A) → part new ≡ part (s.block n) → (i : ℕ)
        → part (u.block i) ≡ part (s.block i)
    same part e i = ap part (blocks i) ∙ set-part part n new s.block e i

-- and what is kept of the manager's end stays
at_manager-unseen : {w : ℕ} {config : Config} {mail : AccessMessages w} {request : ℕ → MessageA w} (n : ℕ)
    {new : Block (List ℕ)} {s u : State (List ℕ)} {e : End w} → ((i : ℕ) → u.block i ≡ set n new s.block i)
    → IsSameBlock (s.block n) new → IsAtManager config mail request s e → IsAtManager config mail request u e
at_manager-unseen n {s} {u} blocks same is =
    let all = same-blocks n s u blocks same in
    at_manager-same all.0 all.1 is

-- where no block changes at all
at_manager-untouched : {w : ℕ} {config : Config} {mail : AccessMessages w} {request : ℕ
    → MessageA w} {s u : State (List ℕ)} {e : End w} → ((i : ℕ) → u.block i ≡ s.block i)
    → IsAtManager config mail request s e → IsAtManager config mail request u e
at_manager-untouched {s} blocks is = at_manager-same (record {
  recorded_same = λ c i. ap (λ b. (b.pair c).recorded) (blocks i);
  quiet_same = λ c i. ap (λ b. is_unprobed (b.pair c).probing) (blocks i);
  tracker_same = λ i. ap (λ b. b.tracker) (blocks i);
  service_same = λ i. rw (blocks i) (same-again (s.block i).service);
}) (λ i. ap (λ b. b.memory) (blocks i)) is

-- a client's pair in place of one that is the same to the manager
same-pair : {X : Type 0} (c : ℕ) (p : ClientBlock) (b : Block X) → p.recorded ≡ (b.pair c).recorded
    → is_unprobed p.probing ≡ is_unprobed (b.pair c).probing → (new : Block X) → new.pair ≡ set c p b.pair
    → new.tracker ≡ b.tracker → SameService b.service new.service → new.memory ≡ b.memory → IsSameBlock b new
same-pair c p b recorded quiet new pairs tracker service memory = record {
  recorded_same = λ d. cc (pairs, set-part (λ q. q.recorded) c p b.pair recorded d);
  quiet_same = λ d. cc (pairs, set-part (λ q. is_unprobed q.probing) c p b.pair quiet d);
  tracker_same = tracker;
  service_same = service;
  memory_same = memory;
}

same-acquiring : {X : Type 0} (c source : ℕ) (whole : Bool) (g : Grow) (bytes : X) (b : Block X)
    → IsSameBlock b (acquiring_block c source whole g bytes b)
same-acquiring c source whole g bytes b = same-pair c (after_acquire whole g (b.pair c)) b refl refl
    _ refl refl (same-again b.service) refl

same-stored : {X : Type 0} (c : ℕ) (bytes : X) (b : Block X) → IsSameBlock b (stored_block c bytes b)
same-stored c bytes b = record {
  recorded_same = λ d. refl;
  quiet_same = λ d. refl;
  tracker_same = refl;
  service_same = same-again b.service;
  memory_same = refl;
}

same-taken : {X : Type 0} (c : ℕ) (whole d : Bool) (k j : Cap) (b : Block X) → b.service ≡ GrantSent c d j
    → IsSameBlock b (taken_block c whole d k b)
same-taken c whole d k j b sent = same-pair c (after_grant k (b.pair c)) b refl refl (taken_block c whole d k b) refl
    refl (rw sent refl) refl

-- ---- a client is asked

-- an access that starts has a source of which no request waits
asked_with : {w : ℕ} {caching : ℕ → Bool} (c source n : ℕ) (i : Message w) (mail : AccessMessages w)
    {s : State (List ℕ)} (m : MessageA w) → IsInvariant caching s → s.uses c source ≡ SourceFree
    → (service : Service) → (s.block n).service ≡ service → IsServedWith mail service m
    → IsServedWith (record { request = set_at c source i mail.request; answer = mail.answer }) service m
asked_with c source n i mail m inv closed Free e ok = tt
asked_with c source n i mail m inv closed (Waits r true src k) e ok = tt
asked_with {w} {caching} c source n i mail {s} m inv closed (Waits r false src k) e ok = elim (cases_eq r c) [
  | inl client ↦ elim (cases_eq src source) [
    | inl number ↦ absurd (let used : s.uses r src ≡ InService n = waits-used n r src false k inv e in
        let no : SourceFree ≡ InService n = sym closed ∙ ap₂ s.uses (sym client) (sym number) ∙ used in cc)
    | inr other ↦ rw client (ap (λ f. f src) (set-same c (set source i (mail.request c)) mail.request)
        ∙ set-other source src i (mail.request c) other ∙ ap (λ j. mail.request j src) (sym client) ∙ ok)
  ]
  | inr other ↦ cc (set-other c r (set source i (mail.request c)) mail.request other)
]
asked_with c source n i mail m inv closed (GrantSent q d k) e ok = tt
asked_with c source n i mail m inv closed (GrantTaken q) e ok = tt

at_manager-access : {w : ℕ} {caching : ℕ → Bool} (config : Config) (c source : ℕ) (m : MessageA w) (h : AbstractState w)
    (e : End w) → IsInvariant caching h.state → h.state.uses c source ≡ SourceFree → IsManagerOf config h e
    → IsManagerOf config (asked c (Op.Access (Message.A m)) (Reply.Started source) h) e
at_manager-access config c source m h e inv closed is =
    let now = at_manager-untouched (λ i. refl) is in
    record {
      traced = now.traced;
      served_with = λ n. asked_with c _ n (access source m) h.mail _ inv closed _ refl (is.served_with n);
      manager_kept = now.manager_kept;
      memory = now.memory;
      all_live = now.all_live;
    }

-- what is kept of the manager's end stays as a client is asked
pub at_manager-asked : {w : ℕ} {caching : ℕ → Bool} (config : Config) (c : ℕ) (o : Op w) (r : Reply)
    (h : AbstractState w) (e : End w) → IsInvariant caching h.state
    → IsAskable caching c o r h → IsManagerOf config h e → IsManagerOf config (asked c o r h) e
at_manager-asked config c (Op.Store address size value) Reply.Stored h e inv may is =
    let bytes = copy_stored address size value ((h.state.block (block_at address)).copy c) in
    at_manager-unseen _ (λ i. refl) (same-stored c bytes (h.state.block (block_at address))) is
at_manager-asked config c (Op.Acquire n g) (Reply.Started source) h e inv may is =
    at_manager-unseen n (λ i. refl) (same-acquiring c source false g ((h.state.block n).waiting c) (h.state.block n)) is
at_manager-asked config c (Op.AcquireWhole n bytes) (Reply.Started source) h e inv may is =
    let g = whole_grow ((h.state.block n).pair c).held in
    at_manager-unseen n (λ i. refl) (same-acquiring c source true g bytes (h.state.block n)) is
at_manager-asked config c (Op.Release n p) (Reply.Started source) h e inv may is = at_manager-unseen n (λ i. refl)
    (same-pair c (after_release p ((h.state.block n).pair c)) (h.state.block n) refl refl
    (releasing_block c source p (h.state.block n)) refl refl (same-again (h.state.block n).service) refl) is
at_manager-asked config c (Op.Access (Message.A m)) (Reply.Started source) h e inv may is =
    at_manager-access config c _ m h e inv may is
at_manager-asked config c o r h e inv may is = is

-- ---- a client takes a message

-- the kinds that clients take
abbrev pub is_to_clients : Kind → Bool
is_to_clients k = is_to_client (channel_for k)

-- what is kept of the manager's end stays as a client takes a message
pub at_manager-client_taken : {w : ℕ} {caching : ℕ → Bool} (config : Config) (tracker c : ℕ) (kind : Kind) (n : ℕ)
    (rest : List Packet) (h : AbstractState w) (e : End w) → is_to_clients kind ≡ true → IsInvariant caching h.state
    → on kind (h.state.link c) ≡ packet kind n ∷ rest → IsManagerOf config h e
    → IsManagerOf config (kind_taken config tracker c kind n rest h) e
at_manager-client_taken config tracker c Probe n rest h e kind inv first is =
    let k = cap_sent ((h.state.block n).pair c).probing in
    let sent = first-probe inv first in
    at_manager-unseen n (λ i. refl)
    (same-pair c (after_probe k ((h.state.block n).pair c)) (h.state.block n) refl (sym (ap is_unprobed sent))
    (probed_block c k (h.state.block n)) refl refl (same-again (h.state.block n).service) refl) is
at_manager-client_taken config tracker c Answer n rest h e kind inv first is = at_manager-untouched (λ i. refl) is
at_manager-client_taken config tracker c ReleaseAck n rest h e kind inv first is = at_manager-unseen n (λ i. refl)
    (same-pair c (after_release_ack ((h.state.block n).pair c)) (h.state.block n) refl refl
    (let_go_block c (h.state.block n)) refl refl (same-again (h.state.block n).service) refl) is
at_manager-client_taken config tracker c Grant n rest h e kind inv first is = go (h.state.block n).service refl
  where
    go : (service : Service) → (h.state.block n).service ≡ service
        → IsManagerOf config (taken_by_client c n service rest h) e
    go (GrantSent q d k) f =
        let same : c ≡ q = eqb-true c q (granting-own (c == q) d k (rw f at (first-shown inv c Grant refl first))) in
        let whole = is_whole ((h.state.block n).pair c).acquiring in
        at_manager-unseen n (λ i. refl) (same-taken c whole d k k (h.state.block n) (f ∙ rw same refl)) is
    go service f = is
at_manager-client_taken config tracker c other n rest h e kind inv first is = absurd cc

-- ---- there is no client of this number

pub at_manager-nobody : {w : ℕ} {config : Config} {log : Log w} (h : AbstractState w) {sys : System w} (event : Event w)
    → SimulationRelation config log h.mail h.request h.state sys → terms_at config (client_of event) ≡ None
    → IsManagerOf config (abstract_step config event sys h) (stepped config event sys).after.manager
unfolding stepped
at_manager-nobody {w} {config} h {sys} event is none =
    let go : (event : Event w) → IsManagerOf config (abstract_step_by config event Outcome.NoSuchClient sys h)
    sys.manager = elim [ Ask c o ↦ at_manager-matched is | Deliver link ch ↦ at_manager-matched is ] in
    rw none (go event)

-- ---- a client is asked

pub at_manager-ask : {w : ℕ} {config : Config} {log : Log w} (h : AbstractState w) {sys : System w} (c : ℕ) (o : Op w)
    (terms : client.EndConfig)
    → SimulationRelation config log h.mail h.request h.state sys → terms_at config c ≡ Some terms
    → IsAskable (is_caching config) c o (client_ask.asked terms o (sys.clients c)).reply h
    → IsManagerOf config (abstract_step config (Ask c o) sys h) (stepped config (Ask c o) sys).after.manager
at_manager-ask {config} h {sys} c o terms is there may =
    let a = client_ask.asked terms o (sys.clients c) in
    subst (λ s. IsManagerOf config (abstract_step_by config (Ask c o) s.outcome sys h) s.after.manager)
    (sym (stepped-asked config c o sys terms there))
    (rw (manager-with_messages (handed_by c a.message) (with_client c a.after sys))
    (at_manager-asked config c o a.reply h sys.manager is.invariant may (at_manager-matched is)))

-- ---- a delivery to a client

manager-judged : {w : ℕ} (r : Result (Verdict × Option (Message w)) Rule) (link : ℕ) (ch : Channel) (x : Beat w)
    (rest : List (Beat w)) (e : client.Endpoint w)
    (s : System w) → (judged r link ch x rest e s).after.manager ≡ s.manager
manager-judged (Ok (Verdict.Taken, m)) link ch x rest e s =
    manager-with_messages (handed_by link m) (with_client link e (with_channel link ch rest s))
manager-judged (Ok (Verdict.Done source f, m)) link ch x rest e s =
    manager-with_messages (handed_by link m) (with_client link e (with_channel link ch rest s))
manager-judged r link ch x rest e s = refl

manager-to-client : {w : ℕ} (config : Config) (link : Link) (ch : Channel) (sys : System w)
    (terms : client.EndConfig) → terms_at config link.0 ≡ Some terms
    → is_to_client ch ≡ true → (stepped config (Deliver link ch) sys).after.manager ≡ sys.manager
manager-to-client {w} config link ch sys terms there up = go (sys.channels link.0 ch) refl
  where
    go : (xs : List (Beat w)) → sys.channels link.0 ch ≡ xs
        → (stepped config (Deliver link ch) sys).after.manager ≡ sys.manager
    go [] e = ap (λ s. s.after.manager) (stepped-empty config link ch sys terms there e)
    go (x ∷ rest) e =
        let o = offered terms ch x (sys.clients link.0) in
        ap (λ s. s.after.manager) (stepped-to-client config link ch sys terms x rest there e up)
        ∙ manager-judged o.answer link.0 ch x rest o.after sys

-- the kinds of a channel to clients
to_clients : (ch : Channel) (k : Kind) → is_to_client ch ≡ true → is_on ch k ≡ true → is_to_clients k ≡ true
to_clients ch k up own = ap is_to_client (kind_channel ch k own) ∙ up

-- where the invariant is kept, so is what is kept of the manager's end
pub at_manager-to_client : {w : ℕ} {config : Config} {log : Log w} (h : AbstractState w) {sys : System w} (link : Link)
    (ch : Channel) (terms : client.EndConfig) → SimulationRelation config log h.mail h.request h.state sys
    → terms_at config link.0 ≡ Some terms → is_to_client ch ≡ true
    → IsManagerOf config (abstract_step config (Deliver link ch) sys h)
    (stepped config (Deliver link ch) sys).after.manager
at_manager-to_client {config} h {sys} link ch terms is there up =
    let go : (b : Bool) → IsManagerOf config (if b then packet_taken config (next_tracker sys) c
    (packets_on ch (h.state.link c)) h else h) sys.manager =
    elim [ true ↦ taken (packets_on ch (h.state.link c)) refl | false ↦ known ] in
    subst (IsManagerOf config (abstract_step config (Deliver link ch) sys h)) (sym
    (manager-to-client config link ch sys terms there up)) (go (is_moving (stepped config (Deliver link ch) sys).outcome
    && is_last (sys.channels c ch) (unfinished ch (receiver ch c sys))))
  where
    c : ℕ
    c = link.0

    known : IsManagerOf config h sys.manager
    known = at_manager-matched is

    taken : (xs : List Packet) → packets_on ch (h.state.link c) ≡ xs
        → IsManagerOf config (packet_taken config (next_tracker sys) c xs h) sys.manager
    taken [] e = known
    taken (y ∷ ys) e =
        let own = own_kind (is_caching config) h.state c ch y.kind y.number ys is.invariant e in
        at_manager-client_taken config (next_tracker sys) c y.kind y.number ys h _ (to_clients ch y.kind up own)
        is.invariant (on_same ch y.kind (h.state.link c) own ∙ e) known

-- ---- an access that is answered

pub handed-answered : {w : ℕ} {config : Config} {log : Log w} {mail : AccessMessages w} {request : ℕ → MessageA w}
    {s : State (List ℕ)} {sys : System w} {c source k : ℕ} → SimulationRelation config log mail request s sys
    → (asked : IsAsked config c source mail s) → IsComing config c k asked.request sys.manager
    → beats_of (Message.A asked.request) ≡ suc k → probes_some (length config.clients.items) c false
    (cap_probed asked.request.opcode asked.request.param) (s.block (block_at asked.request.address)).pair ≡ false
    → (reaction config (link_of c) (Beat.A (a_beat_of asked.request k)) sys.manager).handed
    ≡ (link_of c, answers asked.request (s.block (block_at asked.request.address)).memory) ∷ []
handed-answered {w} {config} {log} {mail} {request} {s} {sys} {c} {k} is asked comes last none =
    let m : MessageA w = asked.request in
    let n : ℕ = block_at m.address in
    let e : End w = sys.manager in
    ap (λ d. d.handed) (reaction-performed c k n false m is comes last asked.access refl none ∙ performed-access
    config (service_for c m e.trace) (with_beat c m k e.trace) e.memory asked.access) ∙ ap (λ i. (link_of c, i) ∷ [])
    (cc (performed-reply (level_of config c) m e.memory comes.width asked.lawful, is.memory n))

-- ---- a Grant

-- who is granted a block is recorded with what it is given, so that nobody else has it to write: the
-- memory is its truth
pub memory-granted : {caching : ℕ → Bool} (q : ℕ) (d : Bool) (k : Cap) {new : Block (List ℕ)} → IsWell caching new
    → new.service ≡ GrantSent q d k → (new.pair q).recorded ≡ cap_right k → same_perm (cap_right k) Perm.None ≡ false
    → new.memory ≡ new.truth
memory-granted q d k {new} well granted given some = grind (arith, cases_eq)

payload-same : (d : Bool) (f : Memory) (n : ℕ) (truth : List ℕ) → bytes_from f (64 * n) 64 ≡ truth
    → grant_payload d f n ≡ (if d then truth else handing.no_payload)
payload-same d f n truth e = grind arith

grant-is : {w : ℕ} (v : manager.Service w) (q n source tracker : ℕ) (d : Bool) (k : Cap) (f : Memory) (truth : List ℕ)
    → v.request.source ≡ source → v.tracker ≡ tracker → block_at v.request.address ≡ n
    → bytes_from f (64 * n) 64 ≡ truth → grant_with v k d f ≡ grant_of (GrantSent q d k) source tracker truth
grant-is v q n source tracker d k f truth sourced tracked block bytes = grind (arith, payload-same)

-- the Grant is that of the token, where the block is well afterwards
pub handed-granted : {w : ℕ} {config : Config} {log : Log w} {mail : AccessMessages w} {request : ℕ → MessageA w}
    {s : State (List ℕ)} {sys : System w} {caching : ℕ → Bool} {c n k : ℕ}
    → SimulationRelation config log mail request s sys → (asked : IsWanted w c n s)
    → IsComing config c k (acquire_wanted c n s asked) sys.manager → beats_of (Message.A (acquire_wanted c n s asked))
    ≡ suc k → probes_some (length config.clients.items) c true (cap_probed (acquire_wanted {w = w} c n s asked).opcode
    (acquire_wanted {w = w} c n s asked).param) (s.block n).pair ≡ false
    → IsWell caching (granted_at_once c (next_tracker sys)
    (is_granted_data asked.whole asked.grow ((s.block n).pair c).recorded)
    (gift config.profile asked.whole asked.grow (is_unheld (length config.clients.items) (s.block n).pair)) (s.block n))
    → (reaction config (link_of c) (Beat.A (a_beat_of (acquire_wanted c n s asked) k)) sys.manager).handed
    ≡ (
      link_of c,
      block_message Grant c n (granted_at_once c (next_tracker sys) (is_granted_data asked.whole asked.grow
          ((s.block n).pair c).recorded) (gift config.profile asked.whole asked.grow
          (is_unheld (length config.clients.items) (s.block n).pair)) (s.block n)),
    ) ∷ []
unfolding block_message
handed-granted {w} {config} {log} {mail} {request} {s} {sys} {caching} {c} {n} {k} is asked comes last none well =
    let b : Block (List ℕ) = s.block n in
    let m : MessageA w = acquire_wanted c n s asked in
    let e : End w = sys.manager in
    let u : Trace w = with_beat c m k e.trace in
    let unheld : Bool = is_unheld (length config.clients.items) b.pair in
    let gift_is : Cap = gift config.profile asked.whole asked.grow unheld in
    let data_too : Bool = is_granted_data asked.whole asked.grow (b.pair c).recorded in
    let new : Block (List ℕ) = granted_at_once c (next_tracker sys) data_too gift_is b in
    let recorded_now = ap (λ p. p.recorded) (set-same c (after_grant_sent gift_is (b.pair c)) b.pair) in
    let given : cap_granted config.profile m.opcode m.param (holders.is_unheld config (block_at m.address) u)
    ≡ gift_is = cc (same_block n, unheld-same c k n m is) in
    let carried : handing.is_granted_data m.opcode m.param (recorded c (block_at m.address) u) ≡ data_too = cc (
      same_block n,
      recorded-beat c k m e.trace c n,
      is.managed.recorded_is c n,
      data-same asked.whole asked.grow (b.pair c).recorded,
    ) in
    ap (λ d. d.handed) (reaction-performed c k n true m is comes last (acquires-so asked.whole) (same_block n)
    none ∙ performed-acquire config (service_for c m e.trace) u e.memory (acquires-so asked.whole))
    ∙ ap (λ i. (link_of c, i) ∷ []) (ap₂ (λ (j : Cap) (d : Bool). grant_with (service_for c m e.trace) j d e.memory)
    given carried ∙ grant-is (service_for c m e.trace) c n (b.source c) (next_tracker sys) data_too gift_is
    _ _ refl refl (same_block n) (is.memory n ∙ memory-granted c data_too gift_is well refl recorded_now
    (gives-some config.profile asked.whole asked.grow unheld)))
