-- The channels after a beat of a request is taken carry the messages of the tokens.
use Rattle.std.proofs.Common.{◌≡◌, ℕ, suc, ◌≤◌, Bool, true, false, not, ◌&&◌, ◌||◌, ◌==◌, if◌then◌else◌, List, [], ◌∷◌}
use Rattle.std.proofs.Common.{Option, Some, None, refl, sym, ◌∙◌, ap, subst, arith, ◌⊎◌, inl, inr, length}
use Rattle.tl_coherence.proofs
use proofs.Imports.{and_comm, cases_lt, Beat, Channel, Message, MessageA, a_beat_of, beats_of, unfinished, completes}
use proofs.Imports.{Config, Cap, Perm, is_last, same_perm, on_link, answer_of, effect, block_at, is_acquire, same_block}
use proofs.Imports.{swapped, reaction-part, Handed, probes, cap_probed, is_spared, probed, recorded, must_wait}
use proofs.Imports.{reaction, Outcome, IsInvariant, IsWell, cap_asked, Acquire, Grant, Kind, Packet, Request}
use proofs.Imports.{AcquireOpen, is_above, is_granted_data, Block, State, acquire_granted, acquire_served}
use proofs.Imports.{granted_at_once, is_probed, packet, AbstractState, access_taken, acquire_taken, answers, bytes_at}
use proofs.Imports.{gift, is_unheld, kind_taken, performs, probes_some, request_taken, some_below, ChannelRelation}
use proofs.Imports.{AccessMessages, block_message, SimulationRelation, is_caching, Log, Step, handing, System}
use proofs.Imports.{with_channel, with_manager, with_messages}
use Rattle.tl_manager.specs.statement.Holders as holders
use proofs.manager.{Admitted.offered-taken, Unseen.handed-answered, Unseen.handed-granted}
use proofs.manager.Performing.{end_after, reaction-probing}
use proofs.manager.Probing.{same_above, recorded-beat, link_of, with_beat, IsComing, ends-coming, service_for}
use proofs.manager.RequestsTaken.{caps_asked, acquire_wanted, ready-request, ready-acquire, next_tracker, free-last}
use proofs.manager.RequestsTaken.{invariant-taken, probed-some, somebody-probed, beyond-none}
use proofs.queues.{FirstToken.carries, FirstToken.none-carried, Tokens.set-same, Codes.acquires-so, Phases.none-above}
use proofs.queues.Channels.{carried-shown, behind, IsTaken, pushes_at}
use proofs.queues.Steps.{pushes_of, IsLanded, taken-landed, HasTaken, landed-manager, channels-handed, on_own_channel}
use proofs.protocol.{HeadOfD.IsReady, RequestsKept.some-none, RequestsKept.leaves-bytes, Room.IsAsked, Room.IsWanted}
use proofs.simulation.Moved.{manager-heard, carried-part}
use proofs.simulation.CarriedEvents.{access_answered-shown, acquire_granted-shown}
use proofs.simulation.Bounded.{probe_pushes, channels-probes, access_served-shown, acquire_served-shown}
use proofs.bound.RankAfter.{once_on_d}
use proofs.deliveries.CarriedReports.{answer_on_d}

-- ---- the whole after a beat of a request

-- it, where the manager takes the beat
abbrev pub system_after : {w : ℕ} → Config → ℕ → ℕ → MessageA w → List (Beat w) → System w → System w
system_after config c k m queue sys = with_messages (reaction config (link_of c) (Beat.A (a_beat_of m k))
    sys.manager).handed (with_manager (end_after config c k m sys.manager) (with_channel c Channel.A queue sys))

heard-coming : {w : ℕ} (config : Config) (c k : ℕ) (m : MessageA w) (queue : List (Beat w)) (sys : System w)
    → IsComing config c k m sys.manager
    → HasTaken c (Beat.A (a_beat_of m k)) sys.manager (end_after config c k m sys.manager)
heard-coming {w} config c k m queue sys is =
    let x : Beat w = Beat.A (a_beat_of m k) in
    let step : Step w = handing (Outcome.Moved x) (reaction config (link_of c) x sys.manager).handed
    (with_manager (end_after config c k m sys.manager) (with_channel c Channel.A queue sys)) in
    manager-heard _ _ _ x queue sys step is.width is.typed is.kept
    (record { takes = offered-taken config _ Channel.A x _ is.passes; step_is = refl })

-- what is handed out stands behind what was on the channels
pub landed-coming : {w : ℕ} {config : Config} {c k : ℕ} {m : MessageA w} (queue : List (Beat w)) (sys : System w)
    (handed : Handed w) (pushes : ℕ → Channel → Option (Message w)) → IsComing config c k m sys.manager
    → sys.channels c Channel.A ≡ Beat.A (a_beat_of m k) ∷ queue
    → (reaction config (link_of c) (Beat.A (a_beat_of m k)) sys.manager).handed ≡ handed
    → ((s : System w) (d : ℕ) (at : Channel) → (with_messages handed s).channels d at ≡ behind (pushes d at)
    (s.channels d at)) → IsLanded c Channel.A (Beat.A (a_beat_of m k)) queue pushes sys
    (system_after config c k m queue sys)
landed-coming {w} {config} {c} {k} {m} queue sys handed pushes is beats done pushed =
    let base : System w = with_manager (end_after config c k m sys.manager) (with_channel c Channel.A queue sys) in
    landed-manager c Channel.A _ queue pushes (reaction config (link_of c) (Beat.A (a_beat_of m k)) sys.manager).handed
    _ sys refl beats (on_own_channel (Beat.A (a_beat_of m k))) (heard-coming config c k m queue sys is)
    (λ d at. ap (λ i. (with_messages i base).channels d at) done ∙ pushed base d at)

-- ---- a beat that isn't the last

nothing-handed : {w : ℕ} (s : System w) (d : ℕ) (at : Channel) → (with_messages [] s).channels d at ≡ behind None
    (s.channels d at)
unfolding with_messages
nothing-handed s d at = refl

pub carried-more : {w : ℕ} {config : Config} {log : Log w} {mail : AccessMessages w} {request : ℕ → MessageA w}
    {s : State (List ℕ)} {sys : System w} {c k : ℕ}
    {m : MessageA w} (queue : List (Beat w)) → SimulationRelation config log mail request s sys
    → IsComing config c k m sys.manager → sys.channels c Channel.A ≡ Beat.A (a_beat_of m k) ∷ queue
    → completes (Beat.A (a_beat_of m k)) (unfinished Channel.A (on_link c sys.manager.trace)) ≡ false
    → ChannelRelation mail s (system_after config c k m queue sys)
carried-more {w} {config} {mail} {s} {sys} {c} {k} {m} queue is comes beats part =
    let x : Beat w = Beat.A (a_beat_of m k) in
    let done = ap (λ d. d.handed) (reaction-part config (link_of c) x sys.manager part) in
    carried-part mail s comes.width (landed-coming queue sys [] (λ d at. None) comes beats done nothing-handed)
    (λ d at. refl) part is.carried

-- ---- its last beat: others are probed

nothing_above : (j : Cap) (own : Bool) → (not own && is_above j Perm.None) ≡ false
nothing_above Cap.ToT true = refl
nothing_above Cap.ToT false = refl
nothing_above Cap.ToB true = refl
nothing_above Cap.ToB false = refl
nothing_above Cap.ToN true = refl
nothing_above Cap.ToN false = refl

pub taken-probing : {w : ℕ} {config : Config} {log : Log w} {mail : AccessMessages w} {request : ℕ → MessageA w}
    {s : State (List ℕ)} {sys : System w} {c k : ℕ} (n : ℕ)
    (own : Bool) (j : Cap) {m : MessageA w} (queue : List (Beat w)) → SimulationRelation config log mail request s sys
    → IsComing config c k m sys.manager → sys.channels c Channel.A ≡ Beat.A (a_beat_of m k) ∷ queue
    → beats_of (Message.A m) ≡ suc k → is_acquire m.opcode ≡ own → block_at m.address ≡ n
    → (reaction config (link_of c) (Beat.A (a_beat_of m k)) sys.manager).handed ≡ probes n j
    (probed config (service_for c m sys.manager.trace) j (with_beat c m k sys.manager.trace))
    → IsTaken c Channel.A (Beat.A (a_beat_of m k)) queue
    (probe_pushes n j (λ d. is_probed c own j ((s.block n).pair d).recorded d)) sys
    (system_after config c k m queue sys)
taken-probing {w} {config} {log} {mail} {request} {s} {sys} {c} {k} n own j {m} queue is comes beats last kind block
    done =
    let test : ℕ → Bool = λ d. is_probed c own j ((s.block n).pair d).recorded d in
    let pushes : ℕ → Channel → Option (Message w) = probe_pushes n j test in
    let same : (i : ℕ) → (holders.is_above j (recorded i (block_at m.address) (with_beat c m k sys.manager.trace))
    && not (is_spared (service_for c m sys.manager.trace) i)) ≡ test i =
    λ i. rw (
      block,
      recorded-beat c k m sys.manager.trace i n,
      is.managed.recorded_is i n,
      kind,
      same_above j ((s.block n).pair i).recorded,
      swapped c i,
    ) (and_comm (is_above j ((s.block n).pair i).recorded) (not (own && (i == c)))) in
    let none : (d : ℕ) → length config.clients.items ≤ d → test d ≡ false =
    λ d past. rw (beyond-none n is d past) (nothing_above j (own && (d == c))) in
    taken-landed
    (landed-coming queue sys
    (probes n j (probed config (service_for c m sys.manager.trace) j (with_beat c m k sys.manager.trace))) pushes
    comes beats done (λ v d at. channels-probes n j _
    (λ i. holders.is_above j (recorded i (block_at m.address) (with_beat c m k sys.manager.trace)) && not
    (is_spared (service_for c m sys.manager.trace) i)) test v (λ i lt. same i) none d at))
    (ends-coming comes ∙ rw last (is_last k (suc k) (omega arith)))

-- ---- one message is handed out

pub taken-answering : {w : ℕ} {config : Config} {c k : ℕ} {m : MessageA w} (i : Message w) (queue : List (Beat w))
    (sys : System w) → IsComing config c k m sys.manager → sys.channels c Channel.A ≡ Beat.A (a_beat_of m k) ∷ queue
    → beats_of (Message.A m) ≡ suc k → (reaction config (link_of c) (Beat.A (a_beat_of m k)) sys.manager).handed
    ≡ (link_of c, i) ∷ [] → IsTaken c Channel.A (Beat.A (a_beat_of m k)) queue (pushes_at c (pushes_of (Some i))) sys
    (system_after config c k m queue sys)
taken-answering {w} {config} {c} {k} {m} i queue sys comes beats last done =
    taken-landed (landed-coming queue sys ((link_of c, i) ∷ []) (pushes_at c (pushes_of (Some i))) comes beats done
    (λ v d at. channels-handed c (Some i) v d at)) (ends-coming comes ∙ rw last (is_last k (suc k) (omega arith)))

-- ---- an Acquire

-- after an Acquire that was taken
pub carried-acquire_taken : {w : ℕ} {config : Config} {log : Log w} (h : AbstractState w) {sys : System w} {c n k : ℕ}
    (rest : List Packet) (queue : List (Beat w)) → SimulationRelation config log h.mail h.request h.state sys
    → (h.state.link c).a ≡ packet Acquire n ∷ rest → (asked : IsWanted w c n h.state)
    → IsComing config c k (acquire_wanted c n h.state asked) sys.manager
    → sys.channels c Channel.A ≡ Beat.A (a_beat_of (acquire_wanted c n h.state asked) k) ∷ queue
    → beats_of (Message.A (acquire_wanted c n h.state asked)) ≡ suc k
    → must_wait config (link_of c) (Beat.A (a_beat_of (acquire_wanted c n h.state asked) k)) sys.manager.trace ≡ false
    → ChannelRelation (kind_taken config (next_tracker sys) c Acquire n rest h).mail
    (kind_taken config (next_tracker sys) c Acquire n rest h).state
    (system_after config c k (acquire_wanted c n h.state asked) queue sys)
carried-acquire_taken {w} {config} h {sys} {c} {n} {k} rest queue is first asked comes beats last moves =
    let inv = invariant-taken h c Acquire n rest is first ready in
    subst (λ i. ChannelRelation (acquire_taken clients config.profile c n i tracker rest h).mail
    (acquire_taken clients config.profile c n i tracker rest h).state (system_after config c k m queue sys))
    (sym asked.wants) (go (some_below clients (λ d. is_probed c true j (b.pair d).recorded d)) refl (subst (λ i.
    IsInvariant (is_caching config) (acquire_taken clients config.profile c n i tracker rest h).state) asked.wants inv))
  where
    b : Block (List ℕ)
    b = h.state.block n

    m : MessageA w
    m = acquire_wanted c n _ asked

    clients : ℕ
    clients = length config.clients.items

    tracker : ℕ
    tracker = next_tracker sys

    j : Cap
    j = cap_asked (AcquireOpen asked.whole asked.grow)

    ready : IsReady tracker c Acquire n h
    ready = ready-acquire h is asked comes last moves

    caps : cap_probed m.opcode m.param ≡ Some j
    caps = caps_asked w asked.whole asked.grow (b.source c) n

    data_too : Bool
    data_too = is_granted_data asked.whole asked.grow (b.pair c).recorded

    given : Cap
    given = gift config.profile asked.whole asked.grow (is_unheld clients b.pair)

    -- the state afterwards
    state_of : Bool → State (List ℕ)
    state_of x = if x then acquire_served c n (b.source c) tracker j rest h.state else acquire_granted c n tracker
        data_too given rest h.state

    go : (x : Bool) → some_below clients (λ d. is_probed c true j (b.pair d).recorded d) ≡ x
        → IsInvariant (is_caching config) (state_of x) → ChannelRelation h.mail (state_of x)
        (system_after config c k m queue sys)
    go true f kept =
        let some = somebody-probed c k n true m is (acquires-so asked.whole) (same_block n) (rw caps f) in
        carried-shown comes.width (acquire_served-shown c n (b.source c) tracker j rest h.mail is.invariant kept first
        ready.0) (taken-probing n true j queue is comes beats last (acquires-so asked.whole) (same_block n)
        (ap (λ d. d.handed) (reaction-probing config c k n j m sys.manager comes last (same_block n)
        caps (probed-some c k n true j m is (acquires-so asked.whole) (same_block n) ∙ ap not f)))) is.carried
    go false f kept =
        let new = granted_at_once c tracker data_too given b in
        carried-shown comes.width (acquire_granted-shown c n tracker data_too given rest (block_message Grant c n new)
        h.mail is.invariant kept first ready.0 (once_on_d w c n tracker data_too given b) refl)
        (taken-answering (block_message Grant c n new) queue sys comes beats last (handed-granted is asked comes last
        (rw caps f) (subst (IsWell (is_caching config)) (set-same n new h.state.block) (kept.blocks n)))) is.carried

-- ---- an access

-- an access that is answered at once changes the bytes only where no message carries them
pub unread-bytes : {w : ℕ} {config : Config} {log : Log w} {mail : AccessMessages w} {request : ℕ → MessageA w}
    {s : State (List ℕ)} {sys : System w} (c n : ℕ)
    (m : MessageA w) → SimulationRelation config log mail request s sys → is_acquire m.opcode ≡ false
    → probes_some (length config.clients.items) c false (cap_probed m.opcode m.param) (s.block n).pair ≡ false
    → (k : Kind) (d : ℕ) → (carries k d (s.block n) ≡ false) ⊎ (performs m (s.block n).truth ≡ (s.block n).truth)
unread-bytes {config} {s} c n m is access none k d =
    let unheld : (i : ℕ) → cap_probed m.opcode m.param ≡ Some Cap.ToN → same_perm ((s.block n).pair i).recorded
    Perm.None ≡ true = λ i all. elim (cases_lt i (length config.clients.items)) [
      | inl lt ↦ none-above _ (some-none (length config.clients.items)
          (λ j. is_probed c false Cap.ToN ((s.block n).pair j).recorded j) (rw all at none) i lt)
      | inr past ↦ rw (beyond-none n is i past) refl
    ] in
    elim (leaves-bytes m (s.block n).truth access (is.sized n).truth) [
      | inl same ↦ inr same
      | inr all ↦ inl (none-carried (is.invariant.blocks n)
          (λ i. either (same_perm ((s.block n).pair i).held Perm.Trunk) (unheld i all)) k d)
    ]
  where
    either : (b : Bool) {x : Bool} → x ≡ true → (b || x) ≡ true
    either true e = refl
    either false e = e

-- after the last beat of an access that was taken
pub carried-request_taken : {w : ℕ} {config : Config} {log : Log w} (h : AbstractState w) {sys : System w}
    {c source k : ℕ} (rest : List Packet) (queue : List (Beat w))
    → SimulationRelation config log h.mail h.request h.state sys → (h.state.link c).a ≡ packet Request source ∷ rest
    → (asked : IsAsked config c source h.mail h.state) → IsComing config c k asked.request sys.manager
    → sys.channels c Channel.A ≡ Beat.A (a_beat_of asked.request k) ∷ queue → beats_of (Message.A asked.request) ≡ suc k
    → must_wait config (link_of c) (Beat.A (a_beat_of asked.request k)) sys.manager.trace ≡ false
    → ChannelRelation (kind_taken config (next_tracker sys) c Request source rest h).mail
    (kind_taken config (next_tracker sys) c Request source rest h).state
    (system_after config c k asked.request queue sys)
carried-request_taken {w} {config} {log} h {sys} {c} {source} {k} rest queue is first asked comes beats last moves =
    let inv = invariant-taken h c Request source rest is first (ready-request h is asked comes last moves) in
    subst (λ i. Carries (request_taken clients c source i tracker rest h)) (sym asked.is_it) (go
    (probes_some clients c false (cap_probed m.opcode m.param) b.pair) (cap_probed m.opcode m.param) refl refl (subst
    (λ i. IsInvariant (is_caching config) (request_taken clients c source i tracker rest h).state) asked.is_it inv))
  where
    m : MessageA w
    m = asked.request

    n : ℕ
    n = block_at m.address

    b : Block (List ℕ)
    b = h.state.block n

    Carries : AbstractState w → Type 0
    Carries i = ChannelRelation i.mail i.state (system_after config c k m queue sys)

    clients : ℕ
    clients = length config.clients.items

    tracker : ℕ
    tracker = next_tracker sys

    answered : probes_some clients c false (cap_probed m.opcode m.param) b.pair ≡ false
        → IsInvariant (is_caching config) (access_taken c source m tracker false None rest h).state
        → Carries (access_taken c source m tracker false None rest h)
    answered none kept = carried-shown comes.width (access_answered-shown c n source (performs m) rest
        (answers m b.memory) h.mail is.invariant kept first asked.used (unread-bytes c n m is asked.access none)
        (answer_on_d m (answer_of (Message.A m) (effect (Message.A m) (bytes_at n b.memory)).1))) (taken-answering
        (answers m b.memory) queue sys comes beats last (handed-answered is asked comes last none)) is.carried

    go : (p : Bool) (o : Option Cap) → probes_some clients c false (cap_probed m.opcode m.param) b.pair ≡ p
        → cap_probed m.opcode m.param ≡ o → IsInvariant (is_caching config)
        (access_taken c source m tracker p o rest h).state → Carries (access_taken c source m tracker p o rest h)
    go true None f g kept = absurd (let no : false ≡ true = rw g at f in cc)
    go true (Some j) f g kept =
        let some : some_below clients (λ d. is_probed c false j (b.pair d).recorded d) ≡ true = rw g at f in
        carried-shown comes.width (access_served-shown c n source tracker j rest h.mail is.invariant kept first
        (free-last is comes last moves))
        (taken-probing n false j queue is comes beats last asked.access refl
        (ap (λ d. d.handed) (reaction-probing config c k n j m sys.manager comes last refl g
        (probed-some c k n false j m is asked.access refl ∙ ap not some))))
        is.carried
    go false o f g kept = answered f kept
