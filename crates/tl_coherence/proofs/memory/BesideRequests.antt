-- The one-memory machine beside the protocol after a beat of a request is taken: an access that is answered is
-- performed.
use Rattle.std.proofs.Common.{◌≡◌, ℕ, suc, Bool, true, false, not, List, [], ◌∷◌, Option, Some, None, refl, sym, ◌∙◌}
use Rattle.std.proofs.Common.{ap, subst, arith, ◌⊎◌, inl, inr, length}
use Rattle.tl_coherence.proofs
use proofs.Imports.{Beat, Message, MessageA, a_beat_of, beats_of, Config, Cap, Trace, Memory, answer_of, effect}
use proofs.Imports.{block_at, same_block, performed-acquire, Handed, access_answer, grant, probes, cap_probed, probed}
use proofs.Imports.{reaction, cap_asked, Acquire, Packet, Request, AcquireOpen, Block, is_probed, AbstractState}
use proofs.Imports.{bytes_at, kind_taken, probes_some, request_taken, some_below, IsAccess, MemoryRelation}
use proofs.Imports.{SimulationRelation, Log, Machine, Requests, accesses_answered, performing, System}
use Rattle.tl_coherence.specs.statement.Machine.{Performs}
use Rattle.tl_rules.specs.declared.answer.Answer.{Answer}
use Rattle.tl_manager.specs.statement.Service.{Service}
use proofs.manager.{Performing.reaction-probing, Accounts.plain-past, Unseen.handed-answered}
use proofs.manager.Probing.{link_of, with_beat, IsComing, service_for}
use proofs.manager.RequestsTaken.{caps_asked, acquire_wanted, next_tracker, probed-some, reaction-performed}
use proofs.memory.{BesideTaken.IsPerformed, Beside.done_at, Beside.performed-open, Beside.performing-one}
use proofs.memory.BesideKinds.{access_list, beside-request, beside-acquire}
use proofs.protocol.Room.{IsAsked, IsWanted}
use proofs.queues.Codes.{acquires-so}

-- ---- which accesses are answered

accesses-probes : (w n : ℕ) (j : Cap) (clients : List ℕ) → accesses_answered {w = w} (probes n j clients) ≡ []
unfolding accesses_answered
accesses-probes w n j [] = refl
accesses-probes w n j (d ∷ clients) = accesses-probes w n j clients

pub accesses-answer : {w : ℕ} (c : ℕ) (m : MessageA w) (r : Answer)
    → accesses_answered ((link_of c, access_answer m r) ∷ []) ≡ (c, m.source) ∷ []
unfolding accesses_answered
accesses-answer c m r = grind arith

accesses-grant : {w : ℕ} (config : Config) (c : ℕ) (v : Service w) (t : Trace w) (memory : Memory)
    → accesses_answered ((link_of c, grant config v t memory) ∷ []) ≡ []
unfolding accesses_answered
accesses-grant config c v t memory = grind arith

-- ---- an access

-- at most one access is answered, and it can be performed
abbrev pub IsOnce : {w : ℕ} → List (ℕ × ℕ) → AbstractState w → Machine w → Type 0
IsOnce l h m = (l ≡ []) ⊎ ((q : ℕ) × (source : ℕ) × (l ≡ (q, source) ∷ []) × IsAccess source (h.mail.request q source)
    None (m.opened q Requests source))

pub once-performs : {w : ℕ} (l : List (ℕ × ℕ)) (h : AbstractState w) (m : Machine w) → IsOnce l h m
    → Performs l m (performing l m)
unfolding Performs performing
once-performs l h m (inl none) = rw none refl
once-performs l h m (inr (q, source, one, opened)) = rw one (
  done_at q source (Message.A opened.0) m,
  performed-open q source _ m opened.2,
  performing-one q source _ m opened.2,
)

request-accesses : {w : ℕ} {config : Config} {log : Log w} (h : AbstractState w) {sys : System w} {c source k : ℕ}
    → SimulationRelation config log h.mail h.request h.state sys → (asked : IsAsked config c source h.mail h.state)
    → IsComing config c k asked.request sys.manager → beats_of (Message.A asked.request) ≡ suc k
    → accesses_answered (reaction config (link_of c) (Beat.A (a_beat_of asked.request k)) sys.manager).handed
    ≡ access_list c source (probes_some (length config.clients.items) c false
    (cap_probed asked.request.opcode asked.request.param)
    (h.state.block (block_at asked.request.address)).pair) (cap_probed asked.request.opcode asked.request.param)
request-accesses {w} {config} {log} h {sys} {c} {source} {k} is asked comes last =
    accesses (probes_some clients c false (cap_probed m.opcode m.param) b.pair) (cap_probed m.opcode m.param) refl refl
  where
    m : MessageA w
    m = asked.request

    n : ℕ
    n = block_at m.address

    b : Block (List ℕ)
    b = h.state.block n

    clients : ℕ
    clients = length config.clients.items

    done : Handed w
    done = (reaction config (link_of c) (Beat.A (a_beat_of m k)) sys.manager).handed

    answered : probes_some clients c false (cap_probed m.opcode m.param) b.pair ≡ false
        → accesses_answered done ≡ (c, source) ∷ []
    answered none = let fact = handed-answered is asked comes last none in let other_fact = accesses-answer c m
        (answer_of (Message.A m) (effect (Message.A m) (bytes_at n b.memory)).1) in cc asked.source_is

    accesses : (p : Bool) (o : Option Cap) → probes_some clients c false (cap_probed m.opcode m.param) b.pair ≡ p
        → cap_probed m.opcode m.param ≡ o → accesses_answered done ≡ access_list c source p o
    accesses true None f g = absurd (let no : false ≡ true = rw g at f in cc)
    accesses true (Some j) f g =
        let some : some_below clients (λ d. is_probed c false j (b.pair d).recorded d) ≡ true = rw g at f in
        ap (λ d. accesses_answered d.handed) (reaction-probing config c k n j m sys.manager comes last
        refl g (probed-some c k n false j m is asked.access refl ∙ ap not some)) ∙ accesses-probes w n j
        (probed config (service_for c m sys.manager.trace) j (with_beat c m k sys.manager.trace))
    accesses false o f g = answered f

pub request-once : {w : ℕ} {config : Config} {log : Log w} (h : AbstractState w) {sys : System w} {c source k : ℕ}
    {machine : Machine w} → SimulationRelation config log h.mail h.request h.state sys
    → (asked : IsAsked config c source h.mail h.state) → IsComing config c k asked.request sys.manager
    → beats_of (Message.A asked.request) ≡ suc k → MemoryRelation h.mail h.state machine
    → IsOnce (accesses_answered (reaction config (link_of c) (Beat.A (a_beat_of asked.request k)) sys.manager).handed) h
    machine
request-once {config} h {sys} {c} {source} {k} {machine} is asked comes last beside =
    go (probes_some (length config.clients.items) c false (cap_probed asked.request.opcode asked.request.param)
    (h.state.block (block_at asked.request.address)).pair) (cap_probed asked.request.opcode asked.request.param)
    (request-accesses h is asked comes last)
  where
    opened : IsAccess source (h.mail.request c source) None (machine.opened c Requests source)
    opened = rw asked.used at (beside.requests c source)

    go : (p : Bool) (o : Option Cap)
        → accesses_answered (reaction config (link_of c) (Beat.A (a_beat_of asked.request k)) sys.manager).handed
        ≡ access_list c source p o
        → IsOnce (accesses_answered (reaction config (link_of c) (Beat.A (a_beat_of asked.request k))
        sys.manager).handed) h machine
    go true (Some j) e = inl e
    go p o e = inr (c, source, e, opened)

pub beside-request_taken : {w : ℕ} {config : Config} {log : Log w} (h : AbstractState w) {sys : System w}
    {c source k : ℕ} (rest : List Packet) {machine : Machine w} → SimulationRelation config log h.mail h.request h.state
    sys → (asked : IsAsked config c source h.mail h.state) → IsComing config c k asked.request sys.manager
    → beats_of (Message.A asked.request) ≡ suc k → MemoryRelation h.mail h.state machine
    → MemoryRelation (kind_taken config (next_tracker sys) c Request source rest h).mail
    (kind_taken config (next_tracker sys) c Request source rest h).state
    (performing (accesses_answered (reaction config (link_of c) (Beat.A (a_beat_of asked.request k))
    sys.manager).handed) machine)
beside-request_taken {w} {config} h {sys} {c} {source} {k} rest {machine} is asked comes last beside =
    let clients = length config.clients.items in
    let m : MessageA w = asked.request in
    let n : ℕ = block_at m.address in
    let b : Block (List ℕ) = h.state.block n in
    let tracker : ℕ = next_tracker sys in
    let performed_so : IsPerformed config c source m h.mail h.state machine = record {
      width = comes.width;
      request = asked.is_it;
      sent = (ap Some asked.source_is, asked.lawful, asked.blank);
      access = asked.access;
      opened = rw asked.used at (beside.requests c source);
      long = (is.sized n).truth;
    } in
    subst (λ i. MemoryRelation (request_taken clients c source i tracker rest h).mail
    (request_taken clients c source i tracker rest h).state (performing (accesses_answered
    (reaction config (link_of c) (Beat.A (a_beat_of m k)) sys.manager).handed) machine)) (sym asked.is_it)
    (rw (request-accesses h is asked comes last)
    (beside-request tracker rest h is.invariant (plain-past config) performed_so beside))

-- ---- an Acquire

pub acquire-accesses : {w : ℕ} {config : Config} {log : Log w} (h : AbstractState w) {sys : System w} {c n : ℕ} (k : ℕ)
    → SimulationRelation config log h.mail h.request h.state sys → (asked : IsWanted w c n h.state)
    → IsComing config c k (acquire_wanted c n h.state asked) sys.manager
    → beats_of (Message.A (acquire_wanted c n h.state asked)) ≡ suc k
    → accesses_answered (reaction config (link_of c) (Beat.A (a_beat_of (acquire_wanted c n h.state asked) k))
    sys.manager).handed ≡ []
acquire-accesses {w} {config} {log} h {sys} {c} {n} k is asked comes last =
    none (some_below (length config.clients.items) (λ d. is_probed c true j (b.pair d).recorded d)) refl
  where
    b : Block (List ℕ)
    b = h.state.block n

    m : MessageA w
    m = acquire_wanted c n _ asked

    j : Cap
    j = cap_asked (AcquireOpen asked.whole asked.grow)

    caps : cap_probed m.opcode m.param ≡ Some j
    caps = caps_asked w asked.whole asked.grow (b.source c) n

    none : (x : Bool) → some_below (length config.clients.items) (λ d. is_probed c true j (b.pair d).recorded d) ≡ x
        → accesses_answered (reaction config (link_of c) (Beat.A (a_beat_of m k)) sys.manager).handed ≡ []
    none true f = let fact = reaction-probing config c k n j m sys.manager comes last (same_block n) caps
        (probed-some c k n true j m is (acquires-so asked.whole) (same_block n) ∙ ap not f) in cc (accesses-probes w n j
        (probed config (service_for c m sys.manager.trace) j (with_beat c m k sys.manager.trace)))
    none false f = let fact = performed-acquire config (service_for c m sys.manager.trace)
        (with_beat c m k sys.manager.trace) sys.manager.memory (acquires-so asked.whole) in let other_fact =
        accesses-grant config c (service_for c m sys.manager.trace)
        (with_beat c m k sys.manager.trace) sys.manager.memory in
        cc (reaction-performed c k n true m is comes last (acquires-so asked.whole) (same_block n) (rw caps f))

pub beside-acquire_taken : {w : ℕ} {config : Config} {log : Log w} (h : AbstractState w) {sys : System w} {c n k : ℕ}
    (rest : List Packet) {machine : Machine w} → SimulationRelation config log h.mail h.request h.state sys
    → (asked : IsWanted w c n h.state) → IsComing config c k (acquire_wanted c n h.state asked) sys.manager
    → beats_of (Message.A (acquire_wanted c n h.state asked)) ≡ suc k → MemoryRelation h.mail h.state machine
    → MemoryRelation (kind_taken config (next_tracker sys) c Acquire n rest h).mail
    (kind_taken config (next_tracker sys) c Acquire n rest h).state
    (performing (accesses_answered
    (reaction config (link_of c) (Beat.A (a_beat_of (acquire_wanted c n h.state asked) k)) sys.manager).handed) machine)
unfolding performing
beside-acquire_taken {config} h {sys} {c} {n} {k} rest is asked comes last beside =
    rw (acquire-accesses h k is asked comes last) (beside-acquire (length config.clients.items) config.profile c n
    ((h.state.block n).pair c).acquiring (next_tracker sys) rest h beside)
