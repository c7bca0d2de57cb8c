-- The one-memory machine beside the protocol, after each message that is taken.
use Rattle.std.proofs.Common.{◌≡◌, subst, ℕ, ◌≤◌, Bool, true, false, not, ◌&&◌, List, [], ◌∷◌, Option, Some, None}
use Rattle.std.proofs.Common.{arith, length, refl, sym, ◌∙◌, ap, ◌⊎◌, inl, inr, ◌==◌, if◌then◌else◌}
use Rattle.tl_coherence.proofs
use proofs.Imports.{⊤, Message, MessageA, Config, Cap, Report, Profile, effect, block_at, cap_probed, IsInvariant}
use proofs.Imports.{set_at, Kind, Request, ProbeAck, Packet, set, ClientBlock, AcquireOpen, ProbeAnswered, AcquirePhase}
use proofs.Imports.{NoAcquire, is_unprobed, after_served, after_grant_sent, after_report, Block, State, Service, Waits}
use proofs.Imports.{written, performed_block, served_block, granted_at_once, reported_block, ended_block, granted_block}
use proofs.Imports.{granted_pair, access_answered, access_served, report_taken, report_answers, AbstractState}
use proofs.Imports.{some_below, bytes_at, performs, answers, probes_some, access_taken, request_taken, acquire_taken}
use proofs.Imports.{granted_after, last_taken, ack_taken, MemoryRelation, AccessMessages, Machine, performing}
use proofs.memory.Beside.{beside-still, beside-used, same_acquire}
use proofs.memory.BesideTaken.{IsPerformed, beside-performed, memory-unprobed, memory-reported, intent-reply}
use proofs.queues.{Tokens.set-same, Tokens.set-other, Tokens.set-part, Codes.low_cap}

-- ---- which accesses are performed, and what ends

abbrev pub access_list : ℕ → ℕ → Bool → Option Cap → List (ℕ × ℕ)
access_list c source true (Some k) = []
access_list c source _ _ = (c, source) ∷ []

abbrev pub request_accesses : {w : ℕ} → ℕ → ℕ → ℕ → Message w → AbstractState w → List (ℕ × ℕ)
request_accesses clients c source (Message.A m) h = access_list c source (probes_some clients c false
    (cap_probed m.opcode m.param) (h.state.block (block_at m.address)).pair) (cap_probed m.opcode m.param)
request_accesses clients c source _ h = []

abbrev pub last_accesses : Service → List (ℕ × ℕ)
last_accesses (Waits q false source k) = (q, source) ∷ []
last_accesses _ = []

-- the accesses that are answered as this message is taken
abbrev pub accesses_by : {w : ℕ} → Config → ℕ → Kind → ℕ → AbstractState w → List (ℕ × ℕ)
accesses_by config c Request i h = request_accesses (length config.clients.items) c i (h.mail.request c i) h
accesses_by config c ProbeAck n h = if some_below (length config.clients.items) (λ d. not (d == c)
    && not (is_unprobed ((h.state.block n).pair d).probing)) then [] else last_accesses (h.state.block n).service
accesses_by config c _ i h = []

-- ---- one block changes, and no source

pub beside_block : {w : ℕ} (n : ℕ) (new : Block (List ℕ)) {mail : AccessMessages w} {s : State (List ℕ)}
    (s' : State (List ℕ)) {m : Machine w} → ((i : ℕ) → s'.block i ≡ set n new s.block i)
    → ((d i : ℕ) → s'.uses d i ≡ s.uses d i) → ((d i : ℕ) → s'.lets d i ≡ s.lets d i) → new.truth ≡ (s.block n).truth
    → ((d : ℕ) → (new.pair d).acquiring ≡ ((s.block n).pair d).acquiring)
    → ((d : ℕ) → new.waiting d ≡ (s.block n).waiting d) → MemoryRelation mail s m → MemoryRelation mail s' m
beside_block {w} n new {mail} {s} s' {m} blocks uses lets truth acquiring waiting h = grind (arith, beside-still)

-- one client's pair changes, and not what it acquires
pub same_acquiring : (c : ℕ) (p : ClientBlock) (f : ℕ → ClientBlock) → p.acquiring ≡ (f c).acquiring → (d : ℕ)
    → (set c p f d).acquiring ≡ (f d).acquiring
same_acquiring c p f e d = set-part (λ q. q.acquiring) c p f e d

served_acquiring : (r : ℕ) (own : Bool) (k : Cap) (pair : ℕ → ClientBlock) (d : ℕ)
    → (if own && (d == r) then pair d else after_served k (pair d)).acquiring ≡ (pair d).acquiring
served_acquiring r own k pair d = grind arith

granted_acquiring : (c q : ℕ) (r : Report) (k : Cap) (pair : ℕ → ClientBlock) (d : ℕ)
    → (granted_pair c q r k pair d).acquiring ≡ (pair d).acquiring
granted_acquiring c q r k pair d = grind arith

-- ---- a request

beside_served : {w : ℕ} {config : Config} {c source : ℕ} {x : MessageA w} (tracker : ℕ) (k : Cap) (rest : List Packet)
    {mail : AccessMessages w} {s : State (List ℕ)} {m : Machine w} → IsPerformed config c source x mail s m
    → MemoryRelation mail s m → MemoryRelation mail (access_served c (block_at x.address) source tracker k rest s) m
beside_served {c} {source} {x} tracker k rest {s} is h =
    let n : ℕ = block_at x.address in
    let new : Block (List ℕ) = served_block c false source tracker k (s.block n) in
    let s' : State (List ℕ) = access_served c n source tracker k rest s in
    beside-used (record {
      memory = λ i. rw (set-part (λ b. b.truth) n new s.block refl i) (h.memory i);
      uses = λ d i. refl;
      lets = λ d i. refl;
      here = is.opened;
      there = λ d i else_. refl;
      releases = λ d i. refl;
      requests = λ d i else_. refl;
      answers = λ d i else_. refl;
      acquires = λ d i else_. same_acquire d s s' (s.uses d i) (λ j. (
        set-part (λ b. (b.pair d).acquiring) n new s.block (served_acquiring c false k (s.block n).pair d) j,
        set-part (λ b. b.waiting d) n new s.block refl j,
      ));
    }) h

beside_answered : {w : ℕ} {config : Config} {c source : ℕ} {x : MessageA w} (rest : List Packet)
    {mail : AccessMessages w} {s : State (List ℕ)} {m : Machine w} → IsPerformed config c source x mail s m
    → ((s.block (block_at x.address)).memory ≡ (s.block (block_at x.address)).truth)
    ⊎ (cap_probed x.opcode x.param ≡ None) → MemoryRelation mail s m
    → MemoryRelation (record {
      request = mail.request;
      answer = set_at c source (answers x (s.block (block_at x.address)).memory) mail.answer;
    })
    (access_answered c (block_at x.address) source (performs x) rest s) (performing ((c, source) ∷ []) m)
beside_answered {c} {source} {x} rest {s} is same h =
    let new : Block (List ℕ) = performed_block (performs x) (s.block n) in
    beside-performed (s.block n).memory _ is
    (λ f block. reply_same same)
    (λ i ne. ap (λ b. b.truth) (set-other n i new s.block ne))
    (ap (λ b. b.truth) (set-same n new s.block))
    (λ d i. refl) (λ d i. refl)
    (λ d i. (
      set-part (λ b. (b.pair d).acquiring) n new s.block refl i,
      set-part (λ b. b.waiting d) n new s.block refl i,
    )) h
  where
    n : ℕ
    n = block_at x.address

    reply_same : ((s.block n).memory ≡ (s.block n).truth) ⊎ (cap_probed x.opcode x.param ≡ None)
        → (effect (Message.A x) (bytes_at n (s.block n).truth)).1
        ≡ (effect (Message.A x) (bytes_at n (s.block n).memory)).1
    reply_same (inl e) = ap (λ b. (effect (Message.A x) (bytes_at n b)).1) (sym e)
    reply_same (inr e) = intent-reply x (bytes_at n (s.block n).truth) (bytes_at n (s.block n).memory) e

pub beside-request : {w : ℕ} {caching : ℕ → Bool} {config : Config} {c source : ℕ} (tracker : ℕ) {x : MessageA w}
    (rest : List Packet) (h : AbstractState w) {m : Machine w} → IsInvariant caching h.state
    → ((d : ℕ) → length config.clients.items ≤ d → caching d ≡ false) → IsPerformed config c source x h.mail h.state m
    → MemoryRelation h.mail h.state m
    → MemoryRelation (request_taken (length config.clients.items) c source (Message.A x) tracker rest h).mail
    (request_taken (length config.clients.items) c source (Message.A x) tracker rest h).state
    (performing (request_accesses (length config.clients.items) c source (Message.A x) h) m)
unfolding performing
beside-request {config} {c} {source} tracker {x} rest h {m} inv plain is beside = go (probes_some clients c false
    (cap_probed x.opcode x.param) (h.state.block (block_at x.address)).pair) (cap_probed x.opcode x.param) refl refl
  where
    clients : ℕ
    clients = length config.clients.items

    go : (p : Bool) (o : Option Cap) → probes_some clients c false (cap_probed x.opcode x.param)
        (h.state.block (block_at x.address)).pair ≡ p → cap_probed x.opcode x.param ≡ o → MemoryRelation
        (access_taken c source x tracker p o rest h).mail (access_taken c source x tracker p o rest h).state
        (performing (access_list c source p o) m)
    go true (Some k) e f = beside_served tracker k rest is beside
    go true None e f = beside_answered rest is (inr f) beside
    go false None e f = beside_answered rest is (inr f) beside
    go false (Some k) e f = beside_answered rest is (inl (memory-unprobed clients c k plain
        (inv.blocks (block_at x.address)) (low_cap x.opcode x.param k f) (rw f at e))) beside

-- ---- an Acquire

pub beside-acquire : {w : ℕ} (clients : ℕ) (p : Profile) (c n : ℕ) (x : AcquirePhase) (tracker : ℕ) (rest : List Packet)
    (h : AbstractState w) {m : Machine w} → MemoryRelation h.mail h.state m
    → MemoryRelation (acquire_taken clients p c n x tracker rest h).mail
    (acquire_taken clients p c n x tracker rest h).state m
beside-acquire clients p c n NoAcquire tracker rest h beside = beside
beside-acquire clients p c n (AcquireOpen whole g) tracker rest h {m} beside =
    let either : (y : Bool) (s t : State (List ℕ)) → MemoryRelation h.mail s m → MemoryRelation h.mail t m
    → MemoryRelation h.mail (if y then s else t) m = elim [ true ↦ λ s t f g. f | false ↦ λ s t f g. g ] in
    let b : Block (List ℕ) = h.state.block n in
    either _ _ _ (beside_block n (served_block c true (b.source c) tracker _ b) _ (λ i. refl) (λ d i. refl)
    (λ d i. refl) refl (λ d. served_acquiring c true _ b.pair d) (λ d. refl) beside)
    (beside_block n (granted_at_once c tracker _ _ b) _ (λ i. refl) (λ d i. refl) (λ d i. refl) refl
    (λ d. same_acquiring c (after_grant_sent _ (b.pair c)) b.pair refl d) (λ d. refl) beside)

-- ---- a report

-- the access that waits, with what its source has open
abbrev pub IsWaiting : {w : ℕ} → Config → ℕ → Service → AbstractState w → Machine w → Type 0
IsWaiting config n (Waits q false source k) h m = IsPerformed config q source (h.request n) h.mail h.state m
    × (block_at (h.request n).address ≡ n)
IsWaiting config n _ h m = ⊤

beside_ended : {w : ℕ} {caching : ℕ → Bool} {config : Config} (c : ℕ) {q : ℕ} (n : ℕ) {source : ℕ} (r : Report)
    (k : Cap) (rest : List Packet) (h : AbstractState w) {m : Machine w} → IsInvariant caching h.state
    → (h.state.block n).service ≡ Waits q false source k → ((h.state.block n).pair c).probing ≡ ProbeAnswered r
    → ((d : ℕ) → (d ≡ c → ⊥) → is_unprobed ((h.state.block n).pair d).probing ≡ true)
    → IsPerformed config q source (h.request n) h.mail h.state m → block_at (h.request n).address ≡ n
    → MemoryRelation h.mail h.state m
    → MemoryRelation (record {
      request = h.mail.request;
      answer = set_at q source (answers (h.request n) (written r (h.state.block n).truth (h.state.block n).memory))
          h.mail.answer;
    })
    (report_answers c q n source r (performs (h.request n)) rest h.state) (performing ((q, source) ∷ []) m)
beside_ended {w} {caching} {config} c {q} n {source} r k rest h {m} inv waits answered settled is at beside =
    let b : Block (List ℕ) = h.state.block n in
    let x : MessageA w = h.request n in
    let new : Block (List ℕ) = ended_block c r (performs x) b in
    let s' : State (List ℕ) = report_answers c q n source r (performs x) rest h.state in
    let told = memory-reported c q source r k (inv.blocks n) waits answered settled in
    beside-performed (written r b.truth b.memory) s' is (λ f block. cc (at, told))
    (λ i ne. ap (λ y. y.truth) (set-other n i new h.state.block (λ e. ne (e ∙ sym at))))
    (subst (λ j. (set n new h.state.block j).truth ≡ performs x (h.state.block j).truth) (sym at)
    (ap (λ y. y.truth) (set-same n new h.state.block)))
    (λ d i. refl) (λ d i. refl)
    (λ d i. (
      set-part (λ y. (y.pair d).acquiring) n new h.state.block
          (same_acquiring c (after_report r (b.pair c)) b.pair refl d) i,
      set-part (λ y. y.waiting d) n new h.state.block refl i,
    )) beside

beside_last : {w : ℕ} {caching : ℕ → Bool} (config : Config) (clients : ℕ) (p : Profile) (c n : ℕ) (r : Report)
    (v : Service) (rest : List Packet) (h : AbstractState w) {m : Machine w} → IsInvariant caching h.state
    → (h.state.block n).service ≡ v → ((h.state.block n).pair c).probing ≡ ProbeAnswered r
    → ((d : ℕ) → (d ≡ c → ⊥) → is_unprobed ((h.state.block n).pair d).probing ≡ true) → IsWaiting config n v h m
    → MemoryRelation h.mail h.state m → MemoryRelation (last_taken clients p c n r v rest h).mail
    (last_taken clients p c n r v rest h).state (performing (last_accesses v) m)
unfolding performing
beside_last config clients p c n r (Waits q false source k) rest h inv e answered settled is beside =
    beside_ended c n r k rest h inv e answered settled is.0 is.1 beside
beside_last config clients p c n r (Waits q true source k) rest h {m} inv e answered settled is beside =
    go ((h.state.block n).pair q).acquiring
  where
    go : (x : AcquirePhase) → MemoryRelation (granted_after clients p c q n r x rest h).mail
        (granted_after clients p c q n r x rest h).state m
    go NoAcquire = beside
    go (AcquireOpen whole g) = beside_block n (granted_block c q r _ _ (h.state.block n)) _ (λ i. refl) (λ d i. refl)
        (λ d i. refl) refl (λ d. granted_acquiring c q r _ (h.state.block n).pair d) (λ d. refl) beside
beside_last config clients p c n r v rest h inv e answered settled is beside = beside

pub beside-report : {w : ℕ} {caching : ℕ → Bool} (config : Config) (c n : ℕ) (r : Report) (rest : List Packet)
    (h : AbstractState w) {m : Machine w} → IsInvariant caching h.state → ((h.state.block n).pair c).probing
    ≡ ProbeAnswered r → (some_below (length config.clients.items)
    (λ d. not (d == c) && not (is_unprobed ((h.state.block n).pair d).probing)) ≡ false → (d : ℕ) → (d ≡ c → ⊥)
    → is_unprobed ((h.state.block n).pair d).probing ≡ true) → IsWaiting config n (h.state.block n).service h m
    → MemoryRelation h.mail h.state m
    → MemoryRelation (ack_taken (length config.clients.items) config.profile c n r rest h).mail
    (ack_taken (length config.clients.items) config.profile c n r rest h).state
    (performing (accesses_by config c ProbeAck n h) m)
unfolding performing
beside-report {w} config c n r rest h {m} inv answered settled is beside = go (some_below
    (length config.clients.items) (λ d. not (d == c) && not (is_unprobed ((h.state.block n).pair d).probing))) refl
  where
    reported : AbstractState w
    reported = record h { state = report_taken c n r rest h.state }

    last : AbstractState w
    last = last_taken (length config.clients.items) config.profile c n r (h.state.block n).service rest h

    go : (y : Bool) → some_below (length config.clients.items)
        (λ d. not (d == c) && not (is_unprobed ((h.state.block n).pair d).probing)) ≡ y
        → MemoryRelation (if y then reported else last).mail (if y then reported else last).state
        (performing (if y then [] else last_accesses (h.state.block n).service) m)
    go true e = beside_block n (reported_block c r (h.state.block n)) reported.state (λ i. refl) (λ d i. refl)
        (λ d i. refl) refl (λ d. same_acquiring c (after_report r ((h.state.block n).pair c)) (h.state.block n).pair
        refl d) (λ d. refl) beside
    go false e = beside_last config (length config.clients.items) config.profile c n r _
        rest h inv refl answered (settled e) is beside
