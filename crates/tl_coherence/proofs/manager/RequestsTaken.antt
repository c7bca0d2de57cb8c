-- What a request finds that needn't wait, whom it probes, and what the manager does for it.
-- The last beat of a request that is taken: what the protocol does then is what the manager does.
use Rattle.std.proofs.Common.{◌≡◌, ℕ, suc, ◌≤◌, Bool, true, false, not, ◌&&◌, ◌==◌, if◌then◌else◌, List, ◌∷◌, Option}
use Rattle.std.proofs.Common.{Some, None, refl, sym, ◌∙◌, ap, subst, arith, length, nat_le}
use Rattle.tl_coherence.proofs
use proofs.Imports.{and_comm, or_parts, Beat, Message, MessageA, a_beat_of, beats_of, Config, Cap, Grow, Perm, is_last}
use proofs.Imports.{same_perm, on_link, block_at, ends, is_acquire, same_block, swapped, acquisition, End, cap_granted}
use proofs.Imports.{performed, cap_probed, is_nobody, is_spared, probed, recorded, must_wait, reaction, is_in_service}
use proofs.Imports.{trackers_of, least_untaken, services, IsInvariant, cap_asked, Acquire, Kind, Packet, Request, set}
use proofs.Imports.{AcquireOpen, is_unprobed, is_above, is_granted_data, Acquires, Asked, Block, Free, GrantSent}
use proofs.Imports.{GrantTaken, InService, Service, State, Waits, acquire_granted, acquire_served, is_probed, on}
use proofs.Imports.{packet, AbstractState, access_taken, acquire_opcode, gift, is_unheld, kind_taken, probes_some}
use proofs.Imports.{some_below, AccessMessages, IsServedWith, SimulationRelation, is_caching, IsFor, Log, System}
use Rattle.tl_manager.proofs.calls.Events.{reaction-unprobed, reaction-intent}
use Rattle.tl_manager.specs.statement.Holders as holders
use proofs.manager.{Memories.IsManagerOf, Admitted.unserved-free, Admitted.free-untracked}
use proofs.manager.Accounts.{IsAtManager, at_manager-matched, nobody-same, no-clients, plain-past, waits-used}
use proofs.manager.Probing.{same_above, recorded-beat, link_of, with_beat, IsComing, ends-coming, service_for}
use proofs.manager.Probing.{served-last, IsUnwaited}
use proofs.manager.Performing.{IsAnswering, end_after, at_manager-probing, at_manager-answered, at_manager-granted}
use proofs.queues.{Facts.quiet_at_rest, Codes.acquires-so}
use proofs.protocol.{HeadOfD.IsReady, FollowKept.IsServing, FollowKept.kind_taken-kept, Room.IsAsked, Room.IsWanted}

-- ---- what a request that needn't wait finds

-- the tracker of the next service
abbrev pub next_tracker : {w : ℕ} → System w → ℕ
next_tracker sys = least_untaken (trackers_of (services sys.manager.trace))

pub free-last : {w : ℕ} {config : Config} {log : Log w} {mail : AccessMessages w} {request : ℕ → MessageA w}
    {s : State (List ℕ)} {sys : System w} {c k : ℕ} {m : MessageA w} → SimulationRelation config log mail request s sys
    → IsComing config c k m sys.manager → beats_of (Message.A m) ≡ suc k → must_wait config (link_of c)
    (Beat.A (a_beat_of m k)) sys.manager.trace ≡ false → (s.block (block_at m.address)).service ≡ Free
free-last {w} {config} {request} {s} {sys} {c} {k} {m} is comes last moves =
    let ended : ends (Beat.A (a_beat_of m k)) (on_link c sys.manager.trace) ≡ true =
    ends-coming comes ∙ rw last (is_last k (suc k) (omega arith)) in
    unserved-free _ is.managed (or_parts (is_in_service (block_at m.address) (services sys.manager.trace))
    (nat_le config.trackers (length (services sys.manager.trace))) (rw ended at moves)).0

pub untracked-next : {w : ℕ} {config : Config} {log : Log w} {mail : AccessMessages w} {request : ℕ → MessageA w}
    {s : State (List ℕ)} {sys : System w}
    → SimulationRelation config log mail request s sys → s.tracked (next_tracker sys) ≡ None
untracked-next is = free-untracked is.invariant is.managed

-- the access that has a block in service
serving-for : {w : ℕ} (service : Service) (n : ℕ) (m : MessageA w) → IsFor service n m → IsServing service m
serving-for (Waits r false source k) n m for = (for.0, for.3)
serving-for service n m for = tt

serving-matched : {w : ℕ} {config : Config} {log : Log w} {mail : AccessMessages w} {request : ℕ → MessageA w}
    {s : State (List ℕ)} {sys : System w}
    → SimulationRelation config log mail request s sys → (n : ℕ) → IsServing (s.block n).service (request n)
serving-matched {request} {s} is n = serving-for _ n _ (is.served.requests n)

-- the invariant is kept
pub invariant-taken : {w : ℕ} {config : Config} {log : Log w} (h : AbstractState w) {sys : System w} (c : ℕ) (k : Kind)
    (i : ℕ) (rest : List Packet) → SimulationRelation config log h.mail h.request h.state sys
    → on k (h.state.link c) ≡ packet k i ∷ rest → IsReady (next_tracker sys) c k i h
    → IsInvariant (is_caching config) (kind_taken config (next_tracker sys) c k i rest h).state
invariant-taken {config} h {sys} c k i rest is first ready = kind_taken-kept config _ c k i rest h is.invariant
    (plain-past config) (λ n. (is.sized n).truth) (serving-matched is) first ready

-- ---- who is probed

-- somebody is probed, as the manager's record says, where the protocol says so
pub probed-some : {w : ℕ} {config : Config} {log : Log w} {mail : AccessMessages w} {request : ℕ → MessageA w}
    {s : State (List ℕ)} {sys : System w} (c k n : ℕ) (own : Bool) (j : Cap) (m : MessageA w)
    → SimulationRelation config log mail request s sys → is_acquire m.opcode ≡ own → block_at m.address ≡ n
    → is_nobody (probed config (service_for c m sys.manager.trace) j (with_beat c m k sys.manager.trace))
    ≡ not (some_below (length config.clients.items) (λ d. is_probed c own j ((s.block n).pair d).recorded d))
probed-some {config} {s} {sys} c k n own j m is kind block =
    nobody-same config (λ d. holders.is_above j (recorded d (block_at m.address) (with_beat c m k sys.manager.trace))
    && not (is_spared (service_for c m sys.manager.trace) d)) (λ d. is_probed c own j ((s.block n).pair d).recorded d)
    (λ d. rw (
      block,
      recorded-beat c k m sys.manager.trace d n,
      is.managed.recorded_is d n,
      kind,
      same_above j ((s.block n).pair d).recorded,
      swapped c d,
    ) (and_comm (is_above j ((s.block n).pair d).recorded) (not (own && (d == c)))))

copies_so : (p : Perm) → holders.has_copy p ≡ not (same_perm p Perm.None)
copies_so p = grind arith

-- nobody has a copy, as the manager's record says, where the protocol says so
pub unheld-same : {w : ℕ} {config : Config} {log : Log w} {mail : AccessMessages w} {request : ℕ → MessageA w}
    {s : State (List ℕ)} {sys : System w} (c k n : ℕ) (m : MessageA w)
    → SimulationRelation config log mail request s sys → holders.is_unheld config n (with_beat c m k sys.manager.trace)
    ≡ is_unheld (length config.clients.items) (s.block n).pair
unheld-same {config} {s} {sys} c k n m is = nobody-same config (λ d. holders.has_copy
    (recorded d n (with_beat c m k sys.manager.trace))) (λ d. not (same_perm ((s.block n).pair d).recorded Perm.None))
    (λ d. rw (recorded-beat c k m sys.manager.trace d n, is.managed.recorded_is d n)
    (copies_so ((s.block n).pair d).recorded))

-- nothing is under way of a block that is free
pub quiet-free : {w : ℕ} {config : Config} {log : Log w} {mail : AccessMessages w} {request : ℕ → MessageA w}
    {s : State (List ℕ)} {sys : System w} (n : ℕ) → SimulationRelation config log mail request s sys
    → (s.block n).service ≡ Free → (d : ℕ) → is_unprobed ((s.block n).pair d).probing ≡ true
quiet-free {s} n is free d = quiet_at_rest _ _ ((is.invariant.blocks n).phases d) (rw free refl)

pub beyond-none : {w : ℕ} {config : Config} {log : Log w} {mail : AccessMessages w} {request : ℕ → MessageA w}
    {s : State (List ℕ)} {sys : System w} (n : ℕ) → SimulationRelation config log mail request s sys
    → (d : ℕ) → length config.clients.items ≤ d → ((s.block n).pair d).recorded ≡ Perm.None
beyond-none {config} n is d past = ap (λ p. p.recorded) ((is.invariant.blocks n).outside d (plain-past config d past))

-- ---- what is done

-- nobody is probed: the request is performed
pub reaction-performed : {w : ℕ} {config : Config} {log : Log w} {mail : AccessMessages w} {request : ℕ → MessageA w}
    {s : State (List ℕ)} {sys : System w} (c k n : ℕ) (own : Bool) (m : MessageA w)
    → SimulationRelation config log mail request s sys → IsComing config c k m sys.manager
    → beats_of (Message.A m) ≡ suc k → is_acquire m.opcode ≡ own → block_at m.address ≡ n
    → probes_some (length config.clients.items) c own (cap_probed m.opcode m.param) (s.block n).pair ≡ false
    → reaction config (link_of c) (Beat.A (a_beat_of m k)) sys.manager
    ≡ performed config (service_for c m sys.manager.trace) (with_beat c m k sys.manager.trace) sys.manager.memory
reaction-performed {w} {config} {sys} c k n own m is comes last kind block none = go (cap_probed m.opcode m.param) refl
  where
    go : (o : Option Cap) → cap_probed m.opcode m.param ≡ o → reaction config (link_of c) (Beat.A (a_beat_of m k))
        sys.manager ≡ performed config (service_for c m sys.manager.trace) (with_beat c m k sys.manager.trace)
        sys.manager.memory
    go None f = reaction-intent config _ _ _ sys.manager (served-last comes last) f
    go (Some j) f = reaction-unprobed config _ _ _ j sys.manager
        (served-last comes last) f (no-clients (probed config (service_for c m sys.manager.trace) j
        (with_beat c m k sys.manager.trace)) (probed-some c k n own j m is kind block ∙ ap not (rw f at none)))

-- somebody is, with this cap
pub somebody-probed : {w : ℕ} {config : Config} {log : Log w} {mail : AccessMessages w} {request : ℕ → MessageA w}
    {s : State (List ℕ)} {sys : System w} (c k n : ℕ) (own : Bool) (m : MessageA w)
    → SimulationRelation config log mail request s sys → is_acquire m.opcode ≡ own → block_at m.address ≡ n
    → probes_some (length config.clients.items) c own (cap_probed m.opcode m.param) (s.block n).pair ≡ true
    → (j : Cap) × (cap_probed m.opcode m.param ≡ Some j)
    × (is_nobody (probed config (service_for c m sys.manager.trace) j (with_beat c m k sys.manager.trace)) ≡ false)
somebody-probed {config} {sys} c k n own m is kind block some = go (cap_probed m.opcode m.param) refl
  where
    go : (o : Option Cap) → cap_probed m.opcode m.param ≡ o → (j : Cap) × (cap_probed m.opcode m.param ≡ Some j)
        × (is_nobody (probed config (service_for c m sys.manager.trace) j (with_beat c m k sys.manager.trace)) ≡ false)
    go None f = absurd (let no : false ≡ true = rw f at some in cc)
    go (Some j) f = (j, f, probed-some c k n own j m is kind block ∙ ap not (rw f at some))

-- ---- an access

pub unwaited-asked : {w : ℕ} {config : Config} {log : Log w} {mail : AccessMessages w} {request : ℕ → MessageA w}
    {s : State (List ℕ)} {sys : System w} (c source : ℕ)
    → SimulationRelation config log mail request s sys → s.uses c source ≡ Asked → IsUnwaited c source s
unwaited-asked {w} {config} {s} c source is used i src own j e same = go own (waits-used i c src own j is.invariant e)
  where
    go : (b : Bool) → s.uses c src ≡ (if b then Acquires i else InService i) → ⊥
    go true f = let no : Asked ≡ Acquires i = sym (ap (s.uses c) (sym same) ∙ used) ∙ f in cc
    go false f = let no : Asked ≡ InService i = sym (ap (s.uses c) (sym same) ∙ used) ∙ f in cc

with-same : {w : ℕ} (mail after : AccessMessages w) (service : Service) (m : MessageA w) → after.request ≡ mail.request
    → IsServedWith mail service m → IsServedWith after service m
with-same mail after Free m same ok = tt
with-same mail after (Waits r true source k) m same ok = tt
with-same mail after (Waits r false source k) m same ok = ap (λ f. f r source) same ∙ ok
with-same mail after (GrantSent q d k) m same ok = tt
with-same mail after (GrantTaken q) m same ok = tt

-- other answers change nothing
at_manager-answers : {w : ℕ} {config : Config} {mail : AccessMessages w} (after : AccessMessages w)
    {request : ℕ → MessageA w} {s : State (List ℕ)} {e : End w} → after.request ≡ mail.request
    → IsAtManager config mail request s e → IsAtManager config after request s e
at_manager-answers {mail} after {request} {s} same is = record {
  traced = is.traced;
  served_with = λ n. with-same mail after _ _ same (is.served_with n);
  manager_kept = is.manager_kept;
  memory = is.memory;
  all_live = is.all_live;
}

pub ready-request : {w : ℕ} {config : Config} {log : Log w} (h : AbstractState w) {sys : System w} {c source k : ℕ}
    → SimulationRelation config log h.mail h.request h.state sys → (asked : IsAsked config c source h.mail h.state)
    → IsComing config c k asked.request sys.manager → beats_of (Message.A asked.request) ≡ suc k
    → must_wait config (link_of c) (Beat.A (a_beat_of asked.request k)) sys.manager.trace ≡ false
    → IsReady (next_tracker sys) c Request source h
ready-request h is asked comes last moves =
    (asked.request, asked.is_it, asked.access, free-last is comes last moves, untracked-next is)

-- after the last beat of an access that was taken
pub at_manager-request_taken : {w : ℕ} {config : Config} {log : Log w} (h : AbstractState w) {sys : System w}
    {c source k : ℕ} (rest : List Packet) → SimulationRelation config log h.mail h.request h.state sys
    → (asked : IsAsked config c source h.mail h.state) → IsComing config c k asked.request sys.manager
    → beats_of (Message.A asked.request) ≡ suc k → must_wait config (link_of c) (Beat.A (a_beat_of asked.request k))
    sys.manager.trace ≡ false → IsManagerOf config (kind_taken config (next_tracker sys) c Request source rest h)
    (end_after config c k asked.request sys.manager)
at_manager-request_taken {w} {config} {log} h {sys} {c} {source} {k} rest is asked comes last moves = rw asked.is_it
    (go (probes_some (length config.clients.items) c false (cap_probed m.opcode m.param) b.pair)
    (cap_probed m.opcode m.param) refl refl)
  where
    m : MessageA w
    m = asked.request

    n : ℕ
    n = block_at m.address

    b : Block (List ℕ)
    b = h.state.block n

    free : b.service ≡ Free
    free = free-last is comes last moves

    unwaited : IsUnwaited c source h.state
    unwaited = unwaited-asked c _ is asked.used

    answering : IsAnswering config c k n m h.state sys.manager
    answering = record {
      comes = comes;
      last = last;
      access = asked.access;
      block = refl;
      free = free;
      unwaited = λ i src own j f same. unwaited i src own j f (sym asked.source_is ∙ same);
    }

    go : (p : Bool) (o : Option Cap) → probes_some (length config.clients.items) c false
        (cap_probed m.opcode m.param) b.pair ≡ p → cap_probed m.opcode m.param ≡ o → IsManagerOf config
        (access_taken c source m (next_tracker sys) p o rest h) (end_after config c k m sys.manager)
    go true None f g = absurd (let no : false ≡ true = rw g at f in cc)
    go true (Some j) f g =
        let some = somebody-probed c k n false m is asked.access refl f in
        let same : some.0 ≡ j = (let same : Some some.0 ≡ Some j = sym some.1 ∙ g ∙ refl in cc) in
        at_manager-probing (λ i. refl) (record {
          comes = comes;
          last = last;
          for = (asked.access, asked.source_is, refl, g);
          free = free;
          quiet = quiet-free n is free;
          beyond = beyond-none n is;
          unwaited = unwaited;
        })
        (rw same at some.2) asked.is_it (at_manager-matched is)
    go false o f g = subst (λ i. IsManagerOf config i (end_after config c k m sys.manager)) (sym refl)
        (at_manager-answered (λ i. refl) answering asked.lawful (reaction-performed c k n false m is comes last
        asked.access refl f) (at_manager-answers (access_taken c source m (next_tracker sys) false None rest h).mail
        refl (at_manager-matched is)))

-- ---- an Acquire

unwaited-acquires : {w : ℕ} {config : Config} {log : Log w} {mail : AccessMessages w} {request : ℕ → MessageA w}
    {s : State (List ℕ)} {sys : System w} (c source n : ℕ) → SimulationRelation config log mail request s sys
    → s.uses c source ≡ Acquires n → (s.block n).service ≡ Free → IsUnwaited c source s
unwaited-acquires {s} c source n is used free i src own j e same = go own e (waits-used i c src own j is.invariant e)
  where
    go : (b : Bool) → (s.block i).service ≡ Waits c b src j → s.uses c src ≡ (if b then Acquires i else InService i) → ⊥
    go true f g = let at_n : i ≡ n = cc in let no : Free ≡ Waits c true src j = cc in cc
    go false f g = let no : Acquires n ≡ InService i = sym (ap (s.uses c) (sym same) ∙ used) ∙ g in cc

pub caps_asked : (w : ℕ) (whole : Bool) (g : Grow) (source n : ℕ)
    → cap_probed (acquisition {w = w} (acquire_opcode whole) g source n).opcode
    (acquisition {w = w} (acquire_opcode whole) g source n).param ≡ Some (cap_asked (AcquireOpen whole g))
caps_asked w whole g source n = grind arith

-- the Acquire that is wanted
abbrev pub acquire_wanted : {w : ℕ} (c n : ℕ) (s : State (List ℕ)) → IsWanted w c n s → MessageA w
acquire_wanted c n s is = acquisition (acquire_opcode is.whole) is.grow ((s.block n).source c) n

pub ready-acquire : {w : ℕ} {config : Config} {log : Log w} (h : AbstractState w) {sys : System w} {c n k : ℕ}
    → SimulationRelation config log h.mail h.request h.state sys → (asked : IsWanted w c n h.state)
    → IsComing config c k (acquire_wanted c n h.state asked) sys.manager
    → beats_of (Message.A (acquire_wanted c n h.state asked)) ≡ suc k
    → must_wait config (link_of c) (Beat.A (a_beat_of (acquire_wanted c n h.state asked) k)) sys.manager.trace ≡ false
    → IsReady (next_tracker sys) c Acquire n h
ready-acquire h {n} is asked comes last moves =
    (ap (λ i. (h.state.block i).service) (sym (same_block n)) ∙ free-last is comes last moves, untracked-next is)

-- after an Acquire that was taken
pub at_manager-acquire_taken : {w : ℕ} {config : Config} {log : Log w} (h : AbstractState w) {sys : System w}
    {c n k : ℕ} (rest : List Packet) → SimulationRelation config log h.mail h.request h.state sys
    → (asked : IsWanted w c n h.state) → IsComing config c k (acquire_wanted c n h.state asked) sys.manager
    → beats_of (Message.A (acquire_wanted c n h.state asked)) ≡ suc k
    → must_wait config (link_of c) (Beat.A (a_beat_of (acquire_wanted c n h.state asked) k)) sys.manager.trace ≡ false
    → IsManagerOf config (kind_taken config (next_tracker sys) c Acquire n rest h)
    (end_after config c k (acquire_wanted c n h.state asked) sys.manager)
at_manager-acquire_taken {w} {config} h {sys} {c} {n} {k} rest is asked comes last moves =
    rw asked.wants (go (some_below clients (λ d. is_probed c true j (b.pair d).recorded d)) refl)
  where
    b : Block (List ℕ)
    b = h.state.block n

    m : MessageA w
    m = acquire_wanted c n _ asked

    clients : ℕ
    clients = length config.clients.items

    tracker : ℕ
    tracker = next_tracker sys

    j : Cap
    j = cap_asked (AcquireOpen asked.whole asked.grow)

    ready : IsReady tracker c Acquire n h
    ready = ready-acquire h is asked comes last moves

    acquires : is_acquire m.opcode ≡ true
    acquires = acquires-so asked.whole

    caps : cap_probed m.opcode m.param ≡ Some j
    caps = caps_asked w asked.whole asked.grow (b.source c) n

    unwaited : IsUnwaited c m.source h.state
    unwaited = unwaited-acquires c _ n is asked.used ready.0

    given : Cap
    given = gift config.profile asked.whole asked.grow (is_unheld clients b.pair)

    -- the state afterwards
    state_of : Bool → State (List ℕ)
    state_of x = if x then acquire_served c n (b.source c) tracker j rest h.state else acquire_granted c n tracker
        (is_granted_data asked.whole asked.grow (b.pair c).recorded) given rest h.state

    go : (x : Bool) → some_below clients (λ d. is_probed c true j (b.pair d).recorded d) ≡ x
        → IsAtManager config h.mail (set n m h.request) (state_of x) (end_after config c k m sys.manager)
    go true f = at_manager-probing (λ i. refl) (record {
      comes = comes;
      last = last;
      for = (acquires, refl, same_block n, caps);
      free = ready.0;
      quiet = quiet-free n is ready.0;
      beyond = beyond-none n is;
      unwaited = unwaited;
    }) ((probed-some c k n true j m is acquires (same_block n)) ∙ ap not f) tt (at_manager-matched is)
    go false f = at_manager-granted (is_granted_data asked.whole asked.grow (b.pair c).recorded) (λ i. refl) (record {
      comes = comes;
      last = last;
      acquires = acquires;
      block = same_block n;
      given = ap (cap_granted config.profile m.opcode m.param) (unheld-same c k n m is);
      unwaited = unwaited;
    }) (reaction-performed c k n true m is comes last acquires (same_block n) (rw caps f)) (at_manager-matched is)
