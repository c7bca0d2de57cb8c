-- What the manager knows follows from five things: what it recorded, which ProbeAcks it misses, which service each
-- block has, and which request that is. This is for all of its events alike.
-- The manager's end beside the protocol: all that is kept of it in one, and what follows from one trace and one memory.
-- Clients that pass a test, as the manager finds them and as the protocol does; and which source a request that waits
-- has.
use Rattle.std.proofs.Common.{◌≡◌, ℕ, zero, suc, ◌*◌, ◌<◌, ◌≤◌, Bool, true, false, not, ◌&&◌, ◌||◌, ◌==◌, if◌then◌else◌}
use Rattle.std.proofs.Common.{List, [], ◌∷◌, Option, Some, None, refl, sym, ◌∙◌, ap, arith, length, eqb-true, lt-ltb}
use Rattle.std.{proofs.lemmas.Option.slice_get_past, proofs.Math.Bool.or_comm, specs.Cmp.Derive.one_truth}
use Rattle.tl_coherence.proofs
use proofs.Imports.{same_Some, Channel, MessageA, unfinished, Config, Cap, Trace, comes_in_request, on_link, bytes_from}
use proofs.Imports.{probe_of, is_one_of, some_is, IsKept, IsProbed, is_any, End, cap_probed, is_nobody}
use proofs.Imports.{service_of_block, services, IsInvariant, IsOwnSource, is_busy, is_serving, Acknowledging}
use proofs.Imports.{GrantedOther, Granting, Other, Own, View, is_unprobed, Acquires, Asked, Free, GrantSent, GrantTaken}
use proofs.Imports.{InService, Replied, Service, SourceFree, SourceState, State, Waits, view, is_acknowledging}
use proofs.Imports.{is_granting, is_wanting, some_below, ManagerRelation, client_in, is_own, service_with}
use proofs.Imports.{AccessMessages, probe_beat, IsServedWith, SimulationRelation, is_caching, IsFor}
use proofs.Imports.{ServedSourceRelation, cap_waited, is_granted, is_served, Log, System}
use Rattle.tl_manager.specs.laws.Pending.{is_asking, is_granted_with}
use Rattle.tl_manager.proofs.pending.Sources.{source-pending, sink-pending}
use Rattle.tl_manager.specs.statement.Holders.{clients_where}
use Rattle.tl_manager.proofs.words_of_clients.Clients.{among-where, nobody-is, nobody-where, where-same}
use Rattle.tl_manager.specs.laws.Pending as waits
use Rattle.tl_manager.specs.statement.Service as manager
use proofs.queues.{Facts.own_wants, Tokens.same_number, Phases.and_left, Phases.and_right}
use proofs.protocol.RequestsKept.{some-none}
use proofs.protocol.BothParts.{acquires_of-is, serves_of-is, not-calm, is_of-is}
use proofs.manager.BlockAccounts.{IsTraced, IsSameToManager, SameService, traced-same, any-of, any-found, is_granted_in}
use proofs.manager.BlockAccounts.{at_service, granted-is}

-- ---- sources

-- a source that is served is that of a service that isn't granted, and the other way
asking-served : {w : ℕ} {X : Type 0} {caching : ℕ → Bool} (request : ℕ → MessageA w) {s : State X}
    (c source n tracker : ℕ) (service : Service) → IsInvariant caching s → (s.block n).service ≡ service
    → IsFor service n (request n) → is_granted_in service ≡ false → (r : ℕ) → client_in service ≡ Some r
    → (r == c) ≡ true → ((request n).source == source) ≡ true → is_served c (s.uses c source) s ≡ true
asking-served request c source n tracker Free inv f for ungranted r client same here = absurd cc
asking-served request c source n tracker (GrantSent q d k) inv f for ungranted r client same here = absurd cc
asking-served request c source n tracker (GrantTaken q) inv f for ungranted r client same here = absurd cc
asking-served request {s} c source n tracker (Waits q own src k) inv f for ungranted r client same here = go own refl
  where
    src_is : src ≡ source
    src_is = sym for.1 ∙ eqb-true (request n).source source here

    go : (b : Bool) → own ≡ b → is_served c (s.uses c source) s ≡ true
    go true g =
        let waits_so : (s.block n).service ≡ Waits c true source k = f
        ∙ rw ((same_Some q r client ∙ eqb-true r c same), src_is, g) refl in
        let own_view : view (s.block n).service c ≡ Own = rw (waits_so, same_number c) refl in
        let wants = not-calm _ (own_wants ((s.block n).pair c) (view (s.block n).service c)
        ((inv.blocks n).phases c) own_view) in
        let used = acquires_of-is n _ (inv.named.acquires c source n
        ∙ rw (wants, ← (rw waits_so at (inv.blocks n).own_source), same_number source) refl) in
        rw (used, own_view) refl
    go false g =
        let waits_so : (s.block n).service ≡ Waits c false source k = f
        ∙ rw ((same_Some q r client ∙ eqb-true r c same), src_is, g) refl in
        rw (serves_of-is n (s.uses c source) (cc (inv.named.serves c source n, same_number c, same_number source))) refl

-- the block whose service a served use is of
pub record IsServing {X : Type 0} (c source : ℕ) (s : State X) : Type 0 where
  pub block : ℕ
  pub own : Bool
  pub cap : Cap
  pub waits_so : (s.block block).service ≡ Waits c own source cap

served-waits : {X : Type 0} {caching : ℕ → Bool} {s : State X} (c source : ℕ) (u : SourceState) → IsInvariant caching s
    → s.uses c source ≡ u → is_served c u s ≡ true → IsServing c source s
served-waits c source SourceFree inv f e = absurd cc
served-waits c source Asked inv f e = absurd cc
served-waits c source Replied inv f e = absurd cc
served-waits {X} {s} c source (InService n) inv f e =
    go (s.block n).service refl (sym (inv.named.serves c source n) ∙ rw (f, same_number n) refl)
  where
    go : (service : Service) → (s.block n).service ≡ service → is_serving c source service ≡ true → IsServing c source s
    go (Waits r false src k) g h =
        let client = eqb-true c r (and_left (c == r) (source == src) h) in
        let number = eqb-true source src (and_right (c == r) (source == src) h) in
        record { block = n; own = false; cap = k; waits_so = g ∙ rw (client, number) refl }
    go service g h = absurd cc
served-waits {X} {s} c source (Acquires n) inv f e = go (s.block n).service refl e
  where
    only : (b : Bool) (k : Cap) → is_own (if b then Own else Other k) ≡ true → b ≡ true
    only b k e = grind arith

    no_grant : (b : Bool) (u v : View) → is_own u ≡ false → is_own v ≡ false → is_own (if b then u else v) ≡ false
    no_grant b u v e f = grind arith

    named : (source == (s.block n).source c) ≡ true
    named = and_right (is_wanting ((s.block n).pair c).acquiring) (source == (s.block n).source c)
        (sym (inv.named.acquires c source n) ∙ rw (f, same_number n) refl)

    go : (service : Service) → (s.block n).service ≡ service → is_own (view (s.block n).service c) ≡ true
        → IsServing c source s
    go Free g h = absurd (let no : false ≡ true = rw g at h in cc)
    go (GrantSent q d k) g h = absurd (let one : is_own (view (GrantSent q d k) c) ≡ true = rw g at h in let none =
        no_grant (c == q) (Granting d k) GrantedOther refl refl in let no : false ≡ true = sym none ∙ one in cc)
    go (GrantTaken q) g h = absurd (let one : is_own (view (GrantTaken q) c) ≡ true = rw g at h in let none =
        no_grant (c == q) Acknowledging GrantedOther refl refl in let no : false ≡ true = sym none ∙ one in cc)
    go (Waits r own src k) g h =
        let both = only (own && (c == r)) k (rw g at h) in
        let mine = and_left own (c == r) both in
        let client = eqb-true c r (and_right own (c == r) both) in
        let sourced : IsOwnSource (Waits r true src k) (s.block n).source = rw (g, mine) at (inv.blocks n).own_source in
        let number : source ≡ src = cc (eqb-true source ((s.block n).source c) named, client, sourced) in
        record { block = n; own = true; cap = k; waits_so = g ∙ rw (client, number, mine) refl }

sources-traced : {w : ℕ} {X : Type 0} {caching : ℕ → Bool} {config : Config} {request : ℕ → MessageA w} {s : State X}
    {e : End w} → IsInvariant caching s → IsKept config e → IsTraced request s e.trace
    → (c source : ℕ) → is_any (is_asking c source e.trace) (services e.trace) ≡ is_served c (s.uses c source) s
sources-traced {w} {X} {caching} {config} {request} {s} {e} inv kept is c source = one_truth _ _ asking serving_it
  where
    t : Trace w
    t = e.trace

    at_block : (n : ℕ) (v : manager.Service w) (service : Service) → (s.block n).service ≡ service
        → service_with (client_in service) (s.block n).tracker (request n) ≡ Some v → is_asking c source t v ≡ true
        → waits.is_granted t v ≡ is_granted_in service → is_served c (s.uses c source) s ≡ true
    at_block n v Free f found asks granted = absurd (let no : None ≡ Some v = found in cc)
    at_block n v (Waits r own src k) f found asks granted =
        let v_is = some_is (at_service r (s.block n).tracker (request n)) v found in
        let here : is_asking c source t (at_service r (s.block n).tracker (request n)) ≡ true = cc (v_is, asks) in
        asking-served request c source n (s.block n).tracker _ inv f (rw f at (is.requests n)) refl r refl
        (and_left (r == c) _ here) (and_left ((request n).source == source) _ (and_right (r == c) _ here))
    at_block n v (GrantSent q d k) f found asks granted = absurd (ungranted v asks granted)
      where
        ungranted : (u : manager.Service w) → is_asking c source t u ≡ true → waits.is_granted t u ≡ true → ⊥
        ungranted u g h =
            let none = and_right (u.request.source == source) _ (and_right (u.link.0 == c) _ g) in
            let no : false ≡ true = rw h at none in
            cc
    at_block n v (GrantTaken q) f found asks granted = absurd (ungranted v asks granted)
      where
        ungranted : (u : manager.Service w) → is_asking c source t u ≡ true → waits.is_granted t u ≡ true → ⊥
        ungranted u g h =
            let none = and_right (u.request.source == source) _ (and_right (u.link.0 == c) _ g) in
            let no : false ≡ true = rw h at none in
            cc

    asking : is_any (is_asking c source t) (services t) ≡ true → is_served c (s.uses c source) s ≡ true
    asking any =
        let one = any-found (is_asking c source t) _ kept.blocks_apart any in
        at_block one.block _ _ refl (sym (is.serving_is one.block) ∙ one.serves) one.passes
        (granted-is inv kept is one.block one.service one.serves)

    serving_it : is_served c (s.uses c source) s ≡ true → is_any (is_asking c source t) (services t) ≡ true
    serving_it served =
        let one = served-waits c source _ inv refl served in
        let v : manager.Service w = at_service c (s.block one.block).tracker (request one.block) in
        let found : service_of_block one.block (services t) ≡ Some v = is.serving_is one.block ∙ rw one.waits_so refl in
        let for : IsFor (Waits c one.own source one.cap) one.block (request one.block) =
        rw one.waits_so at (is.requests one.block) in
        let granted : waits.is_granted t v ≡ false = granted-is inv kept is one.block v found ∙ rw one.waits_so refl in
        any-of one.block (is_asking c source t) _ v found (rw (same_number c, for.1, same_number source, granted) refl)

-- ---- sinks

abbrev is_grant_to : ℕ → Service → Bool
is_grant_to c service = is_granting (view service c) || is_acknowledging (view service c)

-- a Grant to the client
granted-to : (c : ℕ) (service : Service) → is_grant_to c service ≡ true → (is_granted_in service ≡ true)
    × (client_in service ≡ Some c)
granted-to c Free e = absurd cc
granted-to c (Waits r own source k) e =
    let never : (b : Bool) → (is_granting (if b then Own else Other k) || is_acknowledging (if b then Own else Other k))
    ≡ true → ⊥ = elim [ true ↦ λ g. cc | false ↦ λ g. cc ] in
    absurd (never (own && (c == r)) e)
granted-to c (GrantSent q d k) e =
    let own : (b : Bool) → (is_granting (if b then Granting d k else GrantedOther) || is_acknowledging (if b then
    Granting d k else GrantedOther)) ≡ true → b ≡ true = elim [ true ↦ λ g. refl | false ↦ λ g. absurd cc ] in
    let same = eqb-true c q (own (c == q) e) in (refl, rw same refl)
granted-to c (GrantTaken q) e =
    let own : (b : Bool) → (is_granting (if b then Acknowledging else GrantedOther) || is_acknowledging (if b then
    Acknowledging else GrantedOther)) ≡ true → b ≡ true = elim [ true ↦ λ g. refl | false ↦ λ g. absurd cc ] in
    let same = eqb-true c q (own (c == q) e) in (refl, rw same refl)

to-granted : (c : ℕ) (service : Service) → is_granted_in service ≡ true → client_in service ≡ Some c
    → is_grant_to c service ≡ true
to-granted c (GrantSent q d k) e f =
    let same_Some : (i j : ℕ) → Some i ≡ Some j → i ≡ j = λ i j g. cc in
    let same : q ≡ c = same_Some q c f in rw (same, same_number c) refl
to-granted c (GrantTaken q) e f = let same : q ≡ c = same_Some q c f in rw (same, same_number c) refl
to-granted c service e f = absurd cc

busy-granted : (service : Service) → is_granted_in service ≡ true → is_busy service ≡ true
busy-granted service e = grind arith

sinks-traced : {w : ℕ} {X : Type 0} {caching : ℕ → Bool} {config : Config} {request : ℕ → MessageA w} {s : State X}
    {e : End w} → IsInvariant caching s → IsKept config e → IsTraced request s e.trace
    → (c sink : ℕ) → is_any (is_granted_with c sink e.trace) (services e.trace) ≡ is_granted c (s.tracked sink) s
sinks-traced {w} {request} {s} {e} inv kept is c sink = one_truth _ _ granted_with (with_granted (s.tracked sink) refl)
  where
    client_of : (o : Option ℕ) (tracker : ℕ) (m : MessageA w) (v : manager.Service w)
        → service_with o tracker m ≡ Some v → (o ≡ Some v.link.0) × (v.tracker ≡ tracker)
    client_of None tracker m v f = absurd cc
    client_of (Some r) tracker m v f = let v_is = some_is (at_service r tracker m) v f in
        (ap (λ u. Some u.link.0) v_is, sym (ap (λ u. u.tracker) v_is))

    granted_with : is_any (is_granted_with c sink e.trace) (services e.trace) ≡ true → is_granted c (s.tracked sink) s
        ≡ true
    granted_with any =
        let one = any-found (is_granted_with c sink e.trace) _ kept.blocks_apart any in
        let n : ℕ = one.block in
        let v : manager.Service w = one.service in
        let yes = and_right (v.tracker == sink) _ (and_right (v.link.0 == c) _ one.passes) in
        let granted : is_granted_in (s.block n).service ≡ true = sym (granted-is inv kept is n v one.serves) ∙ yes in
        let of = client_of _ _ _ v (sym (is.serving_is n) ∙ one.serves) in
        let tracker_is : sink ≡ (s.block n).tracker = sym (eqb-true v.tracker sink
        (and_left (v.tracker == sink) _ (and_right (v.link.0 == c) _ one.passes))) ∙ of.1 in
        ap (λ o. is_granted c o s) (is_of-is n (s.tracked sink) (inv.named.trackers sink n
        ∙ rw (busy-granted (s.block n).service granted, ← tracker_is, same_number sink) refl)) ∙ to-granted c
        (s.block n).service granted (of.0 ∙ ap Some (eqb-true v.link.0 c (and_left (v.link.0 == c) _ one.passes)))

    with_granted : (o : Option ℕ) → s.tracked sink ≡ o → is_granted c o s ≡ true
        → is_any (is_granted_with c sink e.trace) (services e.trace) ≡ true
    with_granted None f g = absurd cc
    with_granted (Some n) f g =
        let to = granted-to c _ g in
        let v : manager.Service w = at_service c (s.block n).tracker (request n) in
        let found : service_of_block n (services e.trace) ≡ Some v = cc (is.serving_is n, to.1) in
        let number = eqb-true sink (s.block n).tracker (and_right (is_busy (s.block n).service)
        (sink == (s.block n).tracker) (sym (inv.named.trackers sink n) ∙ rw (f, same_number n) refl)) in
        any-of n (is_granted_with c sink e.trace) _ v found
        (rw (same_number c, granted-is inv kept is n v found ∙ to.0, ← number, same_number sink) refl)

-- ---- all of it

cap-of : {w : ℕ} (service : Service) (n : ℕ) (m : MessageA w) (k : Cap) → IsFor service n m
    → is_granted_in service ≡ false → (service ≡ Free → ⊥)
    → cap_probed m.opcode m.param ≡ Some k → k ≡ cap_waited service
cap-of Free n m k for ungranted busy e = absurd (busy refl)
cap-of (Waits r own source j) n m k for ungranted busy e = same_Some k j (sym e ∙ for.3)
cap-of service n m k for ungranted busy e = absurd cc

request-with : {w : ℕ} (service : Service) (tracker : ℕ) (m : MessageA w) (v : manager.Service w)
    → service_with (client_in service) tracker m ≡ Some v → (v.request ≡ m) × (service ≡ Free → ⊥)
request-with Free tracker m v f = absurd (let no : None ≡ Some v = f in cc)
request-with {w} (Waits r own source k) tracker m v f =
    (sym (ap (λ u. u.request) (some_is (at_service r tracker m) v f)), λ e. cc)
request-with {w} (GrantSent q d k) tracker m v f =
    (sym (ap (λ u. u.request) (some_is (at_service q tracker m) v f)), λ e. cc)
request-with {w} (GrantTaken q) tracker m v f =
    (sym (ap (λ u. u.request) (some_is (at_service q tracker m) v f)), λ e. cc)

probes-traced : {w : ℕ} {X : Type 0} {caching : ℕ → Bool} {config : Config} {request : ℕ → MessageA w} {s : State X}
    {e : End w} → IsInvariant caching s → IsKept config e → IsTraced request s e.trace
    → (c n : ℕ) → is_unprobed ((s.block n).pair c).probing ≡ false
    → probe_of n (on_link c e.trace) ≡ Some (probe_beat n (cap_waited (s.block n).service))
probes-traced {request} {s} {e} inv kept is c n sent =
    let probed : IsProbed c n e.trace = (kept.steady.accounted.blocks n).probes c (is.probes c n ∙ ap not sent) in
    let of = request-with _ _ _ _ (sym (is.serving_is n) ∙ probed.serves) in
    let caps : cap_probed (request n).opcode (request n).param ≡ Some probed.cap = rw (← of.0) probed.caps in
    probed.probe ∙ ap (λ k. Some (probe_beat n k)) (cap-of (s.block n).service n (request n) probed.cap
    (is.requests n) (sym (granted-is inv kept is n probed.service probed.serves) ∙ probed.unanswered) of.1 caps)

pub are_served-traced : {w : ℕ} {X : Type 0} {caching : ℕ → Bool} {config : Config} {request : ℕ → MessageA w}
    {s : State X} {e : End w} → IsInvariant caching s
    → IsKept config e → IsTraced request s e.trace → ServedSourceRelation request s e.trace
are_served-traced {w} {X} {caching} {config} {request} {s} {e} inv kept is = record {
  sources = λ c source. let fact =
      or_comm (comes_in_request source (unfinished Channel.A (on_link c e.trace))) (is_served c (s.uses c source) s) in
      cc (source-pending c source e.trace kept.steady.accounted, sources-traced inv kept is c source);
  sinks = λ c sink. sink-pending c sink e.trace kept.sinks ∙ sinks-traced inv kept is c sink;
  requests = is.requests;
  asked = is.asked;
  probes = probes-traced inv kept is;
}

-- the other way
pub traced-known : {w : ℕ} {X : Type 0} {request : ℕ → MessageA w} {s : State X} {t : Trace w}
    → ManagerRelation request s t → ServedSourceRelation request s t → IsTraced request s t
traced-known managed served = record {
  recorded_is = managed.recorded_is;
  probes = managed.probes;
  serving_is = managed.serving_is;
  requests = served.requests;
  asked = served.asked;
}

-- all that is kept of the manager's end
pub record IsAtManager {w : ℕ} (config : Config) (mail : AccessMessages w) (request : ℕ → MessageA w)
    (s : State (List ℕ)) (e : End w) : Type 0 where
  pub traced : IsTraced request s e.trace
  pub served_with : (n : ℕ) → IsServedWith mail (s.block n).service (request n)
  pub manager_kept : IsKept config e
  pub memory : (n : ℕ) → bytes_from e.memory (64 * n) 64 ≡ (s.block n).memory
  pub all_live : e.closed ≡ []

pub at_manager-matched : {w : ℕ} {config : Config} {log : Log w} {mail : AccessMessages w} {request : ℕ → MessageA w}
    {s : State (List ℕ)} {sys : System w}
    → SimulationRelation config log mail request s sys → IsAtManager config mail request s sys.manager
at_manager-matched is = record {
  traced = traced-known is.managed is.served;
  served_with = is.served_with;
  manager_kept = is.manager_kept;
  memory = is.memory;
  all_live = is.all_live;
}

-- ---- events that the manager doesn't see

same_with : {w : ℕ} (mail : AccessMessages w) (service after : Service) (m : MessageA w) → SameService service after
    → IsServedWith mail service m → IsServedWith mail after m
same_with mail (GrantSent q d k) (Waits r own source j) m e ok = absurd cc
same_with mail (GrantSent q d k) after m e ok = tt
same_with mail service after m e ok = rw e ok

-- what the manager's end knows stays, where the blocks are the same to it
pub at_manager-same : {w : ℕ} {config : Config} {mail : AccessMessages w} {request : ℕ → MessageA w}
    {s u : State (List ℕ)} {e : End w} → IsSameToManager s u → ((n : ℕ) → (u.block n).memory ≡ (s.block n).memory)
    → IsAtManager config mail request s e → IsAtManager config mail request u e
at_manager-same {mail} {request} {s} {u} same memory is = grind (arith, traced-same, same_with)

-- ---- clients that pass a test

pub some-found : (n : ℕ) (test : ℕ → Bool) → some_below n test ≡ true → (i : ℕ) × (i < n) × (test i ≡ true)
unfolding some_below
some-found zero test e = absurd cc
some-found (suc n) test e = go (test n) refl e (λ f. some-found n test f)
  where
    go : (b : Bool) → test n ≡ b → (b || some_below n test) ≡ true
        → (some_below n test ≡ true → (i : ℕ) × (i < n) × (test i ≡ true)) → (i : ℕ) × (i < suc n) × (test i ≡ true)
    go b e f g = grind arith

-- nobody passes, as the manager finds them, where none does below the number of clients
nobody-some : (config : Config) (test : ℕ → Bool)
    → is_nobody (clients_where config test) ≡ not (some_below (length config.clients.items) test)
nobody-some config test = go (some_below (length config.clients.items) test) refl
    (is_nobody (clients_where config test)) refl
  where
    go : (b : Bool) → some_below (length config.clients.items) test ≡ b → (x : Bool)
        → is_nobody (clients_where config test) ≡ x → x ≡ not b
    go true e true f =
        let one = some-found _ test e in
        let among : is_one_of one.0 (clients_where config test) ≡ true =
        among-where config test one.0 ∙ rw (lt-ltb one.0 (length config.clients.items) one.1, one.2) refl in
        let none = nobody-is _ f one.0 in
        absurd cc
    go true e false f = refl
    go false e x f = sym f ∙ (nobody-where config test).1 (some-none (length config.clients.items) test e)

-- the clients that the manager finds with a test that agrees
pub nobody-same : (config : Config) (f g : ℕ → Bool) → ((d : ℕ) → f d ≡ g d)
    → is_nobody (clients_where config f) ≡ not (some_below (length config.clients.items) g)
nobody-same config f g same = ap is_nobody (where-same 0 (length config.clients.items) f g same) ∙ nobody-some config g

pub some-clients : (clients : List ℕ) → is_nobody clients ≡ false → (d : ℕ) × (ds : List ℕ) × (clients ≡ d ∷ ds)
some-clients clients e = grind arith

pub no-clients : (clients : List ℕ) → is_nobody clients ≡ true → clients ≡ []
no-clients clients e = grind arith

-- who isn't a client keeps no copies
pub plain-past : (config : Config) (d : ℕ) → length config.clients.items ≤ d → is_caching config d ≡ false
plain-past config d past = rw (slice_get_past config.clients.items d past) refl

-- ---- the source of a request that waits

pub waits-used : {X : Type 0} {caching : ℕ → Bool} {s : State X} (n r source : ℕ) (own : Bool) (k : Cap)
    → IsInvariant caching s → (s.block n).service ≡ Waits r own source k
    → s.uses r source ≡ (if own then Acquires n else InService n)
waits-used {s} n r source true k inv e =
    let sourced : IsOwnSource (Waits r true source k) (s.block n).source = rw e at (inv.blocks n).own_source in
    let wants = not-calm _ (own_wants ((s.block n).pair r) (view (s.block n).service r)
    ((inv.blocks n).phases r) (rw (e, same_number r) refl)) in
    acquires_of-is n _ (inv.named.acquires r source n ∙ rw (wants, ← sourced, same_number source) refl)
waits-used {s} n r source false k inv e =
    serves_of-is n _ (inv.named.serves r source n ∙ rw (e, same_number r, same_number source) refl)
