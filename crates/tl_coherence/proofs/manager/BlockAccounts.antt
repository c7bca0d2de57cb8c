-- What one block's service says of the links of its clients.
-- The values of a trace that all else follows from, as one block changes, and where nothing changes to the manager.
use Rattle.std.proofs.Common.{◌≡◌, ℕ, Bool, true, false, not, ◌&&◌, ◌||◌, ◌==◌, if◌then◌else◌, List, [], ◌∷◌, Option}
use Rattle.std.proofs.Common.{Some, None, refl, sym, ◌∙◌, ap, ap₂, arith, inl, inr, ne_eqb}
use Rattle.tl_coherence.proofs
use proofs.Imports.{or-true, cases_eq, MessageA, a_beat_of, Config, ProbeOf, Cap, Trace, on_link, block_at, pending}
use proofs.Imports.{request_of, swapped, some_is, AreApart, IsKept, blocks_of, IsProbed, is_any, End, recorded}
use proofs.Imports.{service_of_block, services, IsAwaited, IsInvariant, Acknowledging, ClientBlock, GrantedOther}
use proofs.Imports.{Granting, Other, Own, View, is_unprobed, ok, Free, GrantSent, GrantTaken, Service, State, Waits}
use proofs.Imports.{view, ManagerRelation, client_in, is_own, service_with, IsFor}
use Rattle.tl_manager.{proofs.pending.Settled.all-settled, proofs.services.Serving.none_of_block}
use Rattle.tl_manager.specs.laws.Pending.{is_acquiring, is_awaited}
use Rattle.tl_manager.specs.laws.Pending as waits
use Rattle.tl_manager.specs.statement.Service as manager
use proofs.queues.{Facts.is_other, Phases.each_phase, Phases.of_phase, Tokens.same_number, Tokens.if-part}

-- ---- services that pass a test

pub any-of : {w : ℕ} (n : ℕ) (test : manager.Service w → Bool) (ss : List (manager.Service w)) (v : manager.Service w)
    → service_of_block n ss ≡ Some v → test v ≡ true → is_any test ss ≡ true
any-of n test [] v e f = absurd cc
any-of n test (s ∷ ss) v e f = go (block_at s.request.address == n) (λ g. any-of n test ss v g f) e
  where
    go : (b : Bool) → (service_of_block n ss ≡ Some v → is_any test ss ≡ true)
        → (if b then Some s else service_of_block n ss) ≡ Some v → (test s || is_any test ss) ≡ true
    go true more g = let here : test s ≡ true = rw (some_is s v g) f in rw here refl
    go false more g = rw (more g) (or-true (test s))

-- a service that passes, and the block that it is of
pub record IsFound {w : ℕ} (test : manager.Service w → Bool) (ss : List (manager.Service w)) : Type 0 where
  pub block : ℕ
  pub service : manager.Service w
  pub serves : service_of_block block ss ≡ Some service
  pub passes : test service ≡ true

pub any-found : {w : ℕ} (test : manager.Service w → Bool) (ss : List (manager.Service w)) → AreApart (blocks_of ss)
    → is_any test ss ≡ true → IsFound test ss
any-found test [] apart e = absurd cc
any-found {w} test (s ∷ ss) apart e = go (test s) refl (λ f. any-found test ss apart.1 f) e
  where
    later : IsFound test ss → IsFound test (s ∷ ss)
    later is = record {
      block = is.block;
      service = is.service;
      serves = elim (cases_eq (block_at s.request.address) is.block) [
        | inl same ↦ absurd (let none : service_of_block is.block ss ≡ None =
            none_of_block is.block ss (rw same at apart.0) in let no : Some is.service ≡ None = sym is.serves ∙ none in
            cc)
        | inr other ↦ rw (ne_eqb (block_at s.request.address) is.block other) is.serves
      ];
      passes = is.passes;
    }

    go : (b : Bool) → test s ≡ b → (is_any test ss ≡ true → IsFound test ss) → (b || is_any test ss) ≡ true
        → IsFound test (s ∷ ss)
    go true f more g = record {
      block = block_at s.request.address;
      service = s;
      serves = rw (same_number (block_at s.request.address)) refl;
      passes = f;
    }
    go false f more g = later (more g)

-- ---- phases

-- where no other request waits, no Probe is under way
settled_unless : ClientBlock → View → Bool
settled_unless p v = is_other v || is_unprobed p.probing

quiet_unless : (p : ClientBlock) (v : View) → ok p v ≡ true → is_other v ≡ false → is_unprobed p.probing ≡ true
unfolding each_phase ok settled_unless
quiet_unless p v well e = rw e at (of_phase settled_unless refl p v well)

-- ---- what is known

abbrev pub is_granted_in : Service → Bool
is_granted_in (GrantSent q d k) = true
is_granted_in (GrantTaken q) = true
is_granted_in _ = false

-- the values of a trace that the others follow from
pub record IsTraced {w : ℕ} {X : Type 0} (request : ℕ → MessageA w) (s : State X) (t : Trace w) : Type 0 where
  pub recorded_is : (c n : ℕ) → recorded c n t ≡ ((s.block n).pair c).recorded
  pub probes : (c n : ℕ) → pending (ProbeOf n) (on_link c t) ≡ not (is_unprobed ((s.block n).pair c).probing)
  pub serving_is : (n : ℕ) → service_of_block n (services t) ≡ service_with (client_in (s.block n).service)
      (s.block n).tracker (request n)
  pub requests : (n : ℕ) → IsFor (s.block n).service n (request n)
  pub asked : (n r source : ℕ) (own : Bool) (k : Cap) → (s.block n).service ≡ Waits r own source k
      → request_of source (on_link r t) ≡ Some (a_beat_of (request n) 0)

-- ---- what one block's service says

-- the service of a block that is in service is the one with its tracker
abbrev pub at_service : {w : ℕ} → ℕ → ℕ → MessageA w → manager.Service w
at_service r tracker m = record { tracker = tracker; link = record { 0 = r }; request = m }

granted_views : (s : Service) (c : ℕ) → is_granted_in s ≡ true → is_other (view s c) ≡ false
granted_views s c e = grind (arith, if-part, is_other)

-- a request is granted exactly where the protocol says so
pub granted-is : {w : ℕ} {X : Type 0} {caching : ℕ → Bool} {config : Config} {request : ℕ → MessageA w} {s : State X}
    {e : End w} → IsInvariant caching s → IsKept config e → IsTraced request s e.trace → (n : ℕ) (v : manager.Service w)
    → service_of_block n (services e.trace) ≡ Some v → waits.is_granted e.trace v ≡ is_granted_in (s.block n).service
granted-is {w} {X} {config} {s} {e} inv kept is n v found = go (s.block n).service refl
  where
    granted : is_granted_in (s.block n).service ≡ true → waits.is_granted e.trace v ≡ true
    granted f =
        let only : (b : Bool) → (b || false) ≡ true → b ≡ true = elim [ true ↦ λ g. refl | false ↦ λ g. absurd cc ] in
        let awaited : is_awaited config n e.trace (Some v) ≡ true = cc (found, kept.steady.awaited n) in
        only (waits.is_granted e.trace v)
        (rw (all-settled config n e.trace (λ c. is.probes c n ∙ ap not (quiet_unless ((s.block n).pair c) (view
        (s.block n).service c) ((inv.blocks n).phases c) (granted_views (s.block n).service c f)))) at awaited)

    waiting : (service : Service) → (s.block n).service ≡ service → IsAwaited service (s.block n).pair
        → is_granted_in service ≡ false → (service ≡ Free → ⊥) → waits.is_granted e.trace v ≡ false
    waiting Free f someone g busy = absurd (busy refl)
    waiting (Waits r own source k) f someone g busy =
        let missing : pending (ProbeOf n) (on_link someone.0 e.trace) ≡ true = is.probes someone.0 n
        ∙ ap not someone.1 in
        let probed : IsProbed someone.0 n e.trace = (kept.steady.accounted.blocks n).probes someone.0 missing in
        rw (some_is probed.service v (sym probed.serves ∙ found)) at probed.unanswered
    waiting service f someone g busy = absurd cc

    go : (service : Service) → (s.block n).service ≡ service → waits.is_granted e.trace v ≡ is_granted_in service
    go Free f = absurd (let none : service_of_block n (services e.trace) ≡ None = is.serving_is n ∙ rw f refl in
        let no : Some v ≡ None = sym found ∙ none in cc)
    go (Waits r own source k) f =
        let someone : IsAwaited (Waits r own source k) (s.block n).pair = rw f at (inv.blocks n).awaited in
        waiting _ f someone refl (λ g. cc)
    go service f = granted (rw f refl)

-- what a service says of the client whose request it is, and of another
acquiring-is : {w : ℕ} (c n tracker : ℕ) (m : MessageA w) (t : Trace w) (service : Service) → IsFor service n m
    → ((v : manager.Service w) → service_with (client_in service) tracker m ≡ Some v
    → waits.is_granted t v ≡ is_granted_in service)
    → is_acquiring c t (service_with (client_in service) tracker m) ≡ is_own (view service c)
acquiring-is c n tracker m t Free for granted = refl
acquiring-is c n tracker m t (Waits r own source k) for granted =
    rw (granted (at_service r tracker m) refl, for.0, swapped r c) (go own (c == r))
  where
    go : (b same : Bool) → (b && (same && true)) ≡ is_own (if b && same then Own else Other k)
    go b same = grind arith
acquiring-is c n tracker m t (GrantSent q d k) for granted =
    let go : (same : Bool) → (true && (same && false)) ≡ is_own (if same then Granting d k else GrantedOther) =
    elim [ true ↦ refl | false ↦ refl ] in
    rw (granted (at_service q tracker m) refl, for.0, swapped q c) (go (c == q))
acquiring-is c n tracker m t (GrantTaken q) for granted =
    let go : (same : Bool) → (true && (same && false)) ≡ is_own (if same then Acknowledging else GrantedOther) =
    elim [ true ↦ refl | false ↦ refl ] in
    rw (granted (at_service q tracker m) refl, for.0, swapped q c) (go (c == q))

pub managed-traced : {w : ℕ} {X : Type 0} {caching : ℕ → Bool} {config : Config} {request : ℕ → MessageA w}
    {s : State X} {e : End w} → IsInvariant caching s
    → IsKept config e → IsTraced request s e.trace → ManagerRelation request s e.trace
managed-traced {w} {X} {caching} {config} {request} {s} {e} inv kept is = record {
  recorded_is = is.recorded_is;
  probes = is.probes;
  acquires = λ c n. (kept.steady.accounted.blocks n).acquires c ∙ ap (is_acquiring c e.trace) (is.serving_is n)
      ∙ acquiring-is c n _ _ e.trace _ (is.requests n) (granted n);
  serving_is = is.serving_is;
}
  where
    granted : (n : ℕ) (v : manager.Service w) → service_with (client_in (s.block n).service) (s.block n).tracker
        (request n) ≡ Some v → waits.is_granted e.trace v ≡ is_granted_in (s.block n).service
    granted n v f = granted-is inv kept is n v (is.serving_is n ∙ f)

-- ---- one block changes

-- what an event shows of the block that it changes, and of all others
pub record IsTracedAt {w : ℕ} {X : Type 0} (n : ℕ) (request after : ℕ → MessageA w) (s u : State X)
    (t v : Trace w) : Type 0 where
  pub other_blocks : (i : ℕ) → (i ≡ n → ⊥) → u.block i ≡ s.block i
  pub other_requests : (i : ℕ) → (i ≡ n → ⊥) → after i ≡ request i
  pub recorded_here : (c : ℕ) → recorded c n v ≡ ((u.block n).pair c).recorded
  pub recorded_else : (c i : ℕ) → (i ≡ n → ⊥) → recorded c i v ≡ recorded c i t
  pub probes_here : (c : ℕ) → pending (ProbeOf n) (on_link c v) ≡ not (is_unprobed ((u.block n).pair c).probing)
  pub probes_else : (c i : ℕ) → (i ≡ n → ⊥) → pending (ProbeOf i) (on_link c v) ≡ pending (ProbeOf i) (on_link c t)
  pub serving_here : service_of_block n (services v) ≡ service_with (client_in (u.block n).service) (u.block n).tracker
      (after n)
  pub serving_else : (i : ℕ) → (i ≡ n → ⊥) → service_of_block i (services v) ≡ service_of_block i (services t)
  pub request_here : IsFor (u.block n).service n (after n)
  pub asked_here : (r source : ℕ) (own : Bool) (k : Cap) → (u.block n).service ≡ Waits r own source k
      → request_of source (on_link r v) ≡ Some (a_beat_of (after n) 0)
  pub asked_else : (i r source : ℕ) (own : Bool) (k : Cap) → (i ≡ n → ⊥) → (s.block i).service ≡ Waits r own source k
      → request_of source (on_link r v) ≡ request_of source (on_link r t)

pub traced-at : {w : ℕ} {X : Type 0} {n : ℕ} {request after : ℕ → MessageA w} {s u : State X} {t v : Trace w}
    → IsTracedAt n request after s u t v → IsTraced request s t → IsTraced after u v
traced-at {w} {X} {n} {s} {u} at is = record {
  recorded_is = λ c i. elim (cases_eq i n) [
    | inl same ↦ rw same (at.recorded_here c)
    | inr other ↦ cc (at.recorded_else c i other, is.recorded_is c i, at.other_blocks i other)
  ];
  probes = λ c i. elim (cases_eq i n) [
    | inl same ↦ rw same (at.probes_here c)
    | inr other ↦ cc (at.probes_else c i other, is.probes c i, at.other_blocks i other)
  ];
  serving_is = λ i. elim (cases_eq i n) [
    | inl same ↦ rw same at.serving_here
    | inr other ↦ cc (at.serving_else i other, is.serving_is i, at.other_blocks i other, at.other_requests i other)
  ];
  requests = λ i. elim (cases_eq i n) [
    | inl same ↦ rw same at.request_here
    | inr other ↦ rw (at.other_blocks i other, at.other_requests i other) (is.requests i)
  ];
  asked = λ i r source own k e. elim (cases_eq i n) [
    | inl same ↦ let here : (u.block n).service ≡ Waits r own source k = rw same at e in
        rw same (at.asked_here r source own k here)
    | inr other ↦
        let before : (s.block i).service ≡ Waits r own source k = cc (at.other_blocks i other, e) in
        cc (at.asked_else i r source own k other before, is.asked i r source own k before, at.other_requests i other)
  ];
}

-- ---- nothing at the manager changes

-- the same service, where a Grant may have been taken
abbrev pub SameService : Service → Service → Type 0
SameService (GrantSent q d k) (GrantTaken r) = r ≡ q
SameService service after = after ≡ service

-- the parts of the blocks that the manager knows of are the same
pub record IsSameToManager {X : Type 0} (s u : State X) : Type 0 where
  pub recorded_same : (c n : ℕ) → ((u.block n).pair c).recorded ≡ ((s.block n).pair c).recorded
  pub quiet_same : (c n : ℕ) → is_unprobed ((u.block n).pair c).probing ≡ is_unprobed ((s.block n).pair c).probing
  pub tracker_same : (n : ℕ) → (u.block n).tracker ≡ (s.block n).tracker
  pub service_same : (n : ℕ) → SameService (s.block n).service (u.block n).service

same_client : (service after : Service) → SameService service after → client_in after ≡ client_in service
same_client service after e = grind arith

same_for : {w : ℕ} (service after : Service) (n : ℕ) (m : MessageA w) → SameService service after → IsFor service n m
    → IsFor after n m
same_for (GrantSent q d k) Free n m e ok = absurd cc
same_for (GrantSent q d k) (Waits r own source j) n m e ok = absurd cc
same_for (GrantSent q d k) after n m e ok = ok
same_for service after n m e ok = rw e ok

same_waits : (service after : Service) (r source : ℕ) (own : Bool) (k : Cap) → SameService service after
    → after ≡ Waits r own source k → service ≡ Waits r own source k
same_waits service after r source own k e f = grind arith

pub traced-same : {w : ℕ} {X : Type 0} {request : ℕ → MessageA w} {s u : State X} {t : Trace w} → IsSameToManager s u
    → IsTraced request s t → IsTraced request u t
traced-same {request} {s} {u} same is = record {
  recorded_is = λ c n. is.recorded_is c n ∙ sym (same.recorded_same c n);
  probes = λ c n. is.probes c n ∙ ap not (sym (same.quiet_same c n));
  serving_is = λ n. is.serving_is n ∙ ap₂ (λ (o : Option ℕ) (i : ℕ). service_with o i (request n))
      (sym (same_client (s.block n).service (u.block n).service (same.service_same n))) (sym (same.tracker_same n));
  requests = λ n. same_for _ _ n _ (same.service_same n) (is.requests n);
  asked = λ n r source own k e. is.asked n r source own k (same_waits (s.block n).service (u.block n).service r source
      own k (same.service_same n) e);
}
