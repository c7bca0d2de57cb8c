-- An access is performed at a moment at which no link holds what excludes it.
-- An Acquire that is alone: its client holds the block until it is granted what it asked for, and then that, whatever
-- message is taken.
use Rattle.std.proofs.Common.{◌≡◌, ℕ, Bool, true, false, ◌&&◌, ◌==◌, if◌then◌else◌, List, [], ◌∷◌, Option, Some, None}
use Rattle.std.proofs.Common.{refl, sym, ◌∙◌, ap, ap₂, subst, arith, ◌⊎◌, inl, inr}
use Rattle.tl_coherence.proofs
use proofs.Imports.{cases_eq, BeatA, Link, Channel, Message, MessageA, a_beat_of, Config, Cap, Grow, Report, Perm}
use proofs.Imports.{Profile, cap_right, on_link, AccessResult, effect, block_at, request_of, is_free, needs, Op, Event}
use proofs.Imports.{Deliver, Outcome, IsInvariant, Grant, Kind, Packet, Probe, Request, set, set_at, AcquireOpen}
use proofs.Imports.{AcquirePhase, ClientBlock, NoAcquire, Other, Own, cap_fits, after_grant_sent, after_probe}
use proofs.Imports.{after_report, Acquires, Asked, Block, Free, GrantSent, GrantTaken, InService, Replied, Service}
use proofs.Imports.{SourceFree, SourceState, State, Waits, granted_pair, on, packet, probe_taken, served_pair, view}
use proofs.Imports.{is_sent, AbstractState, kind_taken, taken_by_client, IsAccess, IsOpened, AccessMessages}
use proofs.Imports.{IsGivenAsked, MonitorRelations, SimulationRelation, gives_asked, grown_to, trace_of, IsGiven, Log}
use proofs.Imports.{system_after, Open, Requests, moved, with_memory, accesses_answered, one_memory_after, stepped}
use Rattle.tl_coherence.{specs.statement.Log.IsLog, specs.statement.PerformedFree.PerformedFree}
use proofs.memory.Beside.{IsElsewhere, done_at, open-here, performing-one}
use proofs.protocol.{Capacities.source_of_acquire, GrantedAll.owns_ask, GrantedAll.serves_another}
use proofs.protocol.HeadOfD.{IsGrantDue, grant-due, true-taken}
use proofs.protocol.BothParts.{not-sent, taken-unseen, granted-unseen, first-answer, first-shown}
use proofs.client.{ClientEnd.is_access, Waiting.AreGiven}
use proofs.links.{Granting.held_granted, FromInvariant.matched-given}
use proofs.queues.{Facts.is_other, Phases.fits_cap}
use proofs.queues.Tokens.{same_number, set-each, set-other, set_at-same}
use proofs.simulation.SizedAfter.{each-set_at, first-asked}
use proofs.rank.RankParts.{serving-use}
use proofs.bound.Settling.{given-before}
use proofs.deliveries.Matching.{shadow}
use proofs.flow.{FlowTraces.trace-flows, Flows.flowed, Renewed.IsSettledFor}
use proofs.flow.Windowed.{asked_flow, free-now, renewed-followed, same_first}
use proofs.theorem.Continuing.{answering-delivered}

-- the answer of what is open
abbrev answer_in : {w : ℕ} → Option (Open w) → Option AccessResult
answer_in None = None
answer_in (Some o) = o.answer

-- what is open has an answer or has none
unanswered : {w : ℕ} (o : Option (Open w)) (i j : Op w) (r : AccessResult)
    → o ≡ Some (record { asked = i; answer = None }) → o ≡ Some (record { asked = j; answer = Some r }) → ⊥
unanswered o i j r e f = let same : None ≡ Some r = ap answer_in (sym e ∙ f) in cc

-- one that is open with an answer is answered
replied : {w : ℕ} (c source : ℕ) (mail : AccessMessages w) (s : State (List ℕ)) (u : SourceState)
    (opened : Option (Open w)) (m : Message w) (r : AccessResult) → IsOpened c source mail s u opened
    → opened ≡ Some (record { asked = Op.Access m; answer = Some r }) → u ≡ Replied
replied c source mail s u opened m r e f = grind (arith, unanswered)

-- one that is open without an answer isn't
unreplied : {w : ℕ} (c source : ℕ) (mail : AccessMessages w) (s : State (List ℕ)) (u : SourceState)
    (opened : Option (Open w)) (m : Message w) → IsOpened c source mail s u opened
    → opened ≡ Some (record { asked = Op.Access m; answer = None }) → u ≡ Replied → ⊥
unreplied c source mail s u opened m e f g = grind (arith, unanswered)

module _ {w : ℕ} {config : Config} (log : Log w) (link : Link) (ch : Channel) (o : Outcome w)
    (given : IsGiven config ((Deliver link ch, o) ∷ log)) where
  abbrev event : Event w
  event = Deliver link ch

  abbrev after : Log w
  after = (event, o) ∷ log

  abbrev h : AbstractState w
  h = shadow config log

  abbrev h' : AbstractState w
  h' = shadow config after

  abbrev accesses : List (ℕ × ℕ)
  accesses = accesses_answered (stepped config event (system_after config log)).handed

  is : SimulationRelation config log h.mail h.request h.state (system_after config log)
  is = matched-given _ log (given-before config (event, o) log given)

  is' : SimulationRelation config after h'.mail h'.request h'.state (system_after config after)
  is' = matched-given _ after given

  values : MonitorRelations after h'.mail h'.state (system_after config after)
  values = flowed config after given.width given.typed given.is_log

  -- the machine after the one access is performed
  machine_after : (q source : ℕ) → accesses ≡ (q, source) ∷ []
      → (access : IsAccess source (h.mail.request q source) None
      ((one_memory_after config log).opened q Requests source))
      → moved event (stepped config event (system_after config log)).outcome (one_memory_after config log)
      ≡ one_memory_after config log
      → one_memory_after config after ≡ done_at q source (Message.A access.0) (one_memory_after config log)
  unfolding one_memory_after IsLog
  machine_after q source one access still = grind (arith, performing-one)

  free-after : (q source : ℕ) → accesses ≡ (q, source) ∷ []
      → (access : IsAccess source (h.mail.request q source) None
      ((one_memory_after config log).opened q Requests source))
      → moved event (stepped config event (system_after config log)).outcome (one_memory_after config log)
      ≡ one_memory_after config log → (x : BeatA w) → request_of source (on_link q (trace_of after)) ≡ Some x → (n : ℕ)
      → is_free n None (needs x.opcode) (block_at x.address) (trace_of after) ≡ true
  unfolding shadow system_after
  free-after q source one access still x asks n =
      let answer : AccessResult = (effect (Message.A access.0) (one_memory_after config log).memory).1 in
      let opened = ap (λ m. m.opened q Requests source) (machine_after q source one access still) ∙ open-here q
      Requests source (Some (record { asked = Op.Access (Message.A access.0); answer = Some answer })) (with_memory
      (effect (Message.A access.0) (one_memory_after config log).memory).0 (one_memory_after config log)) in
      let used : h'.state.uses q source ≡ Replied = replied q source h'.mail h'.state _ _ _ answer
      (is'.beside.requests q source) opened in
      let free : (m : MessageA w) → h'.mail.request q source ≡ Message.A m → IsSettledFor m h'.state
      → is_free n None (needs x.opcode) (block_at x.address) (trace_of after) ≡ true = λ m request settled. subst
      (λ z. is_free n None (needs z.opcode) (block_at z.address) (trace_of after) ≡ true)
      (same_first x (a_beat_of m 0) (sym asks ∙ ap (request_of source) (trace-flows q after)
      ∙ asked_flow config after h' (system_after config after) is' values q source m used request))
      (free-now config after h' (system_after config after) is' values q source m used request settled n) in
      elim (renewed-followed config log event h given.width is q source used) [
        | inl old ↦ absurd (unreplied q source h.mail h.state (h.state.uses q source)
            ((one_memory_after config log).opened q Requests source) (Message.A access.0) (is.beside.requests q source)
            access.2 old.0)
        | inr new ↦ free new.0 new.1 new.2
      ]

pub performed_free : {w : ℕ} → PerformedFree w
performed_free {w} config log link ch o given c source rest x answers asks =
    let found : (q s : ℕ) → accesses log link ch o given ≡ (q, s) ∷ []
    → IsAccess s ((shadow config log).mail.request q s) None ((one_memory_after config log).opened q Requests s)
    → moved (Deliver link ch) (stepped config (Deliver link ch) (system_after config log)).outcome
    (one_memory_after config log) ≡ one_memory_after config log → (◌≡◌ {A = ℕ × ℕ} (q, s) (c, source)) × (rest ≡ [])
    → (rest ≡ []) × ((n : ℕ) → is_free n None (needs x.opcode) (block_at x.address)
    (trace_of ((Deliver link ch, o) ∷ log)) ≡ true) =
    λ q s one access still same. (
      same.1,
      λ n. free-after log link ch o given q s one access still x
          (ap (λ a. request_of a.1 (on_link a.0 (trace_of ((Deliver link ch, o) ∷ log)))) same.0 ∙ asks) n,
    ) in
    elim (answering-delivered config log link ch (shadow config log) given.width (is log link ch o given)) [
      | inl none ↦ absurd (cc)
      | inr one ↦ found one.0 one.1 one.2 one.3 one.4 ((cc, cc))
    ]

-- what may be held by one who wanted this, and of whom nothing else was asked
abbrev pub grown : Profile → AcquirePhase → Perm → Bool
grown p NoAcquire held = false
grown p (AcquireOpen whole g) held = grown_to p g held

-- what an Acquire has brought so far, by the use of its source: it is still wanted, or what it was granted is held
abbrev pub Brings : Profile → ℕ → AcquirePhase → SourceState → ClientBlock → Type 0
Brings p n a SourceFree x = grown p a x.held ≡ true
Brings p n a (Acquires m) x = (m ≡ n) × (x.acquiring ≡ a)
Brings p n a _ x = ⊥

-- client c's Acquire of block n with this source is alone: no other source is in use
pub record IsLone (p : Profile) (c n source : ℕ) (a : AcquirePhase) (s : State (List ℕ)) : Type 0 where
  pub others : (d i : ℕ) → IsElsewhere c source d i → s.uses d i ≡ SourceFree
  pub brings : Brings p n a (s.uses c source) ((s.block n).pair c)

-- ---- what is held and wanted stays

abbrev IsSteady : ClientBlock → ClientBlock → Type 0
IsSteady x y = (y.held ≡ x.held) × (y.acquiring ≡ x.acquiring)

brings_steady : (p : Profile) (n : ℕ) (a : AcquirePhase) (u v : SourceState) (x y : ClientBlock) → v ≡ u → IsSteady x y
    → Brings p n a u x → Brings p n a v y
brings_steady p n a u v x y e f g = grind (arith, grown)

steady_at : (m : ℕ) (b : Block (List ℕ)) (block : ℕ → Block (List ℕ)) (i d : ℕ)
    → (i ≡ m → IsSteady ((block m).pair d) (b.pair d)) → IsSteady ((block i).pair d) ((set m b block i).pair d)
steady_at m b block i d same = grind (arith, cases_eq)

steady_pair : (d : ℕ) (x : ClientBlock) (pair : ℕ → ClientBlock) → IsSteady (pair d) x → (j : ℕ)
    → IsSteady (pair j) (set d x pair j)
steady_pair d x pair same j = set-each (λ i y. IsSteady (pair i) y) d x pair same (λ i ne. (refl, refl)) j

steady_served : (r : ℕ) (own : Bool) (k : Cap) (pair : ℕ → ClientBlock) (d : ℕ)
    → IsSteady (pair d) (served_pair r own k pair d)
steady_served r own k pair d = go (own && (d == r))
  where
    go : (b : Bool)
        → IsSteady (pair d) (if b then pair d else record (pair d) { probing = (served_pair r false k pair d).probing })
    go true = (refl, refl)
    go false = (refl, refl)

steady_granted : (d q : ℕ) (r : Report) (k : Cap) (pair : ℕ → ClientBlock) (j : ℕ)
    → IsSteady (pair j) (granted_pair d q r k pair j)
steady_granted d q r k pair j =
    let told : ℕ → ClientBlock = set d (after_report r (pair d)) pair in
    let first = steady_pair d _ pair (refl, refl) q in
    let second = steady_pair q _ told (sym first.0, sym first.1) j in
    let third = steady_pair d _ pair (refl, refl) j in
    (second.0 ∙ third.0, second.1 ∙ third.1)

-- ---- what a Grant brings

grows : (p : Profile) (whole : Bool) (g : Grow) (k : Cap) → cap_fits whole g k ≡ true
    → gives_asked p (AcquireOpen whole g) k ≡ true → grown_to p g (cap_right k) ≡ true
grows p whole g k e f = grind arith

brings_granted : (p : Profile) (n : ℕ) (a : AcquirePhase) (u : SourceState) (x : ClientBlock) (q : Perm)
    → u ≡ SourceFree → x.held ≡ q → grown p a q ≡ true → Brings p n a u x
brings_granted p n a u x q e f is = rw e (ap (grown p a) f ∙ is)

module _ (p : Profile) (c n source : ℕ) (a : AcquirePhase) where
  lone_steady : {s : State (List ℕ)} (s' : State (List ℕ)) → ((d i : ℕ) → s'.uses d i ≡ s.uses d i)
      → IsSteady ((s.block n).pair c) ((s'.block n).pair c) → IsLone p c n source a s → IsLone p c n source a s'
  lone_steady {s} s' uses same is = record {
    others = λ d i else_. uses d i ∙ is.others d i else_;
    brings = brings_steady p n a _ _ _ _ (uses c source) same is.brings;
  }

  -- ---- which sources are in use

  abbrev IsOwn : State (List ℕ) → ℕ → ℕ → Type 0
  IsOwn s d i = (d ≡ c) × (i ≡ source) × (s.uses d i ≡ Acquires n) × (((s.block n).pair c).acquiring ≡ a)

  no_access : {s : State (List ℕ)} (d i : ℕ) (u : SourceState) → IsLone p c n source a s → s.uses d i ≡ u
      → is_access u ≡ true → ⊥
  no_access {s} d i u is e access = grind arith

  own_acquire : {s : State (List ℕ)} (d i m : ℕ) → IsLone p c n source a s → s.uses d i ≡ Acquires m
      → IsOwn s d i × (m ≡ n)
  own_acquire {s} d i m is e = grind arith

  -- its client isn't probed
  unprobed : {caching : ℕ → Bool} {s : State (List ℕ)} → IsInvariant caching s → IsLone p c n source a s
      → is_sent ((s.block n).pair c).probing ≡ true → ⊥
  unprobed {caching} {s} inv is sent = go (s.block n).service refl (serves_another ((s.block n).pair c)
      (view (s.block n).service c) ((inv.blocks n).phases c) (not-sent ((s.block n).pair c).probing sent))
    where
      go : (service : Service) → (s.block n).service ≡ service → is_other (view service c) ≡ true → ⊥
      go Free e other = absurd cc
      go (GrantSent q d k) e other = granted-unseen (c == q) d k other
      go (GrantTaken q) e other = taken-unseen (c == q) other
      go (Waits r false i k) e other = no_access r i _ is (serving-use n r i k inv e) refl
      go (Waits r true i k) e other =
          let never : (b : Bool) → b ≡ true → is_other (if b then Own else Other k) ≡ true → ⊥ =
          elim [ true ↦ λ e f. absurd cc | false ↦ λ e f. absurd cc ] in
          let own : view (s.block n).service r ≡ Own = rw (e, same_number r) refl in
          let mine = own_acquire r _ n is (source_of_acquire r n inv
          (owns_ask ((s.block n).pair r) (view (s.block n).service r) ((inv.blocks n).phases r) (rw own refl))) in
          never (c == r) (ap (λ j. c == j) mine.0.0 ∙ same_number c) other

  -- ---- messages that are taken

  lone_probe : {caching : ℕ → Bool} (d m : ℕ) (k : Cap) (rest : List Packet) {s : State (List ℕ)}
      → IsInvariant caching s → is_sent ((s.block m).pair d).probing ≡ true → IsLone p c n source a s
      → IsLone p c n source a (probe_taken d m k rest s)
  lone_probe {caching} d m k rest {s} inv sent is = lone_steady _ (λ e i. refl)
      (steady_at m _ s.block n c (λ here. go here (cases_eq c d))) is
    where
      go : n ≡ m → (c ≡ d) ⊎ (c ≡ d → ⊥)
          → IsSteady ((s.block m).pair c) (set d (after_probe k ((s.block m).pair d)) (s.block m).pair c)
      go here (inl same) = absurd (unprobed inv is (cc))
      go here (inr other) = rw (set-other d c (after_probe k ((s.block m).pair d)) (s.block m).pair other) (refl, refl)

  lone_grant : {w : ℕ} (config : Config) (tracker : ℕ) {d m : ℕ} (rest : List Packet) (h : AbstractState w)
      → AreGiven p h.state → IsGrantDue d m h.state
      → IsLone p c n source a h.state → IsLone p c n source a (kind_taken config tracker d Grant m rest h).state
  lone_grant {w} config tracker {d} {m} rest h given due is =
      let after : State (List ℕ) = (kind_taken config tracker d Grant m rest h).state in
      let uses_are : (e i : ℕ) → after.uses e i ≡ set_at d src SourceFree h.state.uses e i =
      λ e i. ap (λ v. (taken_by_client d m v rest h).state.uses e i) due.service in
      let gives : gives_asked p (AcquireOpen due.whole due.g) due.k ≡ true =
      cc (due.wants, subst (λ v. IsGivenAsked p v (h.state.block m).pair) due.service (given m)) in
      record {
        others = λ e i else_. uses_are e i ∙ each-set_at (λ j k (v : SourceState). IsElsewhere c source j k
            → v ≡ SourceFree) d src SourceFree h.state.uses (λ any. refl) is.others e i else_;
        brings = brings_granted p n a _ _ _
            (uses_are c source ∙ ap₂ (set_at d src SourceFree h.state.uses) (sym mine.0.0) (sym mine.0.1)
            ∙ set_at-same d src SourceFree h.state.uses) (ap₂ (λ (i j : ℕ). ((after.block i).pair j).held) (sym mine.1)
            (sym mine.0.0) ∙ held_granted config tracker rest h due) (subst (λ x. grown p x
            (cap_right due.k) ≡ true) wants (grows p due.whole due.g due.k (fits_cap ((h.state.block m).pair d).recorded
            ((h.state.block m).pair d).held due.data_too due.k due.whole due.g due.fits) gives));
      }
    where
      src : ℕ
      src = (h.state.block m).source d

      mine : IsOwn h.state d src × (m ≡ n)
      mine = own_acquire d src m is due.used

      wants : AcquireOpen due.whole due.g ≡ a
      wants = sym due.wants ∙ ap₂ (λ (i j : ℕ). ((h.state.block i).pair j).acquiring) mine.1 mine.0.0 ∙ mine.0.3

  -- It stays alone, and keeps what it has brought, whatever message is taken.
  pub lone-kind_taken : {w : ℕ} {caching : ℕ → Bool} (config : Config) (tracker d : ℕ) (k : Kind) (i : ℕ)
      (rest : List Packet) (h : AbstractState w)
      → IsInvariant caching h.state → AreGiven p h.state → on k (h.state.link d) ≡ packet k i ∷ rest
      → IsLone p c n source a h.state → IsLone p c n source a (kind_taken config tracker d k i rest h).state
  lone-kind_taken {caching} config tracker d k i rest h inv given first is = true-taken config tracker d rest h
      (λ j m. on j (h.state.link d) ≡ packet j m ∷ rest) (λ x. IsLone p c n source a x.state) k i (record {
        nothing = λ j m known idle. is;
        access_answered = λ src m o known from caps none. absurd (never src known);
        access_served = λ src m j known from caps some. absurd (never src known);
        acquire_granted = λ m whole g known wants none. steady m _ _ (λ e j. refl) (λ j. refl)
            (steady_pair d (after_grant_sent _ ((block m).pair d)) (block m).pair (refl, refl) c);
        acquire_served = λ m whole g known wants some. steady m _ _
            (λ e j. refl) (λ j. refl) (steady_served d true _ (block m).pair c);
        probe = λ m known. lone_probe d m _ rest inv (first-shown inv d Probe refl known) is;
        report = λ m known more. steady m _ _ (λ e j. refl) (λ j. refl)
            (steady_pair d (after_report _ ((block m).pair d)) (block m).pair (refl, refl) c);
        report_answers = λ m q src j known last waits.
            absurd (no_access q src (InService m) is (serving-use m q src j inv waits) refl);
        report_grants = λ m q src j whole g known last waits wants. steady m _ _
            (λ e f. refl) (λ f. refl) (steady_granted d q _ _ (block m).pair c);
        release = λ m known. steady m _ _ (λ e j. refl) (λ j. refl) (steady_pair d _ (block m).pair (refl, refl) c);
        answer = λ src known. absurd (no_access d src Replied is (first-answer inv known) refl);
        grant = λ m q x j known sent. rw sent at
            (lone_grant config tracker rest h given (grant-due caching d m rest h.state inv known) is);
        release_ack = λ m known. steady m _ _ (λ e j. refl) (λ j. refl) (steady_pair d _ (block m).pair (refl, refl) c);
        grant_ack = λ m known. steady m _ _ (λ e j. refl) (λ j. refl) (refl, refl);
      }) first
    where
      block : ℕ → Block (List ℕ)
      block = h.state.block

      never : (src : ℕ) → (h.state.link d).a ≡ packet Request src ∷ rest → ⊥
      never src known = no_access d src Asked is (first-asked d src rest h inv known) refl

      -- block m changes, and neither what client c holds of it nor what it wants
      steady : (m : ℕ) (new : Block (List ℕ)) (t : State (List ℕ)) → ((e j : ℕ) → t.uses e j ≡ h.state.uses e j)
          → ((j : ℕ) → t.block j ≡ set m new block j) → IsSteady ((block m).pair c) (new.pair c)
          → IsLone p c n source a t
      steady m new t uses blocks same = lone_steady t uses (rw (blocks n) (steady_at m new block n c (λ here. same))) is
