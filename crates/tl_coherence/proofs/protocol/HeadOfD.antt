-- Each message that is taken is one event of the protocol, or does nothing: what holds after each of them holds.
-- What is due to a client: the message of the first token of channel D, and what it answers.
-- The first token of a channel always asks for something: what is ready to be taken is an event of the protocol.
use Rattle.std.proofs.Common.{◌≡◌, ℕ, Bool, true, false, not, ◌&&◌, ◌==◌, if◌then◌else◌, List, ◌∷◌, Option, Some, None}
use Rattle.std.proofs.Common.{refl, ◌∙◌, ap, arith, length, lit≤}
use Rattle.tl_coherence.proofs
use proofs.Imports.{and_from, not-true, ⊤, OpD, Message, MessageA, MessageD, Config, Cap, Grow, Report, cap_code}
use proofs.Imports.{block_at, is_acquire, acquisition, grant_opcode, no_payload, cap_probed, is_access_answer}
use proofs.Imports.{IsInvariant, cap_asked, Acquire, Answer, Grant, GrantAck, Kind, Packet, Probe, ProbeAck, Release}
use proofs.Imports.{ReleaseAck, Request, AcquireOpen, AcquirePhase, ClientBlock, Granting, NoAcquire, NoRelease}
use proofs.Imports.{ReleasePhase, grant_fits, is_unacquired, is_unprobed, is_unreleased, is_granted_data, Acquires}
use proofs.Imports.{Block, Free, GrantSent, GrantTaken, Replied, Service, State, Waits, acquire_granted, acquire_served}
use proofs.Imports.{is_probed, on, packet, report_taken, view, is_acked, is_granting, is_unserved, is_wanting}
use proofs.Imports.{AbstractState, access_taken, acquire_opcode, acquire_taken, gift, granted_after, is_unheld}
use proofs.Imports.{kind_taken, last_taken, probes_some, request_taken, taken_by_client, with_state, some_below}
use proofs.Imports.{AccessMessages, report_told, block_message, IsAnswered}
use Rattle.tl_coherence.specs.refinement.AbstractStep.{with_served}
use Rattle.tl_rules.specs.statement.Conformance.{answers}
use proofs.queues.{Phases.and_left, Tokens.same_number}
use proofs.queues.Facts.{answered_other, own_wants, is_other, grant_is_fit, granting_asks}
use proofs.protocol.BothParts.{granted-unseen, taken-unseen, wanting-is, first-report, first-shown, waits_ungranted}
use proofs.protocol.BothParts.{taken_ungranted, is_of-is, acquires_of-is, first-answer}

-- what isn't told by the token alone: a request isn't stalled, and has a tracker that no block has; nor is a Probe
abbrev pub IsReady : {w : ℕ} → ℕ → ℕ → Kind → ℕ → AbstractState w → Type 0
IsReady {w} tracker c Request source h = (m : MessageA w) × (h.mail.request c source ≡ Message.A m) × (is_acquire
    m.opcode ≡ false) × ((h.state.block (block_at m.address)).service ≡ Free) × (h.state.tracked tracker ≡ None)
IsReady tracker c Acquire n h = ((h.state.block n).service ≡ Free) × (h.state.tracked tracker ≡ None)
IsReady tracker c Probe n h = ((h.state.block n).pair c).letting ≡ NoRelease
IsReady tracker c _ n h = ⊤

-- a request that is ready is this one
pub ready-access : {w : ℕ} (tracker c source : ℕ) (m : MessageA w) (h : AbstractState w)
    → IsReady tracker c Request source h → h.mail.request c source ≡ Message.A m
    → (is_acquire m.opcode ≡ false) × ((h.state.block (block_at m.address)).service ≡ Free)
    × (h.state.tracked tracker ≡ None)
ready-access tracker c source m h ready from = grind arith

-- ---- messages that are taken

-- a message that isn't of channel A
abbrev pub is_no_request : {w : ℕ} → Message w → Bool
is_no_request (Message.A m) = false
is_no_request m = true

-- nobody waits for reports whose Acquire is open, or who has an access
abbrev pub serves_nobody : Service → (ℕ → ClientBlock) → Bool
serves_nobody (Waits q true source k) pair = is_unacquired (pair q).acquiring
serves_nobody (Waits q false source k) pair = false
serves_nobody v pair = true

abbrev pub grants_nothing : Service → Bool
grants_nothing (GrantSent q d k) = false
grants_nothing v = true

module _ {w : ℕ} (config : Config) (c : ℕ) (h : AbstractState w) where
  abbrev clients : ℕ
  clients = length config.clients.items

  -- somebody is probed for an access with this caps, or for the Acquire of block n
  abbrev pub probes_for_access : MessageA w → Option Cap → Bool
  probes_for_access m o = probes_some clients c false o (h.state.block (block_at m.address)).pair

  abbrev pub probes_for_acquire : ℕ → Bool → Grow → Bool
  probes_for_acquire n whole g =
      some_below clients (λ i. is_probed c true (cap_asked (AcquireOpen whole g)) ((h.state.block n).pair i).recorded i)

  -- others than client c have still to report
  abbrev pub waits_for_others : ℕ → Bool
  waits_for_others n = some_below clients (λ i. not (i == c) && not (is_unprobed ((h.state.block n).pair i).probing))

  abbrev pub told : ℕ → Report
  told n = report_told ((h.state.block n).pair c).probing

  -- nothing is done: there is no message of channel A, no Acquire that is open, nobody who waits for reports, no Grant
  -- that is sent
  abbrev pub is_idle : Kind → ℕ → Bool
  is_idle Request source = is_no_request (h.mail.request c source)
  is_idle Acquire n = is_unacquired ((h.state.block n).pair c).acquiring
  is_idle ProbeAck n = serves_nobody (h.state.block n).service (h.state.block n).pair
  is_idle Grant n = grants_nothing (h.state.block n).service
  is_idle k i = false

module _ {w : ℕ} (config : Config) (tracker c : ℕ) (rest : List Packet) (h : AbstractState w)
    (IsKnown : Kind → ℕ → Type 0) (P : AbstractState w → Type 0) where
  abbrev all_clients : ℕ
  all_clients = length config.clients.items

  abbrev after_acquire_granted : ℕ → Bool → Grow → AbstractState w
  after_acquire_granted n whole g =
      let b : Block (List ℕ) = h.state.block n in
      with_served n (acquisition (acquire_opcode whole) g (b.source c) n) (with_state (acquire_granted c n tracker
      (is_granted_data whole g (b.pair c).recorded) (gift config.profile whole g (is_unheld all_clients b.pair)) rest
      h.state) h)

  abbrev after_acquire_served : ℕ → Bool → Grow → AbstractState w
  after_acquire_served n whole g =
      let b : Block (List ℕ) = h.state.block n in
      with_served n (acquisition (acquire_opcode whole) g (b.source c) n)
      (with_state (acquire_served c n (b.source c) tracker (cap_asked (AcquireOpen whole g)) rest h.state) h)

  -- P holds after each event of the first token of a channel of client c, of which this is known
  pub record IsTrueAfterEach : Type 0 where
    pub nothing : (k : Kind) (i : ℕ) → IsKnown k i → is_idle config c h k i ≡ true → P h
    pub access_answered : (source : ℕ) (m : MessageA w) (o : Option Cap) → IsKnown Request source
        → h.mail.request c source ≡ Message.A m → cap_probed m.opcode m.param ≡ o
        → probes_for_access config c h m o ≡ false → P (access_taken c source m tracker false None rest h)
    pub access_served : (source : ℕ) (m : MessageA w) (k : Cap) → IsKnown Request source
        → h.mail.request c source ≡ Message.A m → cap_probed m.opcode m.param ≡ Some k
        → probes_for_access config c h m (Some k) ≡ true → P (access_taken c source m tracker true (Some k) rest h)
    pub acquire_granted : (n : ℕ) (whole : Bool) (g : Grow) → IsKnown Acquire n
        → ((h.state.block n).pair c).acquiring ≡ AcquireOpen whole g → probes_for_acquire config c h n whole g ≡ false
        → P (after_acquire_granted n whole g)
    pub acquire_served : (n : ℕ) (whole : Bool) (g : Grow) → IsKnown Acquire n
        → ((h.state.block n).pair c).acquiring ≡ AcquireOpen whole g → probes_for_acquire config c h n whole g ≡ true
        → P (after_acquire_served n whole g)
    pub probe : (n : ℕ) → IsKnown Probe n → P (kind_taken config tracker c Probe n rest h)
    pub report : (n : ℕ) → IsKnown ProbeAck n → waits_for_others config c h n ≡ true
        → P (with_state (report_taken c n (told config c h n) rest h.state) h)
    pub report_answers : (n q source : ℕ) (k : Cap) → IsKnown ProbeAck n → waits_for_others config c h n ≡ false
        → (h.state.block n).service ≡ Waits q false source k
        → P (last_taken all_clients config.profile c n (told config c h n) (Waits q false source k) rest h)
    pub report_grants : (n q source : ℕ) (k : Cap) (whole : Bool) (g : Grow) → IsKnown ProbeAck n
        → waits_for_others config c h n ≡ false → (h.state.block n).service ≡ Waits q true source k
        → ((h.state.block n).pair q).acquiring ≡ AcquireOpen whole g
        → P (granted_after all_clients config.profile c q n (told config c h n) (AcquireOpen whole g) rest h)
    pub release : (n : ℕ) → IsKnown Release n → P (kind_taken config tracker c Release n rest h)
    pub answer : (source : ℕ) → IsKnown Answer source → P (kind_taken config tracker c Answer source rest h)
    pub grant : (n q : ℕ) (d : Bool) (k : Cap) → IsKnown Grant n → (h.state.block n).service ≡ GrantSent q d k
        → P (taken_by_client c n (GrantSent q d k) rest h)
    pub release_ack : (n : ℕ) → IsKnown ReleaseAck n → P (kind_taken config tracker c ReleaseAck n rest h)
    pub grant_ack : (n : ℕ) → IsKnown GrantAck n → P (kind_taken config tracker c GrantAck n rest h)

  true-access : (source : ℕ) (m : MessageA w) (o : Option Cap) (p : Bool) → IsTrueAfterEach → IsKnown Request source
      → h.mail.request c source ≡ Message.A m → cap_probed m.opcode m.param ≡ o → probes_for_access config c h m o ≡ p
      → P (access_taken c source m tracker p o rest h)
  true-access source m o p e f g h i = grind arith

  true-request : (source : ℕ) (m : Message w) → IsTrueAfterEach → IsKnown Request source
      → h.mail.request c source ≡ m → P (request_taken all_clients c source m tracker rest h)
  true-request source (Message.A m) each known is = true-access source m (cap_probed m.opcode m.param)
      (probes_for_access config c h m (cap_probed m.opcode m.param)) each known is refl refl
  true-request source m each known is = each.nothing Request source known (rw is refl)

  true-acquire : (n : ℕ) (a : AcquirePhase) → IsTrueAfterEach → IsKnown Acquire n
      → ((h.state.block n).pair c).acquiring ≡ a → P (acquire_taken all_clients config.profile c n a tracker rest h)
  true-acquire n NoAcquire each known is = each.nothing Acquire n known (rw is refl)
  true-acquire n (AcquireOpen whole g) each known is = go (probes_for_acquire config c h n whole g) refl
    where
      b : Block (List ℕ)
      b = h.state.block n

      go : (x : Bool) → probes_for_acquire config c h n whole g ≡ x
          → P (with_served n (acquisition (acquire_opcode whole) g (b.source c) n) (with_state (if x then acquire_served
          c n (b.source c) tracker (cap_asked (AcquireOpen whole g)) rest h.state else acquire_granted c n tracker
          (is_granted_data whole g (b.pair c).recorded) (gift config.profile whole g (is_unheld all_clients b.pair))
          rest
          h.state) h))
      go true e = each.acquire_served n whole g known is e
      go false e = each.acquire_granted n whole g known is e

  true-granted : (n q source : ℕ) (k : Cap) (a : AcquirePhase) → IsTrueAfterEach → IsKnown ProbeAck n
      → waits_for_others config c h n ≡ false → (h.state.block n).service ≡ Waits q true source k
      → ((h.state.block n).pair q).acquiring ≡ a
      → P (granted_after all_clients config.profile c q n (told config c h n) a rest h)
  true-granted n q source k a e f g h i = grind arith

  true-last : (n : ℕ) (v : Service) → IsTrueAfterEach → IsKnown ProbeAck n → waits_for_others config c h n ≡ false
      → (h.state.block n).service ≡ v → P (last_taken all_clients config.profile c n (told config c h n) v rest h)
  true-last n v e f g h = grind (arith, true-granted)

  true-report : (n : ℕ) (x : Bool) → IsTrueAfterEach → IsKnown ProbeAck n → waits_for_others config c h n ≡ x
      → P (if x then with_state (report_taken c n (told config c h n) rest h.state) h else last_taken all_clients
      config.profile c n (told config c h n) (h.state.block n).service rest h)
  true-report n x e f g = grind (arith, true-last)

  true-grant : (n : ℕ) (v : Service) → IsTrueAfterEach → IsKnown Grant n → (h.state.block n).service ≡ v
      → P (taken_by_client c n v rest h)
  true-grant n v e f g = grind arith

  pub true-taken : (k : Kind) (i : ℕ) → IsTrueAfterEach → IsKnown k i → P (kind_taken config tracker c k i rest h)
  true-taken Request source each known = true-request source (h.mail.request c source) each known refl
  true-taken Acquire n each known = true-acquire n ((h.state.block n).pair c).acquiring each known refl
  true-taken Probe n each known = each.probe n known
  true-taken ProbeAck n each known = true-report n (waits_for_others config c h n) each known refl
  true-taken Release n each known = each.release n known
  true-taken Answer source each known = each.answer source known
  true-taken Grant n each known = true-grant n (h.state.block n).service each known refl
  true-taken ReleaseAck n each known = each.release_ack n known
  true-taken GrantAck n each known = each.grant_ack n known

-- ---- an answer

-- the answer to the access with this source
pub record IsAnswerDue {w : ℕ} (c source : ℕ) (mail : AccessMessages w) (s : State (List ℕ)) : Type 0 where
  pub used : s.uses c source ≡ Replied
  pub answer : MessageD w
  pub request : MessageA w
  pub answer_is : mail.answer c source ≡ Message.D answer
  pub request_is : mail.request c source ≡ Message.A request
  pub answers_access : is_access_answer answer.opcode ≡ true
  pub admits : answers answer.opcode request.opcode ≡ true
  pub from : answer.source ≡ source
  pub size : answer.size ≡ request.size

pub answer-due : {w : ℕ} (caching : ℕ → Bool) (c source : ℕ) (rest : List Packet) (mail : AccessMessages w)
    (s : State (List ℕ)) → IsInvariant caching s → IsAnswered source (mail.request c source) (mail.answer c source)
    (s.uses c source) → (s.link c).d ≡ packet Answer source ∷ rest → IsAnswerDue c source mail s
answer-due {w} caching c source rest mail s inv answered first = go (mail.request c source) (mail.answer c source) refl
    refl (rw used at answered)
  where
    used : s.uses c source ≡ Replied
    used = first-answer inv first

    go : (a b : Message w) → mail.request c source ≡ a → mail.answer c source ≡ b → IsAnswered source a b Replied
        → IsAnswerDue c source mail s
    go (Message.A m) (Message.D x) e f is = record {
      used = used;
      answer = x;
      request = m;
      answer_is = f;
      request_is = e;
      answers_access = is.0;
      admits = is.1;
      from = is.2;
      size = is.3;
    }
    go a x e f is = absurd is

-- ---- a Grant

pub record IsGrantDue (c n : ℕ) (s : State (List ℕ)) : Type 0 where
  pub data_too : Bool
  pub k : Cap
  pub whole : Bool
  pub g : Grow
  pub service : (s.block n).service ≡ GrantSent c data_too k
  pub wants : ((s.block n).pair c).acquiring ≡ AcquireOpen whole g
  pub fits : grant_fits ((s.block n).pair c).recorded ((s.block n).pair c).held data_too k (AcquireOpen whole g) ≡ true
  pub used : s.uses c ((s.block n).source c) ≡ Acquires n

pub granting-service : (s : Service) (c : ℕ) → is_granting (view s c) ≡ true → (d : Bool) × (k : Cap)
    × (s ≡ GrantSent c d k)
granting-service s c e = grind (arith, waits_ungranted, taken_ungranted)

wanting_is : (x : AcquirePhase) → not (is_unacquired x) ≡ true → (whole : Bool) × (g : Grow) × (x ≡ AcquireOpen whole g)
wanting_is x e = grind arith

-- the use of the source of an open Acquire
pub acquire-used : (caching : ℕ → Bool) (c n : ℕ) (s : State (List ℕ)) → IsInvariant caching s
    → is_wanting ((s.block n).pair c).acquiring ≡ true → s.uses c ((s.block n).source c) ≡ Acquires n
acquire-used caching c n s inv wanting = acquires_of-is n _
    (inv.named.acquires c ((s.block n).source c) n ∙ and_from (is_wanting ((s.block n).pair c).acquiring)
    ((s.block n).source c == (s.block n).source c) wanting (same_number ((s.block n).source c)))

-- how the client of a Grant sees the block
pub own_view : (c : ℕ) (d : Bool) (k : Cap) (service : Service) → service ≡ GrantSent c d k
    → view service c ≡ Granting d k
own_view c d k service e = grind arith

pub grant-due : (caching : ℕ → Bool) (c n : ℕ) (rest : List Packet) (s : State (List ℕ)) → IsInvariant caching s
    → (s.link c).d ≡ packet Grant n ∷ rest → IsGrantDue c n s
grant-due caching c n rest s inv first =
    let b = s.block n in
    let sent = granting-service b.service c (first-shown inv c Grant refl first) in
    let mine : view b.service c ≡ Granting sent.0 sent.1 = own_view c sent.0 sent.1 _ sent.2 in
    let wants = wanting_is _ (granting_asks sent.0 sent.1 (b.pair c) (view b.service c)
    ((inv.blocks n).phases c) mine) in
    let fits = grant_is_fit sent.0 sent.1 _ _ ((inv.blocks n).phases c) mine in
    record {
      data_too = sent.0;
      k = sent.1;
      whole = wants.0;
      g = wants.1;
      service = sent.2;
      wants = wants.2;
      fits = cc (wants.2, fits);
      used = acquire-used caching c n s inv (ap is_wanting wants.2);
    }

-- the message of a Grant
abbrev pub grant_message : {w : ℕ} → Bool → Cap → ℕ → ℕ → List ℕ → MessageD w
grant_message d k source sink payload = record {
  opcode = grant_opcode d;
  param = cap_code k;
  size = 6;
  source = source;
  sink = sink;
  denied = false;
  payload = if d then payload else no_payload;
  corrupt = 0;
  small = lit≤ tt;
}

pub grant-rendered : {w : ℕ} (c n : ℕ) (s : State (List ℕ)) (is : IsGrantDue c n s)
    → block_message {w = w} Grant c n (s.block n) ≡ Message.D (grant_message is.data_too is.k ((s.block n).source c)
    (s.block n).tracker (s.block n).truth)
unfolding block_message
grant-rendered c n s is = rw is.service refl

-- ---- a ReleaseAck

-- the message of a ReleaseAck
abbrev pub ack_message : {w : ℕ} → ℕ → MessageD w
ack_message source = record {
  opcode = OpD.ReleaseAck;
  param = 0;
  size = 6;
  source = source;
  sink = 0;
  denied = false;
  payload = no_payload;
  corrupt = 0;
  small = lit≤ tt;
}

acked_open : (x : ReleasePhase) → is_acked x ≡ true → not (is_unreleased x) ≡ true
acked_open x e = grind arith

pub ack-due : {caching : ℕ → Bool} (c n : ℕ) (rest : List Packet) {s : State (List ℕ)} → IsInvariant caching s
    → (s.link c).d ≡ packet ReleaseAck n ∷ rest → s.lets c ((s.block n).release_source c) ≡ Some n
ack-due c n rest {s} inv first = is_of-is n _
    (inv.named.releases c ((s.block n).release_source c) n ∙ and_from (not (is_unreleased ((s.block n).pair c).letting))
    ((s.block n).release_source c == (s.block n).release_source c) (acked_open ((s.block n).pair c).letting
    (first-shown inv c ReleaseAck refl first)) (same_number ((s.block n).release_source c)))

pub never-idle : {w : ℕ} {caching : ℕ → Bool} (config : Config) (tracker c : ℕ) (k : Kind) (i : ℕ) (rest : List Packet)
    (h : AbstractState w) → IsInvariant caching h.state → on k (h.state.link c) ≡ packet k i ∷ rest
    → IsReady tracker c k i h → is_idle config c h k i ≡ false
never-idle config tracker c Request source rest h inv first ready = rw ready.1 refl
never-idle config tracker c Acquire n rest h inv first ready =
    let wants = wanting-is _ (and_left (is_wanting ((h.state.block n).pair c).acquiring)
    (is_unserved (view (h.state.block n).service c)) (first-shown inv c Acquire refl first)) in
    rw wants.2 refl
never-idle {w} config tracker c ProbeAck n rest h inv first ready = go b.service refl
  where
    b : Block (List ℕ)
    b = h.state.block n

    seen : is_other (view b.service c) ≡ true
    seen = answered_other _ _ _ ((inv.blocks n).phases c) (first-report inv first)

    go : (v : Service) → b.service ≡ v → serves_nobody v b.pair ≡ false
    go Free e = absurd (let other : false ≡ true = rw e at seen in cc)
    go (GrantSent q d k) e = absurd (granted-unseen (c == q) d k (rw e at seen))
    go (GrantTaken q) e = absurd (taken-unseen (c == q) (rw e at seen))
    go (Waits q false source k) e = refl
    go (Waits q true source k) e =
        not-true _ (own_wants (b.pair q) (view b.service q) ((inv.blocks n).phases q) (rw (e, same_number q) refl))
never-idle config tracker c Grant n rest h inv first ready =
    rw (granting-service (h.state.block n).service c (first-shown inv c Grant refl first)).2 refl
never-idle config tracker c k i rest h inv first ready = refl
