-- What is owed in a world falls as the last beat of a message is taken.
-- What the receiver of each channel has of the message that comes first there, after a delivery that moves a beat.
-- What is owed in a world falls at every delivery that moves a beat, and rises at none.
use Rattle.std.proofs.Common.{◌≡◌, ℕ, ◌+◌, ◌<◌, ◌≤◌, Bool, true, false, ◌&&◌, ◌==◌, if◌then◌else◌, List, ◌∷◌, Some}
use Rattle.std.proofs.Common.{refl, sym, ◌∙◌, ap, subst, arith, length, ◌/◌}
use Rattle.tl_coherence.proofs
use proofs.Imports.{Beat, Link, Channel, IsWidth, MessageA, grown, completes, Config, Cap, Report, EndConfig, reaction}
use proofs.Imports.{Deliver, IsInvariant, IsWell, Grant, Kind, Packet, ProbeAck, is_whole, Block, Waits, ended_block}
use proofs.Imports.{grant_taken, on, packet, view, AbstractState, abstract_step, answers, kind_taken, last_taken}
use proofs.Imports.{performs, taken_by_client, channel_for, SimulationRelation, is_caching, IsFor, is_moving, Log}
use proofs.Imports.{system_after, is_to_client, stepped, System, same_channel, terms_at}
use Rattle.tl_coherence.specs.protocol.Protocol as protocol
use Rattle.tl_client.specs.statement.Offer as offer
use Rattle.tl_manager.specs.statement.Offer as manager_offer
use proofs.bound.Beginnings.{owed, IsBegun, none-more, owed-begun}
use proofs.bound.RankAfter.{IsKeptAfter, access_answered-owed, access_served-owed, acquire_granted-owed}
use proofs.bound.RankAfter.{acquire_served-owed, probe_taken-owed, report_taken-owed, report_answers-owed}
use proofs.bound.RankAfter.{report_grants-owed, release_taken-owed, answer_taken-owed, grant_taken-owed}
use proofs.bound.RankAfter.{release_ack_taken-owed, grant_ack_taken-owed, kept-matched}
use proofs.rank.{RankParts.serving-use, RankDecreases.stays, Frames.answer_to}
use proofs.simulation.Moved.{client-moves, client-heard, IsDelivery}
use proofs.simulation.Owned.{IsReceived, unfinished_at, elsewhere}
use proofs.deliveries.{CarriedRequests.unread-bytes, ManagerDelivered.seen_apart, ManagersAfter.at-manager}
use proofs.deliveries.DeliverDUnmoved.{bare, followed-moving, followed-still, unmoved}
use proofs.deliveries.CarriedReports.{answer_on_d, ended-bytes}
use proofs.deliveries.Matching.{ready-delivered, matched-event}
use proofs.manager.{Accounts.plain-past, RequestsTaken.next_tracker}
use proofs.queues.{Facts.answered_other, Tokens.set-same, Tokens.same_number, FirstToken.first-token}
use proofs.queues.{QuiescentQueues.client_below, Moves.on_same, Moves.kind_channel}
use proofs.queues.Steps.{same_channel-refl, IsOn, landed-client, rests-manager, rests-ended, on_own_channel}
use proofs.protocol.{RequestsKept.settled_all, BeatsRemaining.beats_left}
use proofs.protocol.HeadOfD.{IsGrantDue, grant-due, never-idle, IsReady, ready-access, waits_for_others, told}
use proofs.protocol.HeadOfD.{true-taken}
use proofs.protocol.BothParts.{first-request, first-probe, first-report, first-grant_ack}
use proofs.links.HeadsOfLinks.{first-of}
use proofs.outstanding.Outstanding.{first-moved}

module _ {w : ℕ} {config : Config} {log : Log w} (h : AbstractState w) (sys' : System w) (width : IsWidth w)
    (matched : SimulationRelation config log h.mail h.request h.state (system_after config log)) (tracker c : ℕ)
    (rest : List Packet) (lt : c < length config.clients.items) where
  -- the protocol is kept, and less is owed than before
  abbrev pub Falls : AbstractState w → Type 0
  Falls z = IsKeptAfter config z.mail z.state
      → owed config z.mail z.state sys' + 1 ≤ owed config h.mail h.state (system_after config log)

  -- the last beat of the message of this token is taken
  abbrev pub IsEnding : Kind → ℕ → Type 0
  IsEnding k i = (on k (h.state.link c) ≡ packet k i ∷ rest)
      × IsReceived c (channel_for k) (system_after config log) sys' × IsReady tracker c k i h

  report-answered : (n q source : ℕ) (k : Cap) → IsEnding ProbeAck n → waits_for_others config c h n ≡ false
      → (h.state.block n).service ≡ Waits q false source k
      → Falls (last_taken (length config.clients.items) config.profile c n (told config c h n) (Waits q false source k)
      rest h)
  report-answered n q source k known last waits is =
      let b : Block (List ℕ) = h.state.block n in
      let r : Report = told config c h n in
      let v : MessageA w = h.request n in
      let inv : IsInvariant (is_caching config) h.state = matched.invariant in
      let for : IsFor (Waits q false source k) n v = rw waits at (matched.served.requests n) in
      report_answers-owed sys' width matched c n rest lt q source r k (performs v)
      (answers v (protocol.written r b.truth b.memory)) known.0 waits (rw (serving-use n q source k inv waits) refl)
      (ended-bytes c q source r k v (inv.blocks n) (subst (IsWell (is_caching config)) (set-same n
      (ended_block c r (performs v) b) h.state.block) (is.invariant.blocks n)) waits (first-report inv known.0)
      (settled_all (length config.clients.items) (is_caching config) c b.pair (plain-past config)
      (inv.blocks n).outside last) for.0 for.3 (matched.sized n).truth) (answer_on_d v _) known.1 is

  granted : (n : ℕ) → IsEnding Grant n → Falls (kind_taken config tracker c Grant n rest h)
  granted n known = subst Falls (sym (ap (λ v. taken_by_client c n v rest h) due.service
      ∙ ap (λ a. record h { state = grant_taken c n (is_whole a) due.data_too due.k rest h.state }) due.wants))
      (grant_taken-owed sys' width matched c n rest lt due.whole due.data_too due.k known.0 due.service
      (bare h due matched.invariant) known.1)
    where
      due : IsGrantDue c n h.state
      due = grant-due (is_caching config) c n rest _ matched.invariant known.0

  pub kind-owed : (k : Kind) (i : ℕ) → length config.clients.items ≤ 16 → IsEnding k i
      → Falls (kind_taken config tracker c k i rest h)
  kind-owed k i sixteen ending = true-taken config tracker c rest h IsEnding Falls k i (record {
    nothing = λ j n known idle. absurd (cc (never-idle config tracker c j n rest h matched.invariant known.0 known.2));
    access_answered = λ source m o known from caps none. access_answered-owed sys' width matched c _ rest lt source
        (performs m) _ known.0 (first-request matched.invariant known.0) (unread-bytes c _ m matched
        (ready-access tracker c source m h known.2 from).0 (rw caps none)) (answer_on_d m _) known.1;
    access_served = λ source m k known from caps some. access_served-owed sys' width matched c _ rest lt source tracker
        k sixteen known.0 (ready-access tracker c source m h known.2 from).1 known.1;
    acquire_granted = λ n whole g known wants none. acquire_granted-owed sys' width matched c n rest lt tracker _ _
        known.0 known.2.0 known.1;
    acquire_served = λ n whole g known wants some. acquire_served-owed sys' width matched c n rest lt _ tracker _
        sixteen known.0 known.2.0 known.1;
    probe = λ n known. probe_taken-owed sys' width matched c n rest lt _ known.0 (first-probe matched.invariant known.0)
        known.1;
    report = λ n known more. report_taken-owed sys' width matched c n rest lt (told config c h n) known.0 known.1;
    report_answers = report-answered;
    report_grants = λ n q source k whole g known last waits wants. report_grants-owed sys' width matched c n rest lt q
        source k _ (told config c h n) _ known.0 waits (seen_apart q source k c (rw waits at
        (answered_other _ ((h.state.block n).pair c) (view (h.state.block n).service c)
        ((matched.invariant.blocks n).phases c) (first-report matched.invariant known.0)))) known.1;
    release = λ n known. release_taken-owed sys' width matched c n rest lt _ known.0 known.1;
    answer = λ source known. answer_taken-owed sys' width matched c source rest lt known.0 known.1;
    grant = λ n q d k known sent. subst (λ v. Falls (taken_by_client c n v rest h)) sent (granted n known);
    release_ack = λ n known. release_ack_taken-owed sys' width matched c n rest lt known.0 known.1;
    grant_ack = λ n known. grant_ack_taken-owed sys' width matched c n rest lt known.0
        (first-grant_ack matched.invariant known.0) known.1;
  }) ending

-- The receiver of channel ch of client c's link has this beat too, and the others have what they had.
abbrev pub IsGrown : {w : ℕ} → ℕ → Channel → Beat w → System w → System w → Type 0
IsGrown c ch x sys sys' = (d : ℕ) (at : Channel) → unfinished_at sys' d at
    ≡ (if (d == c) && same_channel at ch then grown x (unfinished_at sys d at) else unfinished_at sys d at)

pub grown-moved : {w : ℕ} {config : Config} {log : Log w} (h : AbstractState w) (link : Link) (ch : Channel)
    (terms : EndConfig) (x : Beat w) (queue : List (Beat w))
    → IsWidth w → SimulationRelation config log h.mail h.request h.state (system_after config log)
    → terms_at config link.0 ≡ Some terms → (system_after config log).channels link.0 ch ≡ x ∷ queue
    → is_moving (stepped config (Deliver link ch) (system_after config log)).outcome ≡ true
    → IsGrown link.0 ch x (system_after config log) (stepped config (Deliver link ch) (system_after config log)).after
grown-moved {w} {config} {log} h link ch terms x queue width is known beats moving = go (is_to_client ch) refl
  where
    sys : System w
    sys = system_after config log

    on_ch : IsOn ch x
    on_ch = rw (← (first-of config log h link.0 terms ch x queue width is known beats).on) (on_own_channel x)

    go : (b : Bool) → is_to_client ch ≡ b → IsGrown link.0 ch x sys (stepped config (Deliver link ch) sys).after
    go true up =
        let t = client-moves config link ch sys terms x queue known beats up moving in
        subst (λ y. IsGrown link.0 ch x sys y.after) (sym t.step_is) (landed-client link.0 ch x queue t.message
        (offer.taken x (sys.clients link.0)).after sys up beats on_ch (client-heard width (is.kept link.0) t)).rests
    go false down =
        let at = at-manager link ch h terms x queue width is known down beats moving in
        subst (λ y. IsGrown link.0 ch x sys y.after) (sym at.step_is)
        (rests-manager link.0 ch x queue (reaction config link x sys.manager).handed
        (manager_offer.taken link x (reaction config link x sys.manager) sys.manager) sys down on_ch at.heard)

-- with the last beat of a message it has nothing of the next
pub grown-received : {w : ℕ} (c : ℕ) (ch : Channel) (x : Beat w) (sys sys' : System w) → IsGrown c ch x sys sys'
    → completes x (unfinished_at sys c ch) ≡ true → IsReceived c ch sys sys'
grown-received c ch x sys sys' is last d at = is d at ∙ rests-ended c ch x sys last d at

-- and with another one it has one beat more
pub grown-begun : {w : ℕ} (c : ℕ) (ch : Channel) (x : Beat w) (sys sys' : System w) → IsGrown c ch x sys sys'
    → completes x (unfinished_at sys c ch) ≡ false → IsBegun c ch x (unfinished_at sys) (unfinished_at sys')
grown-begun c ch x sys sys' is part = record {
  here = is c ch ∙ rw (same_number c, same_channel-refl ch, part) refl;
  others = λ d at ne. cc (is d at, elsewhere c d ch at ne);
}

module _ {w : ℕ} {config : Config} {log : Log w} (h : AbstractState w) (width : IsWidth w)
    (matched : SimulationRelation config log h.mail h.request h.state (system_after config log)) where
  -- less is owed than before
  abbrev IsLess : AbstractState w → System w → Type 0
  IsLess h' sys' = owed config h'.mail h'.state sys' + 1 ≤ owed config h.mail h.state (system_after config log)

  abbrev Kept : AbstractState w → Type 0
  Kept h' = IsKeptAfter config h'.mail h'.state

  -- ---- the last beat of a message

  by-first : {link : Link} {ch : Channel} {x : Beat w} {queue : List (Beat w)} (sys' : System w)
      (d : IsDelivery config h.mail h.state (system_after config log) link ch x queue)
      → link.0 < length config.clients.items → length config.clients.items ≤ 16
      → IsReceived link.0 ch (system_after config log) sys'
      → Kept (kind_taken config (next_tracker (system_after config log)) link.0 d.first.kind d.first.number d.first.rest
      h) → IsLess (kind_taken config (next_tracker (system_after config log)) link.0 d.first.kind d.first.number
      d.first.rest h) sys'
  by-first {link} {ch} sys' d lt sixteen received kept = kind-owed h sys' width matched
      (next_tracker (system_after config log)) link.0 d.first.rest lt d.first.kind d.first.number sixteen (
        on_same ch d.first.kind (h.state.link link.0) d.first.own ∙ d.first.tokens,
        rw (kind_channel ch d.first.kind d.first.own) received,
        ready-delivered ch width matched d,
      ) kept

  -- ---- a delivery

  pub moving-owed : (link : Link) (ch : Channel) → length config.clients.items ≤ 16
      → is_moving (stepped config (Deliver link ch) (system_after config log)).outcome ≡ true
      → IsLess (abstract_step config (Deliver link ch) (system_after config log) h)
      (stepped config (Deliver link ch) (system_after config log)).after
  moving-owed link ch sixteen moving = go (first-moved config link ch (system_after config log) moving)
    where
      sys : System w
      sys = system_after config log

      sys' : System w
      sys' = (stepped config (Deliver link ch) sys).after

      kept : Kept (abstract_step config (Deliver link ch) sys h)
      kept =
          let h' : AbstractState w = abstract_step config (Deliver link ch) sys h in
          kept-matched (matched-event h (Deliver link ch) width tt matched)

      taken : (x : Beat w) (queue : List (Beat w)) (terms : EndConfig) → terms_at config link.0 ≡ Some terms
          → sys.channels link.0 ch ≡ x ∷ queue → (b : Bool)
          → completes x (unfinished_at sys link.0 ch) ≡ b → IsLess (abstract_step config (Deliver link ch) sys h) sys'
      taken x queue terms known beats true last =
          let first = first-token (is_caching config) ch link.0 h.mail _ sys x queue width matched.invariant
          matched.carried beats in
          let d : IsDelivery config h.mail h.state sys link ch x queue =
          record { moves = moving; beats = beats; whole = last; first = first } in
          let follows : abstract_step config (Deliver link ch) sys h ≡ kind_taken config (next_tracker sys) link.0
          first.kind first.number first.rest h =
          cc (followed-moving config link ch sys h x queue moving beats, last, first.tokens) in
          subst (λ z. IsLess z sys') (sym follows)
          (by-first sys' d (client_below config link.0 terms known) sixteen (grown-received link.0 ch x sys sys'
          (grown-moved h link ch terms x queue width matched known beats moving) last) (subst Kept follows kept))
      taken x queue terms known beats false part =
          let follows : abstract_step config (Deliver link ch) sys h ≡ h =
          cc (followed-moving config link ch sys h x queue moving beats, part) in
          subst (λ z. IsLess z sys') (sym follows) (owed-begun sys' queue width matched
          (client_below config link.0 terms known) beats part (grown-begun link.0 ch x sys sys'
          (grown-moved h link ch terms x queue width matched known beats moving) part))

      go : ((x : Beat w) × (queue : List (Beat w)) × (terms : EndConfig)
          × ((sys.channels link.0 ch ≡ x ∷ queue) × (terms_at config link.0 ≡ Some terms)))
          → IsLess (abstract_step config (Deliver link ch) sys h) sys'
      go p = taken p.0 p.1 p.2 p.3.1 p.3.0 (completes p.0 (unfinished_at sys link.0 ch)) refl

  -- where no beat is moved, nothing more is owed
  pub still-owed : (link : Link) (ch : Channel)
      → is_moving (stepped config (Deliver link ch) (system_after config log)).outcome ≡ false
      → owed config (abstract_step config (Deliver link ch) (system_after config log) h).mail
      (abstract_step config (Deliver link ch) (system_after config log) h).state
      (stepped config (Deliver link ch) (system_after config log)).after ≤ owed config h.mail h.state
      (system_after config log)
  still-owed link ch still = rw (followed-still config link ch sys h still)
      (stays config (64 / w) (left sys) (left sys') (answer_to h.mail) (answer_to h.mail) h.state h.state
      (none-more config (64 / w) (left sys) (left sys') (answer_to h.mail) h.state less))
    where
      sys : System w
      sys = system_after config log

      sys' : System w
      sys' = (stepped config (Deliver link ch) sys).after

      left : System w → ℕ → Kind → ℕ → ℕ
      left i = beats_left h.mail h.state (unfinished_at i)

      less : (c : ℕ) (k : Kind) (m : ℕ) → left sys' c k m ≤ left sys c k m
      less c k m =
          let as_much : left sys' c k m ≡ left sys c k m =
          cc ((unmoved config link ch sys still).rests c (channel_for k)) in
          omega (arith, as_much)
