-- The channels after a beat of channel C or E was taken, and the bytes on their way.
-- The channels carry the messages of the tokens after each delivery on channel C or E.
use Rattle.std.proofs.Common.{◌≡◌, ℕ, Bool, true, false, ◌==◌, if◌then◌else◌, List, [], ◌∷◌, Option, Some, None, refl}
use Rattle.std.proofs.Common.{sym, ◌∙◌, ap, subst, arith, ◌⊎◌, inl, inr, length}
use Rattle.tl_coherence.proofs
use proofs.Imports.{or-true, cases_eq, same_Some, Beat, Channel, IsWidth, Message, MessageA, beat_of, unfinished}
use proofs.Imports.{completes, Config, Cap, Report, Perm, prune_left, same_perm, is_acquire, EndConfig, End, Handed}
use proofs.Imports.{access_answer, cap_probed, reaction, Deliver, Outcome, IsInvariant, IsWell, Grant, Kind, Packet}
use proofs.Imports.{ProbeAck, Release, ReleaseAck, set, AcquireOpen, AcquirePhase, NoAcquire, ProbeAnswered}
use proofs.Imports.{is_unprobed, after_report, is_granted_data, Block, Free, GrantSent, GrantTaken, Service, Waits}
use proofs.Imports.{ended_block, granted_block, let_block, packet, release_taken, report_taken, view, shown}
use proofs.Imports.{AbstractState, abstract_step, ack_taken, answers, granted_after, last_taken, packet_taken, performs}
use proofs.Imports.{with_state, some_below, ChannelRelation, prune_told, report_told, block_message, SimulationRelation}
use proofs.Imports.{is_caching, IsFor, receiver, Log, handing, is_to_client, stepped, System, channel_of_message}
use proofs.Imports.{terms_at, with_channel, with_manager, with_messages}
use Rattle.tl_coherence.specs.protocol.Protocol as protocol
use Rattle.tl_rules.specs.declared.answer.Answer.{Answer}
use Rattle.tl_rules.specs.declared.answer.Answer as answers_of
use Rattle.tl_manager.specs.code.Kept as manager
use proofs.queues.{Phases.nothing_below, Facts.answered_other, Facts.is_other, Facts.own_wants}
use proofs.queues.FirstToken.{carries, none-carried, first-token}
use proofs.queues.Channels.{behind, IsTaken, pushes_at, carried-shown}
use proofs.queues.Tokens.{set-same, set-other, set-part, same_number, set_at-same}
use proofs.queues.Steps.{IsLanded, IsOn, landed-manager, channels-handed, pushes_of, taken-landed, on_own_channel}
use proofs.manager.{Memories.left, Memories.others_probed, ManagerTakes.IsTakenUp, ManagerTakes.by-first_c}
use proofs.manager.{Admitted.head_all, Accounts.plain-past, ManagerSettles.gift_after, Reporting.report-about}
use proofs.manager.{Reporting.release-about, RequestsTaken.invariant-taken, RequestsTaken.next_tracker}
use proofs.deliveries.ManagerDelivered.{pushed, Delivered, channel_c-delivered, pushed_by, releases-delivered}
use proofs.deliveries.ManagerDelivered.{reports-delivered, pushed_last, seen_apart}
use proofs.deliveries.DeliverDUnmoved.{client-of, step-taken, followed-taken}
use proofs.simulation.Moved.{carried-part, manager-heard}
use proofs.simulation.CarriedEvents.{release_taken-shown, report_taken-shown, report_answers-shown, report_grants-shown}
use proofs.protocol.{RequestsKept.leaves-bytes, RequestsKept.settled_all, Granted.recorded_within}
use proofs.protocol.BothParts.{taken-unseen, granted-unseen, first-report}
use proofs.rank.RankParts.{serving-use}

-- ---- an access that ends leaves the bytes on their way, or there are none

-- a service that probes toN, with its last ProbeAck: nobody is recorded then
unrecorded : {caching : ℕ → Bool} (c q source : ℕ) (r : Report) (f : List ℕ → List ℕ) {b : Block (List ℕ)}
    → IsWell caching b → b.service ≡ Waits q false source Cap.ToN → (b.pair c).probing ≡ ProbeAnswered r
    → ((d : ℕ) → (d ≡ c → ⊥) → is_unprobed (b.pair d).probing ≡ true) → (d : ℕ)
    → same_perm ((ended_block c r f b).pair d).recorded Perm.None ≡ true
unrecorded c q source r f {b} well waits answered settled d = nothing_below _ Perm.None
    (recorded_within c r Cap.ToN well answered settled (rw waits refl) d (rw waits refl)) refl

pub ended-bytes : {w : ℕ} {caching : ℕ → Bool} (c q source : ℕ) (r : Report) (k : Cap) (m : MessageA w)
    {b : Block (List ℕ)} → IsWell caching b → IsWell caching (ended_block c r (performs m) b)
    → b.service ≡ Waits q false source k → (b.pair c).probing ≡ ProbeAnswered r
    → ((d : ℕ) → (d ≡ c → ⊥) → is_unprobed (b.pair d).probing ≡ true) → is_acquire m.opcode ≡ false
    → cap_probed m.opcode m.param ≡ Some k → length b.truth ≡ 64 → (j : Kind) (i : ℕ) → shown j i b ≡ true
    → shown j i (ended_block c r (performs m) b) ≡ true → (carries j i b ≡ false) ⊎ (performs m b.truth ≡ b.truth)
ended-bytes {w} {caching} c q source r k m {b} before after waits answered settled access low long j i shown_now
    shown_after = elim (leaves-bytes m b.truth access long) [
      | inl same ↦ inr same
      | inr all ↦ inl (kept j shown_after ∙ none-carried after
          (λ d. rw (unrecorded c q source r (performs m) before (rw (same_Some k Cap.ToN (sym low ∙ all)) at waits)
          answered settled d) (or-true (same_perm (new.pair d).held Perm.Trunk))) j i)
    ]
  where
    new : Block (List ℕ)
    new = ended_block c r (performs m) b

    -- what is shown then was so before
    kept : (x : Kind) → shown x i new ≡ true → carries x i b ≡ carries x i new
    kept ProbeAck e = elim (cases_eq i c) [
      | inl same ↦ absurd (let quiet : false ≡ true = rw (same, set-same c (after_report r (b.pair c)) b.pair) at e in
          cc)
      | inr other ↦ rw (set-other c i (after_report r (b.pair c)) b.pair other) refl
    ]
    kept Release e = sym (set-part (λ p. same_perm (prune_left (prune_told p.letting)) Perm.Trunk) c
        (after_report r (b.pair c)) b.pair refl i)
    kept Grant e = rw waits refl
    kept x e = refl

-- ---- the whole after a beat was taken

-- nothing is handed out
abbrev pub no_pushes : {w : ℕ} → ℕ → Channel → Option (Message w)
no_pushes d at = None

no-messages : {w : ℕ} (s : System w) (d : ℕ) (at : Channel)
    → (with_messages [] s).channels d at ≡ behind (no_pushes d at) (s.channels d at)
unfolding with_messages
no-messages s d at = refl

landed-taken : {w : ℕ} {config : Config} {c : ℕ} {ch : Channel} {x : Beat w} (queue : List (Beat w))
    (sys : System w) (t : EndConfig) (handed : Handed w) (pushes : ℕ → Channel → Option (Message w)) → IsWidth w
    → manager.IsKept config sys.manager → manager.IsTyped x → is_to_client ch ≡ false → IsOn ch x
    → terms_at config c ≡ Some t → sys.channels c ch ≡ x ∷ queue → IsTakenUp config c ch x sys.manager
    → (reaction config (record { 0 = c }) x sys.manager).handed ≡ handed
    → ((s : System w) (d : ℕ) (at : Channel) → (with_messages handed s).channels d at ≡ behind (pushes d at)
    (s.channels d at)) → IsLanded c ch x queue pushes sys (stepped config (Deliver (record { 0 = c }) ch) sys).after
landed-taken {w} {config} {c} {ch} {x} queue sys t handed pushes width kept typed down on_ch terms beats up is pushed =
    let e : End w = left c x (reaction config (record { 0 = c }) x sys.manager) sys.manager in
    let base : System w = with_manager e (with_channel c ch queue sys) in
    let step = step-taken config c ch x queue sys t terms beats down up in
    subst (λ i. IsLanded c ch x queue pushes sys i.after) (sym (step ∙ ap (λ i. handing (Outcome.Moved x) i base) is))
    (landed-manager c ch x queue pushes handed e sys down beats on_ch (manager-heard config
    (record { 0 = c }) ch x queue sys (stepped config (Deliver (record { 0 = c }) ch) sys) width typed kept
    (record { takes = up.answer; step_is = step })) (pushed base))

-- a beat of channel C, or of channel E, is of that channel
-- what holds before a delivery to the manager
pub record IsReceived {w : ℕ} (config : Config) (log : Log w) (h : AbstractState w) (sys : System w) (c : ℕ)
    (ch : Channel) (x : Beat w) (queue : List (Beat w)) : Type 0 where
  pub width : IsWidth w
  pub is : SimulationRelation config log h.mail h.request h.state sys
  pub beats : sys.channels c ch ≡ x ∷ queue
  pub down : is_to_client ch ≡ false
  pub on_ch : IsOn ch x
  pub up : IsTakenUp config c ch x sys.manager

landed-received : {w : ℕ} {config : Config} {log : Log w} {h : AbstractState w} {sys : System w} {c : ℕ} {ch : Channel}
    {x : Beat w} {queue : List (Beat w)} (handed : Handed w) (pushes : ℕ → Channel → Option (Message w))
    → IsReceived config log h sys c ch x queue → (reaction config (record { 0 = c }) x sys.manager).handed ≡ handed
    → ((s : System w) (d : ℕ) (at : Channel) → (with_messages handed s).channels d at ≡ behind (pushes d at)
    (s.channels d at)) → IsLanded c ch x queue pushes sys (stepped config (Deliver (record { 0 = c }) ch) sys).after
landed-received {config} {sys} {c} {ch} {x} {queue} handed pushes at is pushed =
    let t = client-of config c ch x queue sys at.beats (at.is.sound c ch) in
    landed-taken queue sys t.0 _ pushes at.width at.is.manager_kept (head_all (λ y. manager.IsSound config
    (record { 0 = c }, y)) x queue (sys.channels c ch) at.beats (at.is.sound c ch)).typed at.down at.on_ch t.1 at.beats
    at.up is pushed

-- the channels then
abbrev pub CarriesAfter : {w : ℕ} → Config → ℕ → Channel → System w → AbstractState w → Type 0
CarriesAfter config c ch sys h =
    ChannelRelation h.mail h.state (stepped config (Deliver (record { 0 = c }) ch) sys).after

-- a beat that isn't the last of its message
pub part-carried : {w : ℕ} {config : Config} {log : Log w} {h : AbstractState w} {sys : System w} {c : ℕ} {ch : Channel}
    {x : Beat w} {queue : List (Beat w)}
    → IsReceived config log h sys c ch x queue → (reaction config (record { 0 = c }) x sys.manager).handed ≡ []
    → completes x (unfinished ch (receiver ch c sys)) ≡ false → CarriesAfter config c ch sys h
part-carried {h} at none part = carried-part h.mail h.state at.width
    (landed-received [] no_pushes at none no-messages) (λ d i. refl) part at.is.carried

-- its last beat, for which one message is handed out, or none
pub last-quietly : {w : ℕ} {config : Config} {log : Log w} {h : AbstractState w} {sys : System w} {c : ℕ} {ch : Channel}
    {x : Beat w} {queue : List (Beat w)} → IsReceived config log h sys c ch x queue
    → (reaction config (record { 0 = c }) x sys.manager).handed ≡ [] → completes x (unfinished ch (receiver ch c sys))
    ≡ true → IsTaken c ch x queue no_pushes sys (stepped config (Deliver (record { 0 = c }) ch) sys).after
last-quietly at none last = taken-landed (landed-received [] no_pushes at none no-messages) last

pub last-handing : {w : ℕ} {config : Config} {log : Log w} {h : AbstractState w} {sys : System w} {c : ℕ} (q : ℕ)
    {ch : Channel} {x : Beat w} {queue : List (Beat w)} (m : Message w) → IsReceived config log h sys c ch x queue
    → (reaction config (record { 0 = c }) x sys.manager).handed ≡ (record { 0 = q }, m) ∷ []
    → completes x (unfinished ch (receiver ch c sys)) ≡ true → IsTaken c ch x queue (pushes_at q (pushes_of (Some m)))
    sys (stepped config (Deliver (record { 0 = c }) ch) sys).after
last-handing q m at one last = taken-landed (landed-received ((record { 0 = q }, m) ∷ [])
    (pushes_at q (pushes_of (Some m))) at one (λ s d i. channels-handed q (Some m) s d i)) last

-- ---- which messages are of channel D

pub answer_on_d : {w : ℕ} (v : MessageA w) (kind : answers_of.Answer)
    → channel_of_message (access_answer v kind) ≡ Channel.D
answer_on_d v kind = grind arith

pub grant_on_d : (w : ℕ) (q n : ℕ) (b : Block (List ℕ)) (d : Bool) (k : Cap) → b.service ≡ GrantSent q d k
    → channel_of_message {w = w} (block_message Grant q n b) ≡ Channel.D
unfolding block_message
grant_on_d w q n b d k e = rw e refl

pub ack_on_d : (w : ℕ) (c n : ℕ) (b : Block (List ℕ)) → channel_of_message {w = w} (block_message ReleaseAck c n b)
    ≡ Channel.D
unfolding block_message
ack_on_d w c n b = refl

-- ---- a ProbeAck

reports-last : {w : ℕ} {config : Config} {log : Log w} {h : AbstractState w} {sys : System w} {c : ℕ} (n : ℕ)
    (rest : List Packet) {x : Beat w} {queue : List (Beat w)} → IsReceived config log h sys c Channel.C x queue
    → (h.state.link c).c ≡ packet ProbeAck n ∷ rest → completes x (unfinished Channel.C (receiver Channel.C c sys))
    ≡ true → (reaction config (record { 0 = c }) x sys.manager).handed ≡ pushed config c ProbeAck n h
    (ack_taken (length config.clients.items) config.profile c n (report_told ((h.state.block n).pair c).probing) rest h)
    → CarriesAfter config c Channel.C sys (ack_taken (length config.clients.items) config.profile c n
    (report_told ((h.state.block n).pair c).probing) rest h)
reports-last {w} {config} {log} {h} {sys} {c} n rest {x} {queue} at tokens whole handed = others (some_below (length
    config.clients.items) (others_probed c b.pair)) refl (invariant-taken h c ProbeAck n rest at.is tokens tt) handed
  where
    b : Block (List ℕ)
    b = h.state.block n

    r : Report
    r = report_told (b.pair c).probing

    inv : IsInvariant (is_caching config) h.state
    inv = at.is.invariant

    after : System w
    after = (stepped config (Deliver (record { 0 = c }) Channel.C) sys).after

    seen : is_other (view b.service c) ≡ true
    seen = answered_other r _ _ ((inv.blocks n).phases c) (first-report inv tokens)

    Hands : Handed w → Type 0
    Hands pushes = (reaction config (record { 0 = c }) x sys.manager).handed ≡ pushes

    last : some_below (length config.clients.items) (others_probed c b.pair) ≡ false → (service : Service)
        → b.service ≡ service → IsInvariant (is_caching config) (last_taken (length config.clients.items) config.profile
        c n r service rest h).state
        → Hands (pushed_last n service (last_taken (length config.clients.items) config.profile c n r service rest h))
        → CarriesAfter config c Channel.C sys (last_taken (length config.clients.items) config.profile c n r service
        rest h)
    last alone Free f later one = absurd (let other : false ≡ true = rw f at seen in cc)
    last alone (GrantSent q d low) f later one = absurd (granted-unseen (c == q) d low (rw f at seen))
    last alone (GrantTaken q) f later one = absurd (taken-unseen (c == q) (rw f at seen))
    last alone (Waits q false source low) f later one =
        let v : MessageA w = h.request n in
        let said : Message w = answers v (protocol.written r b.truth b.memory) in
        let for : IsFor (Waits q false source low) n v = rw f at (at.is.served.requests n) in
        carried-shown at.width (report_answers-shown c q n source r low (performs v) rest said h.mail inv later tokens f
        (rw (serving-use n q source low inv f) refl) (ended-bytes c q source r low v (inv.blocks n)
        (subst (IsWell (is_caching config)) (set-same n (ended_block c r (performs v) b) h.state.block)
        (later.blocks n)) f (first-report inv tokens) (settled_all (length config.clients.items) (is_caching config) c
        b.pair (plain-past config) (inv.blocks n).outside alone) for.0 for.3 (at.is.sized n).truth) (answer_on_d v _))
        (last-handing q said at (one ∙ rw (set_at-same q source said h.mail.answer) refl) whole) at.is.carried
    last alone (Waits q true source low) f later one = go _ refl later one
      where
        go : (y : AcquirePhase) → (b.pair q).acquiring ≡ y
            → IsInvariant (is_caching config) (granted_after (length config.clients.items) config.profile c q n r y rest
            h).state → Hands ((
              record { 0 = q },
              block_message Grant q n
                  ((granted_after (length config.clients.items) config.profile c q n r y rest h).state.block n),
            ) ∷ [])
            → CarriesAfter config c Channel.C sys (granted_after (length config.clients.items) config.profile c q n r y
            rest h)
        go NoAcquire g then_well one = absurd (let wants = own_wants _ _
            ((inv.blocks n).phases q) (rw (f, same_number q) refl) in let none : false ≡ true = rw g at wants in cc)
        go (AcquireOpen whole_block grow) g then_well one =
            let d = is_granted_data whole_block grow (b.pair q).recorded in
            let gift = gift_after config c n r whole_block grow h in
            let new : Block (List ℕ) = granted_block c q r d gift b in
            carried-shown at.width (report_grants-shown c q n source r d low gift rest
            (block_message Grant q n new) h.mail inv then_well tokens f (seen_apart q source low c (rw f at seen))
            (grant_on_d w q n new d gift refl) refl) (last-handing q (block_message Grant q n new) at
            (cc (set-same n new h.state.block)) whole) at.is.carried

    others : (y : Bool) → some_below (length config.clients.items) (others_probed c b.pair) ≡ y
        → IsInvariant (is_caching config) (if y then with_state (report_taken c n r rest h.state) h else last_taken
        (length config.clients.items) config.profile c n r b.service rest h).state
        → Hands (if some_below (length config.clients.items) (others_probed c b.pair) then [] else pushed_last n
        b.service (if y then with_state (report_taken c n r rest h.state) h else last_taken
        (length config.clients.items) config.profile c n r b.service rest h))
        → CarriesAfter config c Channel.C sys (if y then with_state (report_taken c n r rest h.state) h else last_taken
        (length config.clients.items) config.profile c n r b.service rest h)
    others true f later one = carried-shown at.width (report_taken-shown c n r rest h.mail inv later tokens)
        (last-quietly at (one ∙ rw f refl) whole) at.is.carried
    others false f later one = last f b.service refl later (one ∙ rw f refl)

-- ---- any beat of channel C or E

-- where the beat isn't the last of its message, and where it is
by-place : {w : ℕ} {config : Config} {log : Log w} {h : AbstractState w} (h' : AbstractState w) (pushes : Handed w)
    {sys : System w} {c : ℕ} {ch : Channel} {x : Beat w} {queue : List (Beat w)}
    → IsReceived config log h sys c ch x queue → (reaction config (record { 0 = c }) x sys.manager).handed
    ≡ (if completes x (unfinished ch (receiver ch c sys)) then pushes else [])
    → (completes x (unfinished ch (receiver ch c sys)) ≡ true
    → (reaction config (record { 0 = c }) x sys.manager).handed ≡ pushes → CarriesAfter config c ch sys h')
    → CarriesAfter config c ch sys (if completes x (unfinished ch (receiver ch c sys)) then h' else h)
by-place {w} {config} {log} {h} h' pushes {sys} {c} {ch} {x} {queue} at handed last =
    grind (arith, CarriesAfter, part-carried)

-- the beat that is first on channel C is one of it
received_on : {w : ℕ} {config : Config} {log : Log w} (h : AbstractState w) {sys : System w} (c : ℕ) (x : Beat w)
    (queue : List (Beat w)) → IsWidth w → SimulationRelation config log h.mail h.request h.state sys
    → sys.channels c Channel.C ≡ x ∷ queue → IsOn Channel.C x
unfolding block_message
received_on {config} h {sys} c x queue width is beats = by-first_c (λ i. IsOn Channel.C x) c h.mail h.state sys x
    queue (first-token (is_caching config) Channel.C c h.mail h.state sys x queue width is.invariant is.carried beats)
    (λ n rest tokens next.
    let m = report-about (report_told ((h.state.block n).pair c).probing) n _ width (is.sized n).truth in
    subst (IsOn Channel.C) (sym (next.beat_is ∙ ap (λ i. beat_of i next.k) m.1))
    (on_own_channel (beat_of (Message.C m.0) next.k))) (λ n rest tokens next.
    let m = release-about (prune_told ((h.state.block n).pair c).letting) ((h.state.block n).release_source c) n
    _ width (is.sized n).truth in
    subst (IsOn Channel.C) (sym (next.beat_is ∙ ap (λ i. beat_of i next.k) m.1))
    (on_own_channel (beat_of (Message.C m.0) next.k)))

-- the channels after a delivery on C, as the protocol follows it
pub carried-followed_c : {w : ℕ} {config : Config} {log : Log w} (h : AbstractState w) {sys : System w} (c : ℕ)
    (x : Beat w) (queue : List (Beat w)) → IsWidth w
    → SimulationRelation config log h.mail h.request h.state sys → sys.channels c Channel.C ≡ x ∷ queue
    → CarriesAfter config c Channel.C sys (abstract_step config (Deliver (record { 0 = c }) Channel.C) sys h)
carried-followed_c {w} {config} {log} h {sys} c x queue width is beats =
    let t = client-of config c Channel.C x queue sys beats (is.sound c Channel.C) in
    subst (CarriesAfter config c Channel.C sys) (sym (followed-taken queue sys h t.0 t.1 beats refl any.up))
    (by-first_c (λ i. CarriesAfter config c Channel.C sys
    (if completes x before then packet_taken config (next_tracker sys) c i h else h)) c h.mail h.state sys x queue
    (first-token (is_caching config) Channel.C c h.mail h.state sys x queue width is.invariant is.carried beats)
    (λ n rest tokens next.
    let d = reports-delivered h c n rest width is beats tokens next in
    by-place _ _ at d.handed (λ whole one. reports-last n rest at tokens whole one)) (λ n rest tokens next.
    let d = releases-delivered h c n rest width is beats tokens next in
    by-place _ _ at d.handed (λ whole one. releases-last n rest tokens whole one)))
  where
    before : List (Beat w)
    before = unfinished Channel.C (receiver Channel.C c sys)

    any : Delivered config c Channel.C before h (packet_taken config (next_tracker sys) c (h.state.link c).c h)
        (pushed_by config c (h.state.link c).c h (packet_taken config (next_tracker sys) c (h.state.link c).c h))
        sys.manager x
    any = channel_c-delivered (next_tracker sys) h c x queue width is beats

    at : IsReceived config log h sys c Channel.C x queue
    at = record {
      width = width;
      is = is;
      beats = beats;
      down = refl;
      on_ch = received_on h c x queue width is beats;
      up = any.up;
    }

    releases-last : (n : ℕ) (rest : List Packet) → (h.state.link c).c ≡ packet Release n ∷ rest
        → completes x before ≡ true → (reaction config (record { 0 = c }) x sys.manager).handed
        ≡ (
          record { 0 = c },
          block_message ReleaseAck c n
              (set n (let_block c (prune_told ((h.state.block n).pair c).letting) (h.state.block n)) h.state.block n),
        ) ∷ []
        → CarriesAfter config c Channel.C sys
        (with_state (release_taken c n (prune_told ((h.state.block n).pair c).letting) rest h.state) h)
    releases-last n rest tokens whole one =
        let new : Block (List ℕ) = let_block c (prune_told ((h.state.block n).pair c).letting) (h.state.block n) in
        carried-shown width (release_taken-shown c n (prune_told ((h.state.block n).pair c).letting) rest
        (block_message ReleaseAck c n new) h.mail is.invariant
        (invariant-taken h c Release n rest is tokens tt) tokens (ack_on_d w c n new) refl)
        (last-handing c (block_message ReleaseAck c n new) at (cc (set-same n new h.state.block)) whole) is.carried
