-- A beat that is delivered to the manager: the channels and the one memory afterwards, by what is handed out.
-- A Probe that is delivered to a client: the channels and the one memory afterwards.
use Rattle.std.proofs.Common.{◌≡◌, ℕ, ◌*◌, Bool, true, false, if◌then◌else◌, List, [], ◌∷◌, Option, Some, None, Ok}
use Rattle.std.proofs.Common.{refl, sym, ◌∙◌, ap, subst, arith, All, map}
use Rattle.tl_coherence.proofs
use proofs.Imports.{All-head, Beat, BeatB, Link, Channel, OpB, IsWidth, Message, beat_of, channel_of, unfinished}
use proofs.Imports.{completes, Config, Cap, Prune, Report, Perm, report_at, report_left, same_perm, on_link, block_at}
use proofs.Imports.{same_block, Verdict, copy_at, held_at, report_for, probe_ack, release, reaction-part, Handed}
use proofs.Imports.{reaction, Deliver, Outcome, Acquire, Answer, GrantAck, Kind, Packet, Probe, ProbeAck, Release}
use proofs.Imports.{Request, AcquirePhase, ClientBlock, is_unreleased, after_probe, Block, is_on, packet, packets_on}
use proofs.Imports.{probe_taken, probed_block, AbstractState, abstract_step, kind_taken, ChannelRelation}
use proofs.Imports.{MemoryRelation, acquire_of, cap_sent, message_of, message_of_kind, probe_beat, prune_told}
use proofs.Imports.{report_told, block_message, IsRequest, SimulationRelation, is_caching, receiver, is_moving, Log}
use proofs.Imports.{system_after, moved, accesses_answered, one_memory_after, performing, Step, handed_by, handing}
use proofs.Imports.{is_to_client, stepped, System, channel_of_message, terms_at, with_channel, with_client}
use proofs.Imports.{with_manager, with_messages}
use Rattle.tl_client.specs.statement.Endpoint as client
use Rattle.tl_client.specs.statement.Offer as offer
use Rattle.tl_manager.specs.code.Kept as manager
use Rattle.tl_manager.specs.statement.End as manager_end
use Rattle.tl_manager.specs.statement.Offer as manager_offer
use proofs.memory.BesideKinds.{beside_block, same_acquiring}
use proofs.queues.{Carried.IsNext, FirstToken.IsFirst, FirstToken.first-token, Tokens.set-same}
use proofs.queues.Channels.{carried-shown, IsTaken, pushes_at, behind}
use proofs.queues.Steps.{pushes_of, IsOn, landed-client, taken-landed, on_own_channel, HasTaken, landed-manager}
use proofs.simulation.{CarriedEvents.probe_taken-shown, SizedAfter.first-asked}
use proofs.simulation.Moved.{IsTakenByClient, client-moves, client-heard, manager-moves, manager-heard, carried-part}
use proofs.client.{DeliverD.same_answers, KnownProbed.report_is}
use proofs.client.ProbeDelivered.{IsProbed, probe-delivered}
use proofs.deliveries.DeliverDUnmoved.{followed-moving, IsDelivered, delivered_as}
use proofs.deliveries.ReportsAfter.{remembered_after}
use proofs.protocol.BothParts.{kept-is, first-probe}
use proofs.manager.RequestsTaken.{next_tracker, invariant-taken}

-- ---- the channel of a message, and of its beats

channel_of_beat : {w : ℕ} (m : Message w) (i : ℕ) → channel_of (beat_of m i) ≡ channel_of_message m
channel_of_beat m i = grind arith

pub on_message : {w : ℕ} (m : Message w) (i : ℕ) → IsOn (channel_of_message m) (beat_of m i)
on_message m i = subst (λ ch. IsOn ch (beat_of m i)) (channel_of_beat m i) (on_own_channel (beat_of m i))

acquire_channel : (w : ℕ) (x : AcquirePhase) (source n : ℕ)
    → channel_of_message {w = w} (acquire_of x source n) ≡ Channel.A
acquire_channel w x source n = grind arith

pub ack_channel : (w : ℕ) (p : Perm) (r : Report) (n : ℕ) (x : List ℕ)
    → channel_of_message {w = w} (probe_ack OpB.ProbeBlock p r n x) ≡ Channel.C
ack_channel w p r n x = grind arith

pub release_channel : (w : ℕ) (p : Prune) (source n : ℕ) (x : List ℕ)
    → channel_of_message {w = w} (release p source n x) ≡ Channel.C
release_channel w p source n x = grind arith

request_channel : {w : ℕ} (config : Config) (c source : ℕ) (m : Message w) → IsRequest config c source m
    → channel_of_message m ≡ Channel.A
request_channel config c source m e = grind arith

rendered_channel : (w : ℕ) (ch : Channel) (k : Kind) (c n : ℕ) (b : Block (List ℕ)) → is_to_client ch ≡ false
    → is_on ch k ≡ true → (k ≡ Request → ⊥) → channel_of_message (block_message {w = w} k c n b) ≡ ch
unfolding block_message
rendered_channel w Channel.A Acquire c n b down own other = acquire_channel w (b.pair c).acquiring (b.source c) n
rendered_channel w Channel.A Request c n b down own other = absurd (other refl)
rendered_channel w Channel.C ProbeAck c n b down own other =
    ack_channel w (report_left (report_told (b.pair c).probing)) (report_told (b.pair c).probing) n b.truth
rendered_channel w Channel.C Release c n b down own other =
    release_channel w (prune_told (b.pair c).letting) (b.release_source c) n b.truth
rendered_channel w Channel.E GrantAck c n b down own other = refl
rendered_channel w ch k c n b down own other = absurd cc

-- ---- the beat, and the step

-- a beat that the manager takes: which it is, and what the step is where this is handed out
pub record IsAtManager {w : ℕ} (config : Config) (log : Log w) (link : Link) (ch : Channel) (h : AbstractState w)
    (x : Beat w) (queue : List (Beat w)) : Type 0 where
  pub first : IsFirst ch link.0 h.mail h.state (system_after config log) x queue
  pub on_it : IsOn ch x
  pub of_it : channel_of x ≡ ch
  pub beats : (system_after config log).channels link.0 ch ≡ x ∷ queue
  pub heard : HasTaken link.0 x (system_after config log).manager
      (manager_offer.taken link x (reaction config link x (system_after config log).manager)
      (system_after config log).manager)
  pub step_is : stepped config (Deliver link ch) (system_after config log) ≡ handing (Outcome.Moved x)
      (reaction config link x (system_after config log).manager).handed
      (with_manager (manager_offer.taken link x (reaction config link x (system_after config log).manager)
      (system_after config log).manager) (with_channel link.0 ch queue (system_after config log)))
  pub follows : abstract_step config (Deliver link ch) (system_after config log) h
      ≡ (if completes x (unfinished ch (receiver ch link.0 (system_after config log))) then kind_taken config
      (next_tracker (system_after config log)) link.0 first.kind first.number first.rest h else h)

pub at-manager : {w : ℕ} {config : Config} {log : Log w} (link : Link) (ch : Channel) (h : AbstractState w)
    (terms : client.EndConfig) (x : Beat w) (queue : List (Beat w)) → IsWidth w
    → SimulationRelation config log h.mail h.request h.state (system_after config log)
    → terms_at config link.0 ≡ Some terms → is_to_client ch ≡ false → (system_after config log).channels link.0 ch
    ≡ x ∷ queue → is_moving (stepped config (Deliver link ch) (system_after config log)).outcome ≡ true
    → IsAtManager config log link ch h x queue
at-manager {w} {config} {log} link ch h terms x queue width is known down beats moving =
    let first = first-token (is_caching config) ch link.0 h.mail _ _ x queue width is.invariant is.carried beats in
    let t = manager-moves config link ch _ terms x queue known beats down moving in
    let chan = message_channel _ _ first.tokens first.own in
    record {
      first = first;
      on_it = subst (λ i. IsOn i x) chan (subst (λ z. IsOn (channel_of_message
          (message_of_kind first.kind h.mail h.state link.0 first.number)) z) (sym first.next.beat_is)
          (on_message (message_of_kind first.kind h.mail h.state link.0 first.number) first.next.k));
      of_it = ap (λ z. channel_of z) first.next.beat_is ∙ channel_of_beat
          (message_of_kind first.kind h.mail h.state link.0 first.number) first.next.k ∙ chan;
      beats = beats;
      heard = manager-heard _ link ch x queue _ _ width head.typed is.manager_kept t;
      step_is = t.step_is;
      follows = cc (followed-moving config link ch (system_after config log) h x queue moving beats, first.tokens);
    }
  where
    head : manager.IsSound config (record { 0 = link.0 }, x)
    head =
        let same : (system_after config log).channels link.0 ch ≡ x ∷ queue
        → All (λ y. manager.IsSound config (record { 0 = link.0 }, y)) ((system_after config log).channels link.0 ch)
        → All (λ y. manager.IsSound config (record { 0 = link.0 }, y)) (x ∷ queue) = λ e f. rw e at f in
        All-head (λ y. manager.IsSound config (record { 0 = link.0 }, y)) x queue (same beats (is.sound link.0 ch))

    message_channel : (k : Kind) (i : ℕ) {rest : List Packet} → packets_on ch (h.state.link link.0) ≡ packet k i ∷ rest
        → is_on ch k ≡ true → channel_of_message (message_of_kind k h.mail h.state link.0 i) ≡ ch
    message_channel Request i {rest} tokens own = asked ch tokens own
      where
        asked : (at : Channel) → packets_on at (h.state.link link.0) ≡ packet Request i ∷ rest → is_on at Request ≡ true
            → channel_of_message (h.mail.request link.0 i) ≡ at
        asked Channel.A e f = request_channel config link.0 i (h.mail.request link.0 i)
            (rw (first-asked link.0 i rest h is.invariant e) at (is.sourced link.0 i))
        asked at e f = absurd cc
    message_channel Answer i tokens own =
        let never : (at : Channel) → is_to_client at ≡ false → is_on at Answer ≡ true → channel_of_message
        (h.mail.answer link.0 i) ≡ at = elim [ Channel.D ↦ λ e f. absurd cc | at ↦ λ e f. absurd cc ] in
        never ch down own
    message_channel k i tokens own = rendered_channel w ch k link.0 i (h.state.block i) down own (λ e. absurd cc)

-- the whole where these messages were handed out
abbrev pub after_taken : {w : ℕ} → Config → Link → Channel → Beat w → List (Beat w) → System w → Handed w → System w
after_taken config link ch x queue sys handed = with_messages handed (with_manager
    (manager_offer.taken link x (reaction config link x sys.manager) sys.manager) (with_channel link.0 ch queue sys))

-- What is left to show of the last beat of a message: what the manager hands out, and that the channels and the one
-- memory are those of the protocol then.
pub delivered-last : {w : ℕ} {config : Config} {log : Log w} {link : Link} {ch : Channel} {h : AbstractState w}
    {x : Beat w} {queue : List (Beat w)} (handed : Handed w) (pushes : ℕ → Channel → Option (Message w))
    → is_to_client ch ≡ false → (is : IsAtManager config log link ch h x queue)
    → completes x (unfinished ch (receiver ch link.0 (system_after config log))) ≡ true
    → (reaction config link x (system_after config log).manager).handed ≡ handed
    → ((d : ℕ) (at : Channel) → (after_taken config link ch x queue (system_after config log) handed).channels d at
    ≡ behind (pushes d at) ((with_channel link.0 ch queue (system_after config log)).channels d at))
    → (IsTaken link.0 ch x queue pushes (system_after config log)
    (after_taken config link ch x queue (system_after config log) handed)
    → ChannelRelation (kind_taken config (next_tracker (system_after config log)) link.0 is.first.kind is.first.number
    is.first.rest h).mail (kind_taken config (next_tracker (system_after config log)) link.0 is.first.kind
    is.first.number is.first.rest h).state (after_taken config link ch x queue (system_after config log) handed))
    → MemoryRelation (kind_taken config (next_tracker (system_after config log)) link.0 is.first.kind is.first.number
    is.first.rest h).mail (kind_taken config (next_tracker (system_after config log)) link.0 is.first.kind
    is.first.number is.first.rest h).state (performing (accesses_answered handed) (one_memory_after config log))
    → IsDelivered config log link ch h
delivered-last {w} {config} {log} {link} {ch} {h} {x} {queue} handed pushes down is last gives pushed carried beside =
    let h' = kind_taken config (next_tracker sys) link.0 is.first.kind is.first.number is.first.rest h in
    delivered_as config log link ch h h' (is.follows ∙ ap (λ b. if b then h' else h) last)
    (subst (λ y. ChannelRelation h'.mail h'.state y.after) (sym step_is) (carried (taken-landed
    (landed-manager link.0 ch x queue pushes handed e sys down is.beats is.on_it is.heard pushed) last)))
    (rw (remembered_after config log link ch now step_is) beside)
  where
    sys : System w
    sys = system_after config log

    e : manager_end.End w
    e = manager_offer.taken link x (reaction config link x sys.manager) sys.manager

    now : Step w
    now = handing (Outcome.Moved x) handed (with_manager e (with_channel link.0 ch queue sys))

    step_is : stepped config (Deliver link ch) sys ≡ now
    step_is = cc (is.step_is, gives)

-- ---- a beat that isn't the last of its message

receiver_down : {w : ℕ} (ch : Channel) (c : ℕ) (sys : System w) → is_to_client ch ≡ false
    → receiver ch c sys ≡ on_link c sys.manager.trace
receiver_down ch c sys e = grind arith

pub delivered-part : {w : ℕ} {config : Config} {log : Log w} {link : Link} {ch : Channel} {h : AbstractState w}
    {x : Beat w} {queue : List (Beat w)} → IsWidth w → SimulationRelation config log h.mail h.request h.state
    (system_after config log) → is_to_client ch ≡ false → IsAtManager config log link ch h x queue
    → completes x (unfinished ch (receiver ch link.0 (system_after config log))) ≡ false
    → IsDelivered config log link ch h
unfolding with_messages performing accesses_answered
delivered-part {w} {config} {log} {link} {ch} {h} {x} {queue} width matched down is part =
    delivered_as config log link ch h h (cc is.follows) (rw step_is (carried-part h.mail h.state width
    (landed-manager link.0 ch x queue (λ d at. None) [] e sys down is.beats is.on_it is.heard (λ d at. refl))
    (λ d at. refl) part matched.carried)) (subst (λ m. MemoryRelation h.mail h.state m)
    (sym (remembered_after config log link ch now step_is)) matched.beside)
  where
    sys : System w
    sys = system_after config log

    e : manager_end.End w
    e = manager_offer.taken link x (reaction config link x sys.manager) sys.manager

    now : Step w
    now = handing (Outcome.Moved x) [] (with_manager e (with_channel link.0 ch queue sys))

    step_is : stepped config (Deliver link ch) sys ≡ now
    step_is = is.step_is ∙ ap (λ l. handing (Outcome.Moved x) l
        (with_manager e (with_channel link.0 ch queue sys))) (ap (λ d. d.handed)
        (reaction-part config link x sys.manager (cc (is.of_it, receiver_down ch link.0 sys down, part))))

-- ---- the answer to a Probe

-- a report begins at what is held
left_is : (k : Cap) (p : Perm) → report_left (report_at k p) ≡ p
left_is Cap.ToT Perm.None = refl
left_is Cap.ToB Perm.None = refl
left_is Cap.ToN Perm.None = refl
left_is k p = refl

ack_same : {w : ℕ} (p : Perm) (r : Report) (n : ℕ) (x y : List ℕ) → (same_perm p Perm.None ≡ false → x ≡ y)
    → probe_ack {w = w} OpB.ProbeBlock p r n x ≡ probe_ack OpB.ProbeBlock p r n y
ack_same Perm.Trunk r n x y e = rw (e refl) refl
ack_same p r n x y e = refl

ack_quiet : (w c : ℕ) (p : Perm) (r : Report) (n : ℕ) (x : List ℕ)
    → accesses_answered {w = w} (handed_by c (Some (probe_ack OpB.ProbeBlock p r n x))) ≡ []
unfolding accesses_answered
ack_quiet w c Perm.None r n x = refl
ack_quiet w c p r n x = refl

-- what is rendered after it
rendered_probed : {w : ℕ} (c n : ℕ) (k : Cap) (b : Block (List ℕ))
    → block_message {w = w} ProbeAck c n (probed_block c k b) ≡ probe_ack OpB.ProbeBlock (b.pair c).held
    (report_at k (b.pair c).held) n b.truth
unfolding block_message
rendered_probed c n k b = rw (set-same c (after_probe k (b.pair c)) b.pair, left_is k (b.pair c).held) refl

-- the message that the client hands out
abbrev handed_for : {w : ℕ} → BeatB w → client.Endpoint w → Message w
handed_for x e = probe_ack x.opcode (held_at e (block_at x.address)) (report_for x (held_at e (block_at x.address)))
    (block_at x.address) (copy_at e (block_at x.address))

pub delivered-b : {w : ℕ} {config : Config} {log : Log w} (link : Link) (h : AbstractState w) (terms : client.EndConfig)
    (x : Beat w) (queue : List (Beat w)) → IsWidth w
    → SimulationRelation config log h.mail h.request h.state (system_after config log)
    → terms_at config link.0 ≡ Some terms → (system_after config log).channels link.0 Channel.B ≡ x ∷ queue
    → is_moving (stepped config (Deliver link Channel.B) (system_after config log)).outcome ≡ true
    → IsDelivered config log link Channel.B h
unfolding performing
delivered-b {w} {config} {log} link h terms x queue width is known beats moving =
    let kinds : (k : Kind) (i : ℕ) → (h.state.link c).b ≡ packet k i ∷ first.rest → is_on Channel.B k ≡ true
    → IsNext x (unfinished Channel.B e.past) (message_of_kind k h.mail h.state c i)
    (map (message_of h.mail h.state c) first.rest) queue → IsDelivered config log link Channel.B h =
    elim [ Probe ↦ λ n tokens own next. probe n tokens next | k ↦ λ i tokens own next. absurd cc ] in
    kinds first.kind first.number first.tokens first.own first.next
  where
    sys : System w
    sys = system_after config log

    c : ℕ
    c = link.0

    e : client.Endpoint w
    e = sys.clients c

    first : IsFirst Channel.B c h.mail h.state sys x queue
    first = first-token (is_caching config) Channel.B c h.mail _ sys x queue width is.invariant is.carried beats

    t : IsTakenByClient terms c Channel.B x queue sys (stepped config (Deliver link Channel.B) sys)
    t = client-moves config link Channel.B sys terms x queue known beats refl moving

    probe : (n : ℕ) → (h.state.link c).b ≡ packet Probe n ∷ first.rest
        → IsNext x (unfinished Channel.B e.past) (block_message Probe c n (h.state.block n))
        (map (message_of h.mail h.state c) first.rest) queue → IsDelivered config log link Channel.B h
    probe n tokens next = by_letting (is_unreleased b_pair.letting) refl
      where
        b_pair : ClientBlock
        b_pair = (h.state.block n).pair c

        k : Cap
        k = cap_sent b_pair.probing

        y : BeatB w
        y = probe_beat n k

        probed : IsProbed config terms (next_tracker sys) c n (record {
          state = h.state;
          mail = h.mail;
          request = h.request;
        }) x e
        probed = probe-delivered terms (next_tracker sys) c n _ width is known beats tokens next

        answers : (offer.taken x e).answer ≡ Ok (Verdict.Taken, Some (handed_for y e))
        answers = ap (λ z. (offer.taken z e).answer) probed.beat_is ∙ refl

        same_parts : (t.verdict_is ≡ Verdict.Taken) × (t.message ≡ Some (handed_for y e))
        same_parts = same_answers t.verdict_is Verdict.Taken t.message (Some (handed_for y e)) _ t.answer answers

        ack : Message w
        ack = probe_ack OpB.ProbeBlock b_pair.held (report_at k b_pair.held) n (h.state.block n).truth

        copied : same_perm b_pair.held Perm.None ≡ false → copy_at e n ≡ (h.state.block n).truth
        copied some = cc (is.copies c n some, (is.invariant.blocks n).copies c some)

        handed_at : (m : ℕ) → m ≡ n → probe_ack {w = w} OpB.ProbeBlock (held_at e m) (report_for y (held_at e m)) m
            (copy_at e m) ≡ ack
        handed_at m at = cc (
          at,
          (is.known c).held_is n,
          report_is w n k b_pair.held,
          ack_same b_pair.held (report_at k b_pair.held) n (copy_at e n) (h.state.block n).truth copied,
        )

        now : Step w
        now = handing (Outcome.Moved x) (handed_by c (Some ack))
            (with_client c (offer.taken x e).after (with_channel c Channel.B queue sys))

        step_is : stepped config (Deliver link Channel.B) sys ≡ now
        step_is = cc (t.step_is, same_parts.0, same_parts.1 ∙ ap Some (handed_at (block_at (64 * n)) (same_block n)))

        taken : IsTaken c Channel.B x queue (pushes_at c (pushes_of (Some ack))) sys now.after
        taken = taken-landed (landed-client c Channel.B x queue (Some ack) (offer.taken x e).after sys refl beats
            (subst (λ z. IsOn Channel.B z) (sym probed.beat_is) (on_own_channel (Beat.B y)))
            (client-heard width (is.kept c) t)) probed.whole

        by_letting : (b : Bool) → is_unreleased b_pair.letting ≡ b → IsDelivered config log link Channel.B h
        by_letting true kept =
            let inv = invariant-taken h c Probe n _ is tokens (kept-is b_pair.letting kept) in
            delivered_as config log link Channel.B h (kind_taken config (next_tracker sys) c Probe n first.rest h)
            cc (followed-moving config link Channel.B sys h x queue moving beats, probed.whole, tokens)
            (subst (λ z. ChannelRelation h.mail (probe_taken c n k first.rest h.state) z.after) (sym step_is)
            (carried-shown width (probe_taken-shown c n k first.rest ack h.mail is.invariant inv tokens
            (first-probe is.invariant tokens) (ack_channel w b_pair.held (report_at k b_pair.held) n
            (h.state.block n).truth) (rendered_probed c n k (h.state.block n))) taken is.carried))
            (subst (λ m. MemoryRelation h.mail (probe_taken c n k first.rest h.state) m)
            (sym (remembered_after config log link Channel.B now step_is ∙ ap (λ l. performing l
            (moved (Deliver link Channel.B) now.outcome (one_memory_after config log))) (ack_quiet w c b_pair.held
            (report_at k b_pair.held) n (h.state.block n).truth))) (beside_block n (probed_block c k
            (h.state.block n)) (probe_taken c n k first.rest h.state) (λ i. refl) (λ d i. refl) (λ d i. refl) refl
            (λ d. same_acquiring c (after_probe k b_pair) (h.state.block n).pair refl d) (λ d. refl) is.beside))
        by_letting false open_ =
            let stalled = ap (λ o. o.answer) (sym t.takes ∙ probed.waits_for open_) in
            let differ = (same_answers Verdict.Taken Verdict.Stalled (Some (handed_for y e)) None
            (offer.taken x e).answer answers stalled).0 in
            absurd (absurd cc)
