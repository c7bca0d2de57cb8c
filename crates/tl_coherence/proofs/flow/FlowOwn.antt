-- What is delivered on a link, as a beat of it is: each value of it is that of the protocol afterwards.
use Rattle.std.proofs.Common.{◌≡◌, ℕ, Bool, true, false, if◌then◌else◌, List, ◌∷◌, refl, sym, ◌∙◌, ap, subst, inl}
use Rattle.std.proofs.Common.{length}
use Rattle.tl_coherence.proofs
use proofs.Imports.{Beat, Channel, IsWidth, Message, MessageC, MessageE, beat_of, History, completes, Config, Cap}
use proofs.Imports.{cap_asked, Acquire, Answer, Grant, GrantAck, Kind, Packet, Probe, ProbeAck, Release, ReleaseAck}
use proofs.Imports.{Request, AcquireOpen, is_whole, after_probe, after_release_ack, is_granted_data, State}
use proofs.Imports.{acquire_granted, acquire_served, is_on, is_probed, let_go_block, packet, packets_on, probe_taken}
use proofs.Imports.{probed_block, release_ack_taken, release_taken, AbstractState, acquire_taken, gift, is_unheld}
use proofs.Imports.{kind_taken, with_state, some_below, MonitorRelation, cap_sent, message_of_kind, prune_told}
use proofs.Imports.{block_message, SimulationRelation, asked_by, is_caching, Log, System}
use Rattle.tl_burst.specs.statement.Messages.{on}
use proofs.client.{ClientDelivered.ack_next, ClientEnd.asks-same, ProbeDelivered.probe-beat}
use proofs.client.AsideAll.{Leaves, leaves-at_manager}
use proofs.queues.{Carried.IsNext, Tokens.set-same, Tokens.set-part}
use proofs.flow.{FlowAlone.AreRests, FlowAlone.flowed-asks, FlowAsked.asks-left, FlowBeats.one-beat}
use proofs.flow.{FlowBeats.own-probe, FlowKinds.settled, ChannelD.own-answer, ChannelD.own-release_ack}
use proofs.flow.{ChannelD.own-grant, ChannelA.own-access, ChannelA.own-acquire_served, ChannelA.own-acquire_granted}
use proofs.flow.ChannelCE.{report_rendered, ack_rendered, own-report, own-release, own-grant_ack}
use proofs.protocol.Room.{IsAsked, asked-first, IsWanted, wanted-first, acquisition_beats}
use proofs.protocol.HeadOfD.{IsReady, IsGrantDue, grant-due}
use proofs.manager.RequestsTaken.{acquire_wanted}
use proofs.simulation.Owned.{unfinished_at}

module _ {w : ℕ} {config : Config} {log : Log w} (h : AbstractState w) {sys : System w} {c : ℕ} (width : IsWidth w)
    (is : SimulationRelation config log h.mail h.request h.state sys) (tracker : ℕ) {t : History w}
    (flowed : MonitorRelation (asked_by h.mail h.state c) (unfinished_at sys c) c h.state t) (rest' : Channel
    → List (Beat w)) where
  abbrev s : State (List ℕ)
  s = h.state

  -- what is delivered is that of this shadow, with this beat
  abbrev pub FlowsWith : Beat w → AbstractState w → Type 0
  FlowsWith x z = MonitorRelation (asked_by z.mail z.state c) rest' c z.state (x ∷ t)

  module _ (i : ℕ) (toks : List Packet) (x : Beat w) (ms : List (Message w)) (queue : List (Beat w))
      (rests : AreRests x (unfinished_at sys c) rest') where
    -- after the beat, which was the last of its message or not
    abbrev Goes : Channel → Kind → Type 0
    Goes ch k = packets_on ch (h.state.link c) ≡ packet k i ∷ toks → IsNext x (unfinished_at sys c ch)
        (message_of_kind k h.mail h.state c i) ms queue → (b : Bool) → completes x (unfinished_at sys c ch) ≡ b
        → (b ≡ true → IsReady tracker c k i h) → FlowsWith x (if b then kind_taken config tracker c k i toks h else h)

    contrary : {A : Type 0} (b : Bool) → b ≡ true → b ≡ false → A
    contrary b e f = absurd (let no : true ≡ false = sym e ∙ f in cc)

    -- what of channel D's first message was delivered stays
    d_same : (m : Message w) (k : ℕ) → x ≡ beat_of m k → on Channel.D (beat_of m k) ≡ false
        → rest' Channel.D ≡ unfinished_at sys c Channel.D
    d_same m k e off = cc (rests Channel.D, e, off)

    -- ---- channel A

    goes-request : Goes Channel.A Request
    goes-request tokens next b last ready = go b last ready
      where
        asked : IsAsked config c i h.mail s
        asked = asked-first c i toks is tokens

        here : IsNext x (unfinished_at sys c Channel.A) (Message.A asked.request) ms queue
        here = subst (λ m. IsNext x (unfinished_at sys c Channel.A) m ms queue) asked.is_it next

        go : (z : Bool) → completes x (unfinished_at sys c Channel.A) ≡ z → (z ≡ true → IsReady tracker c Request i h)
            → FlowsWith x (if z then kind_taken config tracker c Request i toks h else h)
        go false e r = own-access h is flowed rest' i asked x ms queue here rests false e
        go true e r = settled h c is tracker c rest' (d_same (Message.A asked.request) here.k here.beat_is refl) (x ∷ t)
            Request i toks tokens (r refl) (own-access h is flowed rest' i asked x ms queue here rests true e)
            (leaves-at_manager config tracker c Request i toks h c refl is.invariant tokens)

    goes-acquire : Goes Channel.A Acquire
    goes-acquire tokens next b last ready = go b last ready
      where
        wanted : IsWanted w c i s
        wanted = wanted-first c i toks is tokens

        here : IsNext x (unfinished_at sys c Channel.A) (Message.A (acquire_wanted c i s wanted)) ms queue
        here = subst (λ z. IsNext x (unfinished_at sys c Channel.A) z ms queue) wanted.renders next

        one : completes x (unfinished_at sys c Channel.A) ≡ true
        one = (one-beat here (acquisition_beats w wanted.whole wanted.grow ((s.block i).source c) i)).2

        taken : IsReady tracker c Acquire i h → Leaves c h
            (acquire_taken (length config.clients.items) config.profile c i (AcquireOpen wanted.whole wanted.grow)
            tracker toks h)
            → FlowsWith x (acquire_taken (length config.clients.items) config.profile c i
            (AcquireOpen wanted.whole wanted.grow) tracker toks h)
        taken r = either (some_below (length config.clients.items)
            (λ d. is_probed c true (cap_asked (AcquireOpen wanted.whole wanted.grow)) ((s.block i).pair d).recorded d))
          where
            served : State (List ℕ)
            served = acquire_served c i ((s.block i).source c) tracker
                (cap_asked (AcquireOpen wanted.whole wanted.grow)) toks s

            granted : State (List ℕ)
            granted = acquire_granted c i tracker (is_granted_data wanted.whole wanted.grow
                ((s.block i).pair c).recorded) (gift config.profile wanted.whole wanted.grow
                (is_unheld (length config.clients.items) (s.block i).pair)) toks s

            either : (z : Bool) → Leaves c h (with_state (if z then served else granted) h)
                → FlowsWith x (with_state (if z then served else granted) h)
            either true l = own-acquire_served h is flowed rest' wanted r.0 tracker
                (asked_by h.mail served c) (asks-left c h (with_state served h) l)
                (cap_asked (AcquireOpen wanted.whole wanted.grow)) toks x ms queue here rests
            either false l = own-acquire_granted h is flowed rest' wanted r.0 tracker (asked_by h.mail granted c)
                (asks-left c h (with_state granted h) l) (is_granted_data wanted.whole wanted.grow
                ((s.block i).pair c).recorded) (gift config.profile wanted.whole wanted.grow
                (is_unheld (length config.clients.items) (s.block i).pair)) toks x ms queue here rests

        go : (z : Bool) → completes x (unfinished_at sys c Channel.A) ≡ z → (z ≡ true → IsReady tracker c Acquire i h)
            → FlowsWith x (if z then kind_taken config tracker c Acquire i toks h else h)
        go false e r = contrary (completes x (unfinished_at sys c Channel.A)) one e
        go true e r = rw wanted.wants (taken (r refl)
            (rw wanted.wants at (leaves-at_manager config tracker c Acquire i toks h c refl is.invariant tokens)))

    -- ---- channel B

    goes-probe : Goes Channel.B Probe
    goes-probe tokens next b last ready = go b last
      where
        k : Cap
        k = cap_sent ((s.block i).pair c).probing

        one : completes x (unfinished_at sys c Channel.B) ≡ true
        one = cc ((is.kept c).b_whole, probe-beat c i s next)

        asks : (j : ℕ) → asked_by h.mail (probe_taken c i k toks s) c j ≡ asked_by h.mail s c j
        asks j = cc (asks-same c j h.mail h.mail s (probe_taken c i k toks s) refl (inl refl)
            (λ n used. set-part (λ z. (z.pair c).acquiring) i (probed_block c k (s.block i)) s.block
            (ap (λ p. p.acquiring) (set-same c (after_probe k ((s.block i).pair c)) (s.block i).pair))
            n) (λ n used. set-part (λ z. z.source c) i (probed_block c k (s.block i)) s.block refl n))

        go : (z : Bool) → completes x (unfinished_at sys c Channel.B) ≡ z
            → FlowsWith x (if z then kind_taken config tracker c Probe i toks h else h)
        go false e = contrary (completes x (unfinished_at sys c Channel.B)) one e
        go true e = own-probe h is flowed rest' toks i tokens x ms queue next rests
            (asked_by h.mail (probe_taken c i k toks s) c) asks

    -- ---- channel C

    goes-report : Goes Channel.C ProbeAck
    goes-report tokens next b last ready = go b last
      where
        about : (m : MessageC w) × (block_message ProbeAck c i (s.block i) ≡ Message.C m)
        about = let told = report_rendered c i _ width (is.sized i).truth in (told.0, told.1)

        here : IsNext x (unfinished_at sys c Channel.C) (Message.C about.0) ms queue
        here = subst (λ m. IsNext x (unfinished_at sys c Channel.C) m ms queue) about.1 next

        go : (z : Bool) → completes x (unfinished_at sys c Channel.C) ≡ z
            → FlowsWith x (if z then kind_taken config tracker c ProbeAck i toks h else h)
        go false e = own-report h width is flowed rest' i toks tokens x ms queue next rests false e
        go true e = settled h c is tracker c rest' (d_same (Message.C about.0) here.k here.beat_is refl) (x ∷ t)
            ProbeAck i toks tokens tt (own-report h width is flowed rest' i toks tokens x ms queue next rests true e)
            (leaves-at_manager config tracker c ProbeAck i toks h c refl is.invariant tokens)

    goes-release : Goes Channel.C Release
    goes-release tokens next b last ready = go b last
      where
        after : State (List ℕ)
        after = release_taken c i (prune_told ((s.block i).pair c).letting) toks s

        go : (z : Bool) → completes x (unfinished_at sys c Channel.C) ≡ z
            → FlowsWith x (if z then kind_taken config tracker c Release i toks h else h)
        go false e = own-release h width is flowed rest' i toks tokens x ms queue next rests false e
        go true e = flowed-asks (asked_by h.mail after c)
            (asks-left c h (with_state after h) (leaves-at_manager config tracker c Release i toks h c refl is.invariant
            tokens)) (own-release h width is flowed rest' i toks tokens x ms queue next rests true e)

    -- ---- channel D

    goes-answer : Goes Channel.D Answer
    goes-answer tokens next b last ready = go b last
      where
        go : (z : Bool) → completes x (unfinished_at sys c Channel.D) ≡ z
            → FlowsWith x (if z then kind_taken config tracker c Answer i toks h else h)
        go false e = own-answer h is flowed rest' toks i tokens x ms queue next rests false e
        go true e = own-answer h is flowed rest' toks i tokens x ms queue next rests true e

    goes-grant : Goes Channel.D Grant
    goes-grant tokens next b last ready = go b last
      where
        due : IsGrantDue c i s
        due = grant-due (is_caching config) c i toks s is.invariant tokens

        go : (z : Bool) → completes x (unfinished_at sys c Channel.D) ≡ z
            → FlowsWith x (if z then kind_taken config tracker c Grant i toks h else h)
        go false e = own-grant h is flowed rest' toks tokens due
            (is_whole ((s.block i).pair c).acquiring) x ms queue next rests false e
        go true e = rw due.service (own-grant h is flowed rest' toks tokens due
            (is_whole ((s.block i).pair c).acquiring) x ms queue next rests true e)

    goes-release_ack : Goes Channel.D ReleaseAck
    goes-release_ack tokens next b last ready = go b last
      where
        one : completes x (unfinished_at sys c Channel.D) ≡ true
        one = (one-beat (ack_next c i s next) refl).2

        asks : (j : ℕ) → asked_by h.mail (release_ack_taken c i toks s) c j ≡ asked_by h.mail s c j
        asks j = cc (asks-same c j h.mail h.mail s (release_ack_taken c i toks s) refl (inl refl)
            (λ n used. set-part (λ z. (z.pair c).acquiring) i (let_go_block c (s.block i)) s.block
            (ap (λ p. p.acquiring) (set-same c (after_release_ack ((s.block i).pair c))
            (s.block i).pair)) n) (λ n used. set-part (λ z. z.source c) i (let_go_block c (s.block i)) s.block refl n))

        go : (z : Bool) → completes x (unfinished_at sys c Channel.D) ≡ z
            → FlowsWith x (if z then kind_taken config tracker c ReleaseAck i toks h else h)
        go false e = contrary (completes x (unfinished_at sys c Channel.D)) one e
        go true e = own-release_ack h is flowed rest' toks i tokens x ms queue next rests
            (asked_by h.mail (release_ack_taken c i toks s) c) asks

    -- ---- channel E

    goes-grant_ack : Goes Channel.E GrantAck
    goes-grant_ack tokens next b last ready =
        let m : MessageE = record { sink = (s.block i).tracker } in
        go b last
      where
        one : completes x (unfinished_at sys c Channel.E) ≡ true
        one = (one-beat (subst (λ z. IsNext x (unfinished_at sys c Channel.E) z ms queue)
            (ack_rendered c i (s.block i)) next) refl).2

        go : (z : Bool) → completes x (unfinished_at sys c Channel.E) ≡ z
            → FlowsWith x (if z then kind_taken config tracker c GrantAck i toks h else h)
        go false e = contrary (completes x (unfinished_at sys c Channel.E)) one e
        go true e =
            let after = kind_taken config tracker c GrantAck i toks h in
            own-grant_ack h width is flowed rest' i toks tokens x ms queue next rests (asked_by after.mail after.state
            c) (asks-left c h after (leaves-at_manager config tracker c GrantAck i toks h c refl is.invariant tokens))

    -- ---- each kind on its channel

    pub own-kind : (ch : Channel) (k : Kind) → is_on ch k ≡ true → Goes ch k
    own-kind Channel.A Request own = goes-request
    own-kind Channel.A Acquire own = goes-acquire
    own-kind Channel.B Probe own = goes-probe
    own-kind Channel.C ProbeAck own = goes-report
    own-kind Channel.C Release own = goes-release
    own-kind Channel.D Answer own = goes-answer
    own-kind Channel.D Grant own = goes-grant
    own-kind Channel.D ReleaseAck own = goes-release_ack
    own-kind Channel.E GrantAck own = goes-grant_ack
    own-kind ch k own = absurd cc
