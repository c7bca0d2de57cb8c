-- What is delivered on a link, as messages of another link are taken; and after the last beat of a request or ProbeAck,
-- as what comes of it at the manager.
use Rattle.std.proofs.Common.{◌≡◌, ℕ, Bool, true, false, List, ◌∷◌, Option, Some, None, refl, sym, ◌∙◌, ap, inl, length}
use Rattle.std.proofs.Common.{ne_eqb}
use Rattle.tl_coherence.proofs
use proofs.Imports.{Beat, BeatA, Channel, History, Config, Cap, Grow, block_at, cap_asked}
use proofs.Imports.{Answer, GrantAck, Kind, Packet, Probe, ProbeAck, Release, ReleaseAck, Request, AcquireOpen, Own}
use proofs.Imports.{is_unprobed, is_unreleased, is_granted_data, Free, GrantSent, State, Waits, acquire_granted}
use proofs.Imports.{acquire_served, on, packet, report_taken, view, is_answered, AbstractState, access_taken, gift}
use proofs.Imports.{granted_after, is_unheld, kind_taken, last_taken, performs, taken_by_client, with_state}
use proofs.Imports.{MonitorRelation, report_told, SimulationRelation, asked_by, is_caching, Log, System}
use proofs.client.AsideAll.{Leaves, is_for_manager, leaves-at_manager, leaves-at_client}
use proofs.manager.{Accounts.plain-past}
use proofs.protocol.RequestsKept.{settled_all}
use proofs.protocol.BothParts.{quiet_unanswered, first-grant_ack, first-report}
use proofs.protocol.HeadOfD.{grant-due, IsReady, ready-access, told, true-taken, waits_for_others, never-idle}
use proofs.queues.{Phases.and_right, Tokens.same_number}
use proofs.queues.Facts.{answered_other, is_other, quiet_at_rest, own_alone}
use proofs.client.HalfTaken.{coming-granting}
use proofs.flow.{FlowAsked.asks-left, FlowBeats.same_perms}
use proofs.flow.FlowAlone.{is_heard, IsComing, flowed-aside, flowed-asks}
use proofs.flow.FlowApart.{replied, left-replied, left-served, left-acquire_granted, left-probe_taken}
use proofs.flow.FlowApart.{left-report_taken, left-release_taken, left-answer_taken, left-grant_taken}
use proofs.flow.FlowApart.{left-release_ack_taken, left-grant_ack_taken, left-access_answered, left-access_served}
use proofs.flow.FlowApart.{left-report_answers, left-report_grants}
use proofs.rank.RankParts.{serving-use}
use proofs.simulation.Owned.{unfinished_at}

module _ {w : ℕ} {config : Config} {log : Log w} (h : AbstractState w) {sys : System w} (c : ℕ)
    (is : SimulationRelation config log h.mail h.request h.state sys) (tracker : ℕ) where
  abbrev s : State (List ℕ)
  s = h.state

  -- nothing of a free block is under way
  free_quiet : (n : ℕ) → (s.block n).service ≡ Free → (d : ℕ) → is_unprobed ((s.block n).pair d).probing ≡ true
  free_quiet n free d = quiet_at_rest _ _ ((is.invariant.blocks n).phases d) (rw free refl)

  -- ---- what comes of the last beat at the manager, for client d's link

  module _ (d : ℕ) (rest : Channel → List (Beat w)) (same_d : rest Channel.D ≡ unfinished_at sys d Channel.D)
      (t : History w) where
    -- what was delivered on it is so
    abbrev pub FlowedAs : AbstractState w → Type 0
    FlowedAs z = MonitorRelation (asked_by z.mail z.state d) rest d z.state t

    abbrev before : ℕ → Option (BeatA w)
    before = asked_by h.mail h.state d

    coming : IsComing (asked_by h.mail h.state d) (rest Channel.D) d h.state
    coming = rw same_d (coming-granting d is)

    -- nobody else has a ProbeAck under way
    unanswered : (n : ℕ) → waits_for_others config c h n ≡ false → (i : ℕ) → (i ≡ c → ⊥)
        → is_answered ((s.block n).pair i).probing ≡ false
    unanswered n last i ne = quiet_unanswered _ (settled_all (length config.clients.items)
        (is_caching config) c (s.block n).pair (plain-past config) (is.invariant.blocks n).outside last i ne)

    -- ---- an access, and a ProbeAck

    -- what is so after the beats of the message, before anything comes of it
    abbrev pub Begins : List Packet → Kind → ℕ → Type 0
    Begins toks Request source = MonitorRelation before rest d (replied c source s) t
    Begins toks ProbeAck n =
        MonitorRelation before rest d (report_taken c n (report_told ((s.block n).pair c).probing) toks s) t
    Begins toks k i = ⊥

    abbrev IsSettling : List Packet → Kind → ℕ → Type 0
    IsSettling toks k i = (on k (s.link c) ≡ packet k i ∷ toks) × IsReady tracker c k i h × Begins toks k i

    -- with the requests of an event that leaves those of client d
    abbrev Follows : AbstractState w → Type 0
    Follows z = Leaves d h z → FlowedAs z

    -- the last ProbeAck of an access
    answers-report : (n : ℕ) (toks : List Packet) (q source : ℕ) (k : Cap) → IsSettling toks ProbeAck n
        → waits_for_others config c h n ≡ false → (s.block n).service ≡ Waits q false source k
        → Follows (last_taken (length config.clients.items) config.profile c n (told config c h n)
        (Waits q false source k) toks h)
    answers-report n toks q source k known last waits l =
        let after = last_taken (length config.clients.items) config.profile c n (told config c h n)
        (Waits q false source k) toks h in
        flowed-aside (left-report_answers d before (asked_by after.mail after.state d) rest s (asks-left d h after l)
        coming c n (told config c h n) toks q source k (performs (h.request n)) waits (unanswered n last)
        (ap is_heard (serving-use n q source k is.invariant waits))) known.2

    -- and of an Acquire
    grants-report : (n : ℕ) (toks : List Packet) (q source : ℕ) (k : Cap) (whole : Bool) (g : Grow)
        → IsSettling toks ProbeAck n → waits_for_others config c h n ≡ false
        → (s.block n).service ≡ Waits q true source k → ((s.block n).pair q).acquiring ≡ AcquireOpen whole g
        → Follows (granted_after (length config.clients.items) config.profile c q n (told config c h n)
        (AcquireOpen whole g) toks h)
    grants-report n toks q source k whole g known last waits wants l =
        let even = same_perms _ _ (and_right (is_unreleased
        ((s.block n).pair q).letting) _ (and_right (is_unprobed ((s.block n).pair q).probing) _ (own_alone
        ((s.block n).pair q) (view (s.block n).service q) ((is.invariant.blocks n).phases q) own))) in
        let after = granted_after (length config.clients.items) config.profile c q n (told config c h n)
        (AcquireOpen whole g) toks h in
        flowed-aside (left-report_grants d before (asked_by after.mail after.state d) rest s (asks-left d h after l)
        coming c n (told config c h n) toks q source k _ _ waits (unanswered n last) apart even) known.2
      where
        own : view (s.block n).service q ≡ Own
        own = rw (waits, same_number q) refl

        apart : q ≡ c → ⊥
        apart same = let no : is_other Own ≡ true = sym (ap is_other own)
            ∙ ap (λ i. is_other (view (s.block n).service i)) same ∙ (answered_other _ ((s.block n).pair c)
            (view (s.block n).service c) ((is.invariant.blocks n).phases c) (first-report is.invariant known.0)) in cc

    pub settled : (k : Kind) (i : ℕ) (toks : List Packet) → on k (s.link c) ≡ packet k i ∷ toks
        → IsReady tracker c k i h → Begins toks k i → Leaves d h (kind_taken config tracker c k i toks h)
        → FlowedAs (kind_taken config tracker c k i toks h)
    settled k i toks first ready begins = true-taken config tracker c toks h (IsSettling toks) Follows k i (record {
      nothing = λ j n known idle l. absurd (cc (never-idle config tracker c j n toks h is.invariant known.0 known.1));
      access_answered = λ source m o known from caps none l.
          let after = access_taken c source m tracker false None toks h in
          flowed-aside (left-access_answered d before (asked_by after.mail after.state d) rest s (asks-left d h after l)
          coming c (block_at m.address) source (performs m) toks) known.2;
      access_served = λ source m j known from caps some l.
          let after = access_taken c source m tracker true (Some j) toks h in
          let may = ready-access tracker c source m h known.1 from in
          flowed-aside (left-access_served d before (asked_by after.mail after.state d) rest s (asks-left d h after l)
          coming c (block_at m.address) source tracker j toks may.1 (free_quiet (block_at m.address) may.1 d))
          known.2;
      acquire_granted = λ n whole g known wants none l. absurd known.2;
      acquire_served = λ n whole g known wants some l. absurd known.2;
      probe = λ n known l. absurd known.2;
      report = λ n known more l.
          let after = with_state (report_taken c n (told config c h n) toks s) h in
          flowed-asks (asked_by after.mail after.state d) (asks-left d h after l) known.2;
      report_answers = λ n q source j known last waits. answers-report n toks q source j known last waits;
      report_grants = λ n q source j whole g known last waits wants. grants-report n toks q source j whole g known last
          waits wants;
      release = λ n known l. absurd known.2;
      answer = λ source known l. absurd known.2;
      grant = λ n q x j known sent l. absurd known.2;
      release_ack = λ n known l. absurd known.2;
      grant_ack = λ n known l. absurd known.2;
    }) (first, ready, begins)

  -- ---- messages of client c's link, for another's

  module _ (d : ℕ) (ne : d ≡ c → ⊥) (t : History w) where
    -- as it was
    abbrev pub FlowsAs : AbstractState w → Type 0
    FlowsAs z = MonitorRelation (asked_by z.mail z.state d) (unfinished_at sys d) d z.state t

    abbrev then_asked : ℕ → Option (BeatA w)
    then_asked = asked_by h.mail h.state d

    comes : IsComing (asked_by h.mail h.state d) (unfinished_at sys d Channel.D) d h.state
    comes = coming-granting d is

    -- a message that begins nothing at the manager but by its token
    abbrev is_settled : Kind → Bool
    is_settled Request = true
    is_settled ProbeAck = true
    is_settled k = false

    abbrev IsTaken : List Packet → Kind → ℕ → Type 0
    IsTaken toks k i = (on k (s.link c) ≡ packet k i ∷ toks) × IsReady tracker c k i h × (is_settled k ≡ false)

    unsettled : (k : Kind) (i : ℕ) (toks : List Packet) → IsTaken toks k i → FlowsAs h
        → Leaves d h (kind_taken config tracker c k i toks h) → FlowsAs (kind_taken config tracker c k i toks h)
    unsettled k i toks known flowed =
        true-taken config tracker c toks h (IsTaken toks) (λ z. Leaves d h z → FlowsAs z) k i (record {
          nothing = λ j n taken idle l. flowed;
          access_answered = λ source m o taken from caps none l. absurd cc;
          access_served = λ source m j taken from caps some l. absurd cc;
          acquire_granted = λ n whole g taken wants none l.
              let after = acquire_granted c n tracker (is_granted_data whole g ((s.block n).pair c).recorded)
              (gift config.profile whole g (is_unheld (length config.clients.items) (s.block n).pair)) toks s in
              flowed-aside (left-acquire_granted d then_asked (asked_by h.mail after d) (unfinished_at sys d) s
              (asks-left d h (with_state after h) l) comes c n tracker _ _ toks ne taken.1.0
              (quiet_unanswered ((s.block n).pair d).probing (free_quiet n taken.1.0 d))) flowed;
          acquire_served = λ n whole g taken wants some l.
              let after = acquire_served c n ((s.block n).source c) tracker (cap_asked (AcquireOpen whole g)) toks s in
              flowed-aside (left-served d then_asked (asked_by h.mail after d) (unfinished_at sys d) s
              (asks-left d h (with_state after h) l) comes c n ((s.block n).source c) tracker true
              (cap_asked (AcquireOpen whole g)) after (λ m. refl) (ne_eqb d c ne) taken.1.0
              (free_quiet n taken.1.0 d) (λ j. inl refl) (λ j. refl)) flowed;
          probe = λ n taken l. flowed-aside (left-probe_taken d then_asked _ (unfinished_at sys d) s
              (asks-left d h (kind_taken config tracker c Probe n toks h) l) comes c n _ toks ne) flowed;
          report = λ n taken more l. absurd cc;
          report_answers = λ n q source j taken last waits l. absurd cc;
          report_grants = λ n q source j whole g taken last waits wants l. absurd cc;
          release = λ n taken l. flowed-aside (left-release_taken d then_asked _ (unfinished_at sys d) s
              (asks-left d h (kind_taken config tracker c Release n toks h) l) comes c n _ toks ne) flowed;
          answer = λ source taken l. flowed-aside (left-answer_taken d then_asked _ (unfinished_at sys d) s
              (asks-left d h (kind_taken config tracker c Answer source toks h) l) comes c source toks ne) flowed;
          grant = λ n q x j taken sent l.
              let due = grant-due (is_caching config) c n toks s is.invariant taken.0 in
              let same : q ≡ c = let both = sym sent ∙ due.service in cc in
              flowed-aside (left-grant_taken d then_asked _ (unfinished_at sys d) s (asks-left d h (taken_by_client c n
              (GrantSent q x j) toks h) l) comes c n _ x j toks ne (sent ∙ ap (λ i. GrantSent i x j) same))
              flowed;
          release_ack = λ n taken l. flowed-aside (left-release_ack_taken d then_asked _ (unfinished_at sys d) s
              (asks-left d h (kind_taken config tracker c ReleaseAck n toks h) l) comes c n toks ne) flowed;
          grant_ack = λ n taken l.
              let acks = first-grant_ack is.invariant taken.0 in
              flowed-aside (left-grant_ack_taken d then_asked _ (unfinished_at sys d) s
              (asks-left d h (kind_taken config tracker c GrantAck n toks h) l) comes c n toks ne acks) flowed;
        }) known

    -- a message of client c's link that is taken
    by_kind : (k : Kind) (i : ℕ) (toks : List Packet) → on k (s.link c) ≡ packet k i ∷ toks → IsReady tracker c k i h
        → Leaves d h (kind_taken config tracker c k i toks h) → FlowsAs h
        → FlowsAs (kind_taken config tracker c k i toks h)
    by_kind Request source toks first ready l flowed = settled d _ refl t Request source toks first ready (flowed-aside
        (left-replied d then_asked then_asked (unfinished_at sys d) s (λ i. refl) comes c source ne) flowed) l
    by_kind ProbeAck n toks first ready l flowed = settled d _ refl t ProbeAck n toks first ready
        (flowed-aside (left-report_taken d then_asked then_asked (unfinished_at sys d) s (λ i. refl) comes c n
        (report_told ((s.block n).pair c).probing) toks ne) flowed) l
    by_kind k i toks first ready l flowed = unsettled k i toks (first, ready, refl) flowed l

    pub other-kind : (k : Kind) (i : ℕ) (toks : List Packet) → on k (s.link c) ≡ packet k i ∷ toks
        → IsReady tracker c k i h → FlowsAs h → FlowsAs (kind_taken config tracker c k i toks h)
    other-kind k i toks first ready = by_kind k i toks first ready (left (is_for_manager k) refl)
      where
        left : (b : Bool) → is_for_manager k ≡ b → Leaves d h (kind_taken config tracker c k i toks h)
        left true e = leaves-at_manager config tracker c k i toks h d e is.invariant first
        left false e = leaves-at_client config tracker c k i toks h d e ne
