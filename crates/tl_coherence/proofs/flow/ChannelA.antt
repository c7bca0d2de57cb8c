-- What is delivered on a link, as a beat of channel A is: of an access, or of an Acquire.
use Rattle.std.proofs.Common.{◌≡◌, ℕ, Bool, true, false, ◌&&◌, ◌==◌, if◌then◌else◌, List, ◌∷◌, Option, refl}
use Rattle.std.proofs.Common.{sym, ◌∙◌, ap, subst, eqb-true}
use Rattle.tl_coherence.proofs
use proofs.Imports.{Beat, BeatA, Channel, Message, a_beat_of, History, completes}
use proofs.Imports.{is_empty, Config, Cap, comes_in_request, same_perm, same_block, Packet, set}
use proofs.Imports.{Granting, Own, is_unprobed, is_unreleased, after_grant_sent, Block, Free, Replied, State}
use proofs.Imports.{acquire_granted, acquire_served, granted_at_once, served_block, view, is_acknowledging, is_answered}
use proofs.Imports.{is_granting, is_unserved, AbstractState, MonitorRelation, SimulationRelation, asked_by, Log, System}
use proofs.manager.{Admitted.first_three, RequestsTaken.acquire_wanted}
use proofs.queues.{Carried.IsNext, Facts.asked_alone, Phases.and_left, Phases.and_right, Codes.acquires-so}
use proofs.queues.Tokens.{if-part, same_number, set-same, set-other}
use proofs.protocol.{BothParts.quiet_unanswered}
use proofs.protocol.Room.{acquisition_beats, IsAsked, IsWanted}
use proofs.client.HalfTaken.{coming-granting}
use proofs.flow.{FlowAlone.AreRests, FlowStep.held_by}
use proofs.flow.FlowAcquired.{IsAccess, flowed-access, flowed-acquire}
use proofs.flow.FlowApart.{replied}
use proofs.flow.FlowBeats.{came-so, comes-so, first-zero, one-beat, set_at-if, same_perms, unused-else}
use proofs.simulation.Owned.{unfinished_at}
use proofs.client.ClientEnd.{is_access, asks-access, asks-acquire}

module _ {w : ℕ} {config : Config} {log : Log w} (h : AbstractState w) {sys : System w} {c : ℕ}
    (is : SimulationRelation config log h.mail h.request h.state sys) {t : History w} (flowed : MonitorRelation
    (asked_by h.mail h.state c) (unfinished_at sys c) c h.state t) (rest' : Channel → List (Beat w)) where
  -- ---- an access

  -- the state in which the access is answered, with the last beat
  abbrev pub replied_if : ℕ → Bool → State (List ℕ)
  replied_if source b = if b then replied c source h.state else h.state

  access_of : (source : ℕ) (asked : IsAsked config c source h.mail h.state) (k : ℕ) (ms : List (Message w))
      (queue : List (Beat w)) → IsNext (Beat.A (a_beat_of asked.request k)) (unfinished_at sys c Channel.A)
      (Message.A asked.request) ms queue → AreRests (Beat.A (a_beat_of asked.request k)) (unfinished_at sys c) rest'
      → (b : Bool) → completes (Beat.A (a_beat_of asked.request k)) (unfinished_at sys c Channel.A) ≡ b
      → (is_empty (unfinished_at sys c Channel.A) ≡ true → k ≡ 0)
      → IsAccess c (a_beat_of asked.request k) (is_empty (unfinished_at sys c Channel.A)) b (asked_by h.mail h.state c)
      (unfinished_at sys c) rest' h.state (replied_if source b)
  access_of source asked k ms queue next rests b last zeroth =
      let y : Beat w = Beat.A (a_beat_of asked.request k) in
      record {
        access = asked.access;
        use_is = λ i e. ap (h.state.uses c) (sym (eqb-true asked.request.source i e) ∙ asked.source_is) ∙ asked.used;
        asked_is = λ i e first.
            let fact = asks-access c source _ h.mail h.state (ap is_access asked.used) asked.is_it in
            cc (eqb-true asked.request.source i e, asked.source_is, zeroth first);
        came = λ i. came-so (comes_in_request i) (asked.request.source == i) next refl (λ j. refl);
        comes = λ i. let fact = comes-so (comes_in_request i) y (unfinished_at sys c Channel.A)
            (asked.request.source == i) refl refl in cc (rests Channel.A, last);
        blocks = λ m. if-part (λ (z : State (List ℕ)). z.block m) b refl refl;
        uses = λ i. uses b i;
        lets = λ i. if-part (λ (z : State (List ℕ)). z.lets c i) b refl refl;
      }
    where
      uses : (z : Bool) (i : ℕ)
          → (replied_if source z).uses c i ≡ (if z && (asked.request.source == i) then Replied else h.state.uses c i)
      uses true i = set_at-if c source i Replied h.state.uses _ asked.source_is
      uses false i = refl

  pub own-access : (source : ℕ) (asked : IsAsked config c source h.mail h.state) (x : Beat w) (ms : List (Message w))
      (queue : List (Beat w)) → IsNext x (unfinished_at sys c Channel.A) (Message.A asked.request) ms queue
      → AreRests x (unfinished_at sys c) rest' → (b : Bool) → completes x (unfinished_at sys c Channel.A) ≡ b
      → MonitorRelation (asked_by h.mail h.state c) rest' c (replied_if source b) (x ∷ t)
  own-access source asked x ms queue next rests b last =
      let last_y : completes (Beat.A (a_beat_of asked.request next.k)) (unfinished_at sys c Channel.A) ≡ b =
      sym (ap (λ z. completes z (unfinished_at sys c Channel.A)) next.beat_is) ∙ last in
      let rests_y : AreRests (Beat.A (a_beat_of asked.request next.k)) (unfinished_at sys c) rest' =
      subst (λ z. AreRests z (unfinished_at sys c) rest') next.beat_is rests in
      subst (λ z. MonitorRelation (asked_by h.mail h.state c) rest' c (replied_if source b) (z ∷ t)) (sym next.beat_is)
      (flowed-access (ap is_empty (flowed.rest_is Channel.A)) (cc (flowed.rest_is Channel.A)) rests_y
      (access_of source asked next.k ms queue (rw next.beat_is at next) rests_y b last_y (first-zero next)) flowed)

  -- ---- an Acquire

  module _ {n : ℕ} (wanted : IsWanted w c n h.state) (free : (h.state.block n).service ≡ Free) (tracker : ℕ)
      (asked' : ℕ → Option (BeatA w)) (asks : (i : ℕ)
      → asked' i ≡ asked_by h.mail h.state c i) where
    abbrev s : State (List ℕ)
    s = h.state

    settled : ((is_unprobed ((s.block n).pair c).probing && is_unreleased ((s.block n).pair c).letting) && same_perm
        ((s.block n).pair c).recorded ((s.block n).pair c).held) ≡ true
    settled = first_three (is_unprobed ((s.block n).pair c).probing) (is_unreleased ((s.block n).pair c).letting)
        (same_perm ((s.block n).pair c).recorded ((s.block n).pair c).held) _
        (asked_alone wanted.whole wanted.grow ((s.block n).pair c) (view (s.block n).service c)
        ((is.invariant.blocks n).phases c) (rw free refl) wanted.wants)

    quiet : is_answered ((s.block n).pair c).probing ≡ false
    quiet = quiet_unanswered _
        (and_left (is_unprobed ((s.block n).pair c).probing) (is_unreleased ((s.block n).pair c).letting)
        (and_left (is_unprobed ((s.block n).pair c).probing && is_unreleased ((s.block n).pair c).letting)
        (same_perm ((s.block n).pair c).recorded ((s.block n).pair c).held) settled))

    -- the block afterwards
    record IsTakenUp (new : Block (List ℕ)) : Type 0 where
      pair_acquiring : (new.pair c).acquiring ≡ ((s.block n).pair c).acquiring
      pair_letting : (new.pair c).letting ≡ ((s.block n).pair c).letting
      pair_probing : (new.pair c).probing ≡ ((s.block n).pair c).probing
      keeps_source : new.release_source c ≡ (s.block n).release_source c
      keeps_held : held_by c new ≡ held_by c (s.block n)
      serves : is_unserved (view new.service c) ≡ false
      waits_so : is_acknowledging (view new.service c) ≡ false

    acquired : (new : Block (List ℕ)) (s' : State (List ℕ)) → ((m : ℕ) → s'.block m ≡ set n new s.block m)
        → ((i : ℕ) → s'.uses c i ≡ s.uses c i) → ((i : ℕ) → s'.lets c i ≡ s.lets c i)
        → IsTakenUp new
        → (x : Beat w) (ms : List (Message w)) (queue : List (Beat w))
        → IsNext x (unfinished_at sys c Channel.A) (Message.A (acquire_wanted c n s wanted)) ms queue
        → AreRests x (unfinished_at sys c) rest' → MonitorRelation asked' rest' c s' (x ∷ t)
    acquired new s' changed uses lets taken x ms queue next rests =
        let y : BeatA w = a_beat_of (acquire_wanted c n s wanted) 0 in
        let one = one-beat next (acquisition_beats w wanted.whole wanted.grow ((s.block n).source c) n) in
        let x_is : x ≡ Beat.A y = cc (next.beat_is, one.0) in
        let last_y : completes (Beat.A y) (unfinished_at sys c Channel.A) ≡ true = cc (x_is, one.2) in
        let rests_y : AreRests (Beat.A y) (unfinished_at sys c) rest' = rw x_is at rests in
        let now : s'.block n ≡ new = changed n ∙ set-same n new s.block in
        subst (λ z. MonitorRelation asked' rest' c s' (z ∷ t)) (sym x_is)
        (flowed-acquire (ap is_empty (flowed.rest_is Channel.A ∙ one.1))
        (ap (completes (Beat.A y)) (flowed.rest_is Channel.A) ∙ last_y) rests_y (record {
          acquire = acquires-so wanted.whole;
          at = same_block n;
          use_is = λ i e. ap (s.uses c) (sym (eqb-true ((s.block n).source c) i e)) ∙ wanted.used;
          no_use = λ i e. unused-else c n i is.invariant.named e;
          asks = λ i e. let fact = asks-acquire c _ n
              ((s.block n).source c) wanted.whole _ h.mail s wanted.used wanted.wants refl in
              cc (eqb-true ((s.block n).source c) i e);
          idle = rw free refl;
          quiet = quiet;
          coming = coming-granting c is;
          came = λ i. ap (comes_in_request i) one.1;
          comes = λ i. let fact = comes-so (comes_in_request i) (Beat.A y) (unfinished_at sys c Channel.A)
              ((s.block n).source c == i) refl refl in cc (rests_y Channel.A, last_y);
          asked_is = asks;
          elsewhere = λ m ne. changed m ∙ set-other n m new s.block ne;
          uses = uses;
          lets = lets;
          held_is = ap (held_by c) now ∙ taken.keeps_held;
          served = ap (λ b. is_unserved (view b.service c)) now ∙ taken.serves;
          waits = ap (λ b. is_acknowledging (view b.service c)) now ∙ taken.waits_so;
          wants = cc (now, taken.pair_acquiring, wanted.wants);
          letting_is = ap (λ b. (b.pair c).letting) now ∙ taken.pair_letting;
          release_source = ap (λ b. b.release_source c) now ∙ taken.keeps_source;
          answered = cc (now, taken.pair_probing, quiet);
        }) flowed)

    held_free : held_by c (s.block n) ≡ ((s.block n).pair c).recorded
    held_free = cc free

    -- it waits for ProbeAcks
    pub own-acquire_served : (k : Cap) (toks : List Packet) (x : Beat w) (ms : List (Message w)) (queue : List (Beat w))
        → IsNext x (unfinished_at sys c Channel.A) (Message.A (acquire_wanted c n s wanted)) ms queue
        → AreRests x (unfinished_at sys c) rest'
        → MonitorRelation asked' rest' c (acquire_served c n ((s.block n).source c) tracker k toks s) (x ∷ t)
    own-acquire_served k toks =
        let new : Block (List ℕ) = served_block c true ((s.block n).source c) tracker k (s.block n) in
        let pair : new.pair c ≡ (s.block n).pair c = rw (same_number c) refl in
        let seen : view new.service c ≡ Own = rw (same_number c) refl in
        acquired new (acquire_served c n ((s.block n).source c) tracker k toks s) (λ m. refl)
        (λ i. refl) (λ i. refl) (record {
          pair_acquiring = ap (λ p. p.acquiring) pair;
          pair_letting = ap (λ p. p.letting) pair;
          pair_probing = ap (λ p. p.probing) pair;
          keeps_source = refl;
          keeps_held = cc (seen, pair, held_free);
          serves = ap is_unserved seen;
          waits_so = ap is_acknowledging seen;
        })

    -- it is granted at once
    pub own-acquire_granted : (d : Bool) (k : Cap) (toks : List Packet) (x : Beat w) (ms : List (Message w))
        (queue : List (Beat w)) → IsNext x (unfinished_at sys c Channel.A) (Message.A (acquire_wanted c n s wanted)) ms
        queue → AreRests x (unfinished_at sys c) rest'
        → MonitorRelation asked' rest' c (acquire_granted c n tracker d k toks s) (x ∷ t)
    own-acquire_granted d k toks =
        let seen : view new.service c ≡ Granting d k = rw (same_number c) refl in
        acquired new (acquire_granted c n tracker d k toks s) (λ m. refl) (λ i. refl) (λ i. refl) (record {
          pair_acquiring = ap (λ p. p.acquiring) pair;
          pair_letting = ap (λ p. p.letting) pair;
          pair_probing = ap (λ p. p.probing) pair;
          keeps_source = refl;
          keeps_held = ap (λ v. if is_granting v then (new.pair c).held else (new.pair c).recorded) seen
              ∙ ap (λ p. p.held) pair ∙ (same_perms ((s.block n).pair c).recorded ((s.block n).pair c).held
              (and_right (is_unprobed ((s.block n).pair c).probing && is_unreleased ((s.block n).pair c).letting)
              (same_perm ((s.block n).pair c).recorded ((s.block n).pair c).held) settled)) ∙ sym held_free;
          serves = ap is_unserved seen;
          waits_so = ap is_acknowledging seen;
        })
      where
        new : Block (List ℕ)
        new = granted_at_once c tracker d k (s.block n)

        pair : new.pair c ≡ after_grant_sent k ((s.block n).pair c)
        pair = set-same c (after_grant_sent k ((s.block n).pair c)) (s.block n).pair
