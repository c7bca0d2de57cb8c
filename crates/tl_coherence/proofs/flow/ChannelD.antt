-- What is delivered on a link, as a beat of channel D is: of an answer, a Grant or a ReleaseAck.
use Rattle.std.proofs.Common.{◌≡◌, ℕ, Bool, true, false, not, ◌&&◌, ◌==◌, if◌then◌else◌, List, ◌∷◌, Option, None, refl}
use Rattle.std.proofs.Common.{sym, ◌∙◌, ap, subst, inl, eqb-true}
use Rattle.tl_coherence.proofs
use proofs.Imports.{and_right as with_false, eqb-false, Beat, BeatA, Channel, Message, MessageD, d_beat_of, History}
use proofs.Imports.{unfinished, completes, is_empty, Config, Cap, cap_right, asks_for, is_grant}
use proofs.Imports.{same_block, cap-gives, no_ack_grant, acquires_of, Answer, Grant, Packet, ReleaseAck}
use proofs.Imports.{ClientBlock, Granting, is_unprobed, is_unreleased, after_grant, after_release_ack, Acquires, Block}
use proofs.Imports.{SourceFree, State, answer_taken, grant_taken, let_go_block, packet, release_ack_taken, taken_block}
use proofs.Imports.{view, is_answered, is_granting, is_wanting, AbstractState, comes_granting, MonitorRelation}
use proofs.Imports.{block_message, SimulationRelation, asked_by, is_caching, Log, System}
use proofs.client.{AsideAll.set_at-else, ClientDelivered.ack_next, ClientEnd.asks-same, ClientEnd.asks-acquire}
use proofs.queues.{Carried.IsNext, Facts.granting_alone, Phases.and_right, Codes.access_kind, Codes.grants-so}
use proofs.queues.Tokens.{if-part, same_number, set-same, set-other}
use proofs.flow.{FlowAlone.AreRests, FlowAnswered.flowed-answer, FlowAnswered.flowed-let_go, FlowGranted.seen_after}
use proofs.flow.{FlowGranted.flowed-grant, FlowResponses.grant_quiet, FlowStep.held_by}
use proofs.flow.FlowBeats.{came-so, comes-so, one-beat, set_at-if, same_perms, unused-else, first_false}
use proofs.simulation.Owned.{unfinished_at}
use proofs.protocol.BothParts.{first-release_ack}
use proofs.protocol.HeadOfD.{answer-due, IsGrantDue, grant-rendered, grant_message, ack_message, own_view}

module _ {w : ℕ} {config : Config} {log : Log w} (h : AbstractState w) {sys : System w} {c : ℕ}
    (is : SimulationRelation config log h.mail h.request h.state sys) {t : History w}
    (flowed : MonitorRelation (asked_by h.mail h.state c) (unfinished_at sys c) c h.state t) (rest' : Channel
    → List (Beat w)) (toks : List Packet) where
  abbrev s : State (List ℕ)
  s = h.state

  abbrev before : ℕ → Option (BeatA w)
  before = asked_by h.mail h.state c

  -- ---- a beat of channel D

  module _ (m : MessageD w) (x : Beat w) (ms : List (Message w)) (queue : List (Beat w))
      (next : IsNext x (unfinished_at sys c Channel.D) (Message.D m) ms queue) (rests : AreRests x (unfinished_at sys c)
      rest') (b : Bool) (last : completes x (unfinished_at sys c Channel.D) ≡ b) where
    rests_y : AreRests (Beat.D (d_beat_of m next.k)) (unfinished_at sys c) rest'
    rests_y = subst (λ z. AreRests z (unfinished_at sys c) rest') next.beat_is rests

    last_y : completes (Beat.D (d_beat_of m next.k)) (unfinished_at sys c Channel.D) ≡ b
    last_y = sym (ap (λ z. completes z (unfinished_at sys c Channel.D)) next.beat_is) ∙ last

    next_y : IsNext (Beat.D (d_beat_of m next.k)) (unfinished_at sys c Channel.D) (Message.D m) ms queue
    next_y = subst (λ z. IsNext z (unfinished_at sys c Channel.D) (Message.D m) ms queue) next.beat_is next

    -- what of a Grant of block j was delivered, before and afterwards
    granted : (j : ℕ) → comes_granting j before (unfinished_at sys c Channel.D)
        ≡ (not (is_empty (unfinished_at sys c Channel.D)) && (is_grant m.opcode && asks_for j (before m.source)))
    granted j = came-so (comes_granting j before)
        (is_grant m.opcode && asks_for j (before m.source)) next_y refl (λ i. refl)

    grants : (asked' : ℕ → Option (BeatA w)) (j : ℕ)
        → comes_granting j asked' (rest' Channel.D) ≡ (not b && (is_grant m.opcode && asks_for j (asked' m.source)))
    grants asked' j = let fact = comes-so (comes_granting j asked') (Beat.D (d_beat_of m next.k))
        (unfinished_at sys c Channel.D) (is_grant m.opcode && asks_for j (asked' m.source)) refl refl in
        cc (rests_y Channel.D, last_y)

    begins_y : is_empty (unfinished Channel.D t) ≡ is_empty (unfinished_at sys c Channel.D)
    begins_y = ap is_empty (flowed.rest_is Channel.D)

    ends_y : completes (Beat.D (d_beat_of m next.k)) (unfinished Channel.D t) ≡ b
    ends_y = ap (completes (Beat.D (d_beat_of m next.k))) (flowed.rest_is Channel.D) ∙ last_y

    -- nothing comes of a message that is no Grant
    none_granted : is_grant m.opcode ≡ false → (asked' : ℕ → Option (BeatA w)) (j : ℕ)
        → comes_granting j asked' (rest' Channel.D) ≡ comes_granting j before (unfinished_at sys c Channel.D)
    none_granted e asked' j = grants asked' j ∙ with_false (not b) (is_grant m.opcode && asks_for j (asked' m.source))
        (first_false (is_grant m.opcode) (asks_for j (asked' m.source)) e) ∙ sym (granted j ∙ with_false
        (not (is_empty (unfinished_at sys c Channel.D))) (is_grant m.opcode && asks_for j (before m.source))
        (first_false (is_grant m.opcode) (asks_for j (before m.source)) e))

  -- ---- an answer

  abbrev answered_if : ℕ → Bool → State (List ℕ)
  answered_if source b = if b then answer_taken c source toks h.state else h.state

  answer_uses : (source : ℕ) (b : Bool) (i j : ℕ) → j ≡ source
      → (answered_if source b).uses c i ≡ (if b && (j == i) then SourceFree else s.uses c i)
  answer_uses source true i j e = set_at-if c _ i SourceFree s.uses j e
  answer_uses source false i j e = refl

  answer_asks : (source : ℕ) (b : Bool) (i j : ℕ) → j ≡ source → (b && (j == i)) ≡ false
      → asked_by h.mail (answered_if source b) c i ≡ before i
  answer_asks source true i j e f = asks-same c i h.mail h.mail s (answer_taken c source toks s) refl
      (inl (set_at-else c source i SourceFree s.uses (λ same. eqb-false source i (sym (ap (λ k. k == i) e) ∙ f)
      (sym same)) c)) (λ n used. refl) (λ n used. refl)
  answer_asks source false i j e f = refl

  pub own-answer : (source : ℕ) → (s.link c).d ≡ packet Answer source ∷ toks → (x : Beat w) (ms : List (Message w))
      (queue : List (Beat w)) → IsNext x (unfinished_at sys c Channel.D) (h.mail.answer c source) ms queue
      → AreRests x (unfinished_at sys c) rest' → (b : Bool) → completes x (unfinished_at sys c Channel.D) ≡ b
      → MonitorRelation (asked_by h.mail (answered_if source b) c) rest' c (answered_if source b) (x ∷ t)
  own-answer source tokens x ms queue next rests b last =
      let due = answer-due (is_caching config) c source toks h.mail s is.invariant (is.answered c source) tokens in
      let here : IsNext x (unfinished_at sys c Channel.D) (Message.D due.answer) ms queue = rw due.answer_is at next in
      let kind = access_kind due.answer.opcode due.answers_access in
      subst (λ (z : Beat w). MonitorRelation (asked_by h.mail (answered_if source b) c) rest' c
      (answered_if source b) (z ∷ t)) (sym here.beat_is) (flowed-answer (is_empty (unfinished_at sys c Channel.D))
      (begins_y due.answer x ms queue here rests b last) (ends_y due.answer x ms queue here rests b last)
      (rests_y due.answer x ms queue here rests b last) (record {
        grant = kind.0;
        ack = kind.1;
        grants = none_granted due.answer x ms queue here rests b last kind.0 (asked_by h.mail (answered_if source b) c);
        blocks = λ k. if-part (λ (z : State (List ℕ)). z.block k) b refl refl;
        uses = λ i. answer_uses source b i due.answer.source due.from;
        lets = λ i. if-part (λ (z : State (List ℕ)). z.lets c i) b refl refl;
        asked_is = λ i e. answer_asks source b i due.answer.source due.from e;
      }) flowed)

  -- ---- a ReleaseAck

  pub own-release_ack : (n : ℕ) → (s.link c).d ≡ packet ReleaseAck n ∷ toks
      → (x : Beat w) (ms : List (Message w)) (queue : List (Beat w))
      → IsNext x (unfinished_at sys c Channel.D) (block_message ReleaseAck c n (s.block n)) ms queue
      → AreRests x (unfinished_at sys c) rest' → (asked' : ℕ → Option (BeatA w)) → ((i : ℕ) → asked' i ≡ before i)
      → MonitorRelation asked' rest' c (release_ack_taken c n toks s) (x ∷ t)
  own-release_ack n tokens x ms queue next rests asked' asks =
      let m : MessageD w = ack_message ((s.block n).release_source c) in
      let here = ack_next c n s next in
      let one = one-beat here refl in
      let now : (release_ack_taken c n toks s).block n ≡ new = set-same n new s.block in
      subst (λ z. MonitorRelation asked' rest' c (release_ack_taken c n toks s) (z ∷ t)) (sym here.beat_is)
      (flowed-let_go (begins_y m x ms queue here rests true one.2 ∙ ap is_empty one.1) (ends_y m x ms queue here rests
      true one.2) (rests_y m x ms queue here rests true one.2) (λ i k. is.invariant.named.releases c i k) (record {
        grant = refl;
        ack = refl;
        source = refl;
        letting = first-release_ack is.invariant tokens;
        grants = none_granted m x ms queue here rests true one.2 refl asked';
        asked_is = asks;
        elsewhere = λ k ne. set-other n k new s.block ne;
        uses = λ i. refl;
        lets = λ i. set_at-if c ((s.block n).release_source c) i None s.lets ((s.block n).release_source c) refl;
        held_is = ap (held_by c) now ∙ ap (λ p. if is_granting (view (s.block n).service c) then p.held
            else p.recorded) pair;
        service = ap (λ z. z.service) now;
        tracker = ap (λ z. z.tracker) now;
        acquiring = ap (λ z. (z.pair c).acquiring) now ∙ ap (λ p. p.acquiring) pair;
        probing = ap (λ z. (z.pair c).probing) now ∙ ap (λ p. p.probing) pair;
        letting_is = ap (λ z. (z.pair c).letting) now ∙ ap (λ p. p.letting) pair;
      }) flowed)
    where
      new : Block (List ℕ)
      new = let_go_block c (s.block n)

      pair : new.pair c ≡ after_release_ack ((s.block n).pair c)
      pair = set-same c (after_release_ack ((s.block n).pair c)) (s.block n).pair

  -- ---- a Grant

  abbrev granted_if : ℕ → Bool → Bool → Cap → Bool → State (List ℕ)
  granted_if n whole d k b = if b then grant_taken c n whole d k toks h.state else h.state

  grant_asks : (n : ℕ) (whole d : Bool) (k : Cap) (b : Bool) (i : ℕ) → (b && ((s.block n).source c == i)) ≡ false
      → asked_by h.mail (granted_if n whole d k b) c i ≡ before i
  grant_asks n whole d k false i e = refl
  grant_asks n whole d k true i e = cc (asks-same c i h.mail h.mail s (grant_taken c n whole d k toks s) refl (inl
      (set_at-else c ((s.block n).source c) i SourceFree s.uses (λ same. eqb-false ((s.block n).source c) i e (sym
      same)) c)) (λ j used. ap (λ z. (z.pair c).acquiring) (set-other n j (taken_block c whole d k
      (s.block n)) s.block (apart j used))) (λ j used. ap (λ z. z.source c) (set-other n j
      (taken_block c whole d k (s.block n)) s.block (apart j used))))
    where
      apart : (j : ℕ) → s.uses c i ≡ Acquires j → j ≡ n → ⊥
      apart j used same =
          let no : acquires_of n (Acquires n) ≡ false = cc (used, same, unused-else c n i is.invariant.named e) in
          let yes : true ≡ false = sym (same_number n) ∙ no in cc

  pub own-grant : {n : ℕ} → (s.link c).d ≡ packet Grant n ∷ toks → (due : IsGrantDue c n s) → (whole : Bool)
      → (x : Beat w) (ms : List (Message w)) (queue : List (Beat w))
      → IsNext x (unfinished_at sys c Channel.D) (block_message Grant c n (s.block n)) ms queue
      → AreRests x (unfinished_at sys c) rest' → (b : Bool) → completes x (unfinished_at sys c Channel.D) ≡ b
      → MonitorRelation (asked_by h.mail (granted_if n whole due.data_too due.k b) c) rest' c
      (granted_if n whole due.data_too due.k b) (x ∷ t)
  own-grant {n} tokens due whole x ms queue next rests b last =
      let seen : view (s.block n).service c ≡ Granting due.data_too due.k =
      own_view c due.data_too due.k (s.block n).service due.service in
      let even : ((s.block n).pair c).recorded ≡ cap_right due.k = sym (same_perms ((s.block n).pair c).recorded
      (cap_right due.k) (and_right (is_unreleased ((s.block n).pair c).letting) _ (and_right (is_unprobed ((s.block
      n).pair c).probing) _ (granting_alone due.data_too due.k ((s.block n).pair c) (view (s.block n).service c)
      ((is.invariant.blocks n).phases c) seen)))) in
      let asks : (j : ℕ) → asks_for j (before ((s.block n).source c)) ≡ (n == j) =
      λ j. ap (asks_for j) (asks-acquire c ((s.block n).source c) n ((s.block n).source c) due.whole due.g h.mail s
      due.used due.wants refl) ∙ ap (λ (i : ℕ). i == j) (same_block n) in
      let asks_now : (z : Bool) (j : ℕ) → (not z && (true && asks_for j (asked_by h.mail (s_if z) c
      ((s.block n).source c)))) ≡ (not z && (n == j)) = elim [ true ↦ λ j. refl | false ↦ λ j. asks j ] in
      let now : (s_if true).block n ≡ new = set-same n new s.block in
      let seen_is : (z : Bool) → view ((s_if z).block n).service c ≡ seen_after z due.data_too due.k =
      elim [ true ↦ rw (now, same_number c) refl | false ↦ seen ] in
      let held_is : (z : Bool) → held_by c ((s_if z).block n) ≡ (if z then cap_right due.k else held_by c (s.block n)) =
      elim [ true ↦ cc (now, seen_is true, pair, even) | false ↦ refl ] in
      let wants_is : (z : Bool) → is_wanting (((s_if z).block n).pair c).acquiring ≡ not z =
      elim [ true ↦ part_is (λ p. is_wanting p.acquiring) | false ↦ ap is_wanting due.wants ] in
      let m : MessageD w = grant_message due.data_too due.k ((s.block n).source c) (s.block n).tracker (s.block n).truth
      in
      let here : IsNext x (unfinished_at sys c Channel.D) (Message.D m) ms queue =
      subst (λ (i : Message w). IsNext x (unfinished_at sys c Channel.D) i ms queue) (grant-rendered c n s due) next in
      subst (λ (z : Beat w). MonitorRelation (asked_by h.mail (s_if b) c) rest' c (s_if b) (z ∷ t)) (sym here.beat_is)
      (flowed-grant (begins_y m x ms queue here rests b last) (ends_y m x ms queue here rests b last)
      (rests_y m x ms queue here rests b last) (record {
        grant = grants-so due.data_too;
        ack = no_ack_grant due.data_too;
        sink = refl;
        says = cap-gives due.k;
        seen = seen;
        wants = ap is_wanting due.wants;
        quiet = grant_quiet is.invariant due;
        use_is = λ i e. ap (s.uses c) (sym (eqb-true ((s.block n).source c) i e)) ∙ due.used;
        no_use = λ i e. unused-else c n i is.invariant.named e;
        asks = asks;
        granted = λ j. cc (granted m x ms queue here rests b last j, grants-so due.data_too, asks j);
        grants = λ j. let fact = grants m x ms queue here rests b last (asked_by h.mail (s_if b) c) j in
            cc (grants-so due.data_too, asks_now b j);
        asked_is = grant_asks n whole due.data_too due.k b;
        elsewhere = λ k ne. if-part (λ (z : State (List ℕ)). z.block k) b (set-other n k new s.block ne) refl;
        uses = uses b;
        lets = λ i. if-part (λ (z : State (List ℕ)). z.lets c i) b refl refl;
        held_is = held_is b;
        seen_is = seen_is b;
        wants_is = wants_is b;
        letting_is = if-part (λ (z : State (List ℕ)). ((z.block n).pair c).letting) b (part_is (λ p. p.letting)) refl;
        release_source = if-part (λ (z : State (List ℕ)). (z.block n).release_source c) b
            (ap (λ z. z.release_source c) now) refl;
        tracker = if-part (λ (z : State (List ℕ)). (z.block n).tracker) b (ap (λ z. z.tracker) now) refl;
        answered = if-part (λ (z : State (List ℕ)). is_answered ((z.block n).pair c).probing) b
            (part_is (λ p. is_answered p.probing)) refl;
      }) flowed)
    where
      s_if : Bool → State (List ℕ)
      s_if z = granted_if n whole due.data_too due.k z

      new : Block (List ℕ)
      new = taken_block c whole due.data_too due.k (s.block n)

      pair : new.pair c ≡ after_grant due.k ((s.block n).pair c)
      pair = set-same c (after_grant due.k ((s.block n).pair c)) (s.block n).pair

      part_is : {A : Type 0} (part : ClientBlock → A)
          → part (((s_if true).block n).pair c) ≡ part (after_grant due.k ((s.block n).pair c))
      part_is part = ap (λ (z : Block (List ℕ)). part (z.pair c)) (set-same n new s.block) ∙ ap part pair

      uses : (z : Bool) (i : ℕ)
          → (s_if z).uses c i ≡ (if z && ((s.block n).source c == i) then SourceFree else s.uses c i)
      uses true i = set_at-if c ((s.block n).source c) i SourceFree s.uses ((s.block n).source c) refl
      uses false i = refl
