-- What is delivered on a link, as a beat of channel C or E is: of a ProbeAck, a Release or a GrantAck.
use Rattle.std.proofs.Common.{◌≡◌, ℕ, Bool, true, false, not, ◌&&◌, ◌==◌, if◌then◌else◌, List, ◌∷◌, Option, refl, sym}
use Rattle.std.proofs.Common.{◌∙◌, ap, subst, arith, length}
use Rattle.tl_coherence.proofs
use proofs.Imports.{and_right as with_false, Beat, BeatA, BeatE, Channel, IsWidth, Message, MessageC, c_beat_of}
use proofs.Imports.{History, completes, is_empty, Config, Prune, Report, Perm, prune_code, prune_left, prune_right}
use proofs.Imports.{report_code, report_left, comes_in_release, same_perm, is_release, reported, reported-report}
use proofs.Imports.{release, is_busy, GrantAck, Packet, ProbeAck, Release, Acknowledging, ClientBlock, Granting, Idle}
use proofs.Imports.{ReleaseSent, View, is_unprobed, is_unreleased, ok, after_release_taken, Block, Service, State}
use proofs.Imports.{grant_ack_taken, let_block, packet, release_taken, report_taken, view, is_acknowledging}
use proofs.Imports.{is_granting, AbstractState, MonitorRelation, prune_told, report_told, block_message}
use proofs.Imports.{SimulationRelation, asked_by, Log, System}
use proofs.queues.{Carried.IsNext, Facts.answered_other, Facts.granting_alone, Phases.and_left, Phases.and_right}
use proofs.queues.Tokens.{if-part, set-same, set-other}
use proofs.client.HalfTaken.{coming-granting}
use proofs.flow.{FlowAlone.AreRests, FlowAlone.flowed-grant_ack, FlowLawful.other_ungranted}
use proofs.flow.{FlowStep.held_by, FlowOthers.flowed-report_part, FlowOthers.flowed-report}
use proofs.flow.FlowReleased.{letting_after, flowed-release}
use proofs.flow.FlowBeats.{came-so, comes-so, one-beat, first_false}
use proofs.simulation.Owned.{unfinished_at}
use proofs.manager.Reporting.{IsAbout, report-about, release-about, reported-prune}
use proofs.protocol.BothParts.{first-release, first-report, first-shown}
use proofs.client.ClientEnd.{comes-same}

-- ---- what the messages say

-- its bytes are those of a block
abbrev IsLong : Block (List ℕ) → Type 0
IsLong b = length b.truth ≡ 64

size_of : {w : ℕ} → Message w → ℕ
size_of (Message.C m) = m.size
size_of m = 0

pub report_rendered : {w : ℕ} (c n : ℕ) (b : Block (List ℕ)) → IsWidth w → IsLong b
    → (m : MessageC w) × (block_message ProbeAck c n b ≡ Message.C m)
    × IsAbout true n (report_code (report_told (b.pair c).probing))
    (same_perm (report_left (report_told (b.pair c).probing)) Perm.Trunk) b.truth m
unfolding block_message
report_rendered c n b width long = report-about (report_told (b.pair c).probing) n b.truth width long

release_size : {w : ℕ} (r : Prune) (source n : ℕ) (truth : List ℕ) (m : MessageC w)
    → release r source n truth ≡ Message.C m → m.size ≡ 6
unfolding size_of
release_size r source n truth m e = grind (arith, size_of)

pub release_rendered : {w : ℕ} (c n : ℕ) (b : Block (List ℕ)) → IsWidth w → IsLong b
    → (m : MessageC w) × (block_message Release c n b ≡ Message.C m)
    × IsAbout false n (prune_code (prune_told (b.pair c).letting))
    (same_perm (prune_left (prune_told (b.pair c).letting)) Perm.Trunk) b.truth m
    × (m.source ≡ b.release_source c) × (m.size ≡ 6)
unfolding block_message
release_rendered c n b width long =
    let r = prune_told (b.pair c).letting in
    let about = release-about r (b.release_source c) n b.truth width long in
    (about.0, about.1, about.2, about.3, release_size r _ n b.truth _ about.1)

-- who has a Release open isn't granted the block
released_ungranted : (r : Prune) (p : ClientBlock) (v : View) → ok p v ≡ true → p.letting ≡ ReleaseSent r
    → is_granting v ≡ false
released_ungranted r p (Granting d k) well open_ =
    let alone = granting_alone d k p _ well refl in
    let held_back = and_left (is_unreleased p.letting) _ (and_right (is_unprobed p.probing) _ alone) in
    absurd (let no : false ≡ true = rw open_ at held_back in cc)
released_ungranted r p v well open_ = refl

-- a service that is seen so isn't none
busy_seen : (test : View → Bool) → test Idle ≡ false → (q : Service) (c : ℕ) → test (view q c) ≡ true → is_busy q ≡ true
busy_seen test e q c f = grind arith

pub ack_rendered : {w : ℕ} (c n : ℕ) (b : Block (List ℕ)) → block_message {w = w} GrantAck c n b ≡ Message.E
    (record { sink = b.tracker })
unfolding block_message
ack_rendered c n b = refl

module _ {w : ℕ} {config : Config} {log : Log w} (h : AbstractState w) {sys : System w} {c : ℕ} (width : IsWidth w)
    (is : SimulationRelation config log h.mail h.request h.state sys) {t : History w}
    (flowed : MonitorRelation (asked_by h.mail h.state c) (unfinished_at sys c) c h.state t) (rest' : Channel
    → List (Beat w)) (n : ℕ) (toks : List Packet) where
  abbrev s : State (List ℕ)
  s = h.state

  abbrev before : ℕ → Option (BeatA w)
  before = asked_by h.mail h.state c

  well : ok ((s.block n).pair c) (view (s.block n).service c) ≡ true
  well = (is.invariant.blocks n).phases c

  -- the beat of a message of channel C
  module _ (m : MessageC w) (x : Beat w) (ms : List (Message w)) (queue : List (Beat w))
      (next : IsNext x (unfinished_at sys c Channel.C) (Message.C m) ms queue) (rests : AreRests x (unfinished_at sys c)
      rest') (b : Bool) (last : completes x (unfinished_at sys c Channel.C) ≡ b) where
    rests_y : AreRests (Beat.C (c_beat_of m next.k)) (unfinished_at sys c) rest'
    rests_y = subst (λ z. AreRests z (unfinished_at sys c) rest') next.beat_is rests

    last_y : completes (Beat.C (c_beat_of m next.k)) (unfinished_at sys c Channel.C) ≡ b
    last_y = sym (ap (λ z. completes z (unfinished_at sys c Channel.C)) next.beat_is) ∙ last

    -- what of a Release with source i was delivered, before and afterwards
    came : (i : ℕ) → comes_in_release i (unfinished_at sys c Channel.C)
        ≡ (not (is_empty (unfinished_at sys c Channel.C)) && (is_release m.opcode && (m.source == i)))
    came i = came-so (comes_in_release i) (is_release m.opcode && (m.source == i)) (subst (λ z. IsNext z
        (unfinished_at sys c Channel.C) (Message.C m) ms queue) next.beat_is next) refl (λ j. refl)

    comes : (i : ℕ) → comes_in_release i (rest' Channel.C) ≡ (not b && (is_release m.opcode && (m.source == i)))
    comes i = let fact = comes-so (comes_in_release i) (Beat.C (c_beat_of m next.k)) (unfinished_at sys c Channel.C)
        (is_release m.opcode && (m.source == i)) refl refl in cc (rests_y Channel.C, last_y)

  -- ---- a ProbeAck

  abbrev reported_if : Report → Bool → State (List ℕ)
  reported_if r b = if b then report_taken c n r toks h.state else h.state

  pub own-report : (s.link c).c ≡ packet ProbeAck n ∷ toks
      → (x : Beat w) (ms : List (Message w)) (queue : List (Beat w))
      → IsNext x (unfinished_at sys c Channel.C) (block_message ProbeAck c n (s.block n)) ms queue
      → AreRests x (unfinished_at sys c) rest' → (b : Bool) → completes x (unfinished_at sys c Channel.C) ≡ b
      → MonitorRelation before rest' c (if b then report_taken c n (report_told ((s.block n).pair c).probing) toks s
      else s) (x ∷ t)
  own-report tokens x ms queue next rests b last = rw here.beat_is (go b last)
    where
      r : Report
      r = report_told ((s.block n).pair c).probing

      about : (m : MessageC w) × (block_message ProbeAck c n (s.block n) ≡ Message.C m) × IsAbout true n (report_code r)
          (same_perm (report_left r) Perm.Trunk) (s.block n).truth m
      about = report_rendered c n (s.block n) width (is.sized n).truth

      m : MessageC w
      m = about.0

      here : IsNext x (unfinished_at sys c Channel.C) (Message.C m) ms queue
      here = subst (λ i. IsNext x (unfinished_at sys c Channel.C) i ms queue) about.1 next

      alone : is_granting (view (s.block n).service c) ≡ false
      alone = other_ungranted (view (s.block n).service c)
          (answered_other r ((s.block n).pair c) (view (s.block n).service c) well (first-report is.invariant tokens))

      same : (z : Bool) → completes x (unfinished_at sys c Channel.C) ≡ z → (i : ℕ)
          → comes_in_release i (rest' Channel.C) ≡ comes_in_release i (unfinished_at sys c Channel.C)
      same z e i = comes m x ms queue here rests z e i ∙ with_false (not z) (is_release m.opcode && (m.source == i))
          (first_false (is_release m.opcode) (m.source == i) about.2.releases)
          ∙ sym (came m x ms queue here rests z e i ∙ with_false (not (is_empty (unfinished_at sys c Channel.C)))
          (is_release m.opcode && (m.source == i)) (first_false (is_release m.opcode) (m.source == i) about.2.releases))

      go : (z : Bool) → completes x (unfinished_at sys c Channel.C) ≡ z
          → MonitorRelation before rest' c (reported_if r z) (Beat.C (c_beat_of m here.k) ∷ t)
      go false e = flowed-report_part (c_beat_of m here.k) (is_empty (unfinished_at sys c Channel.C)) rest' (ap is_empty
          (flowed.rest_is Channel.C)) (cc (flowed.rest_is Channel.C, last_y m x ms queue here rests false e))
          (rests_y m x ms queue here rests false e) about.2.releases (same false e) flowed
      go true e = flowed-report n r toks (c_beat_of m here.k) (is_empty (unfinished_at sys c Channel.C)) rest'
          (ap is_empty (flowed.rest_is Channel.C)) (ap (completes (Beat.C (c_beat_of m here.k))) (flowed.rest_is
          Channel.C) ∙ last_y m x ms queue here rests true e) (rests_y m x ms queue here rests true e) about.2.reports
          about.2.releases (same true e) about.2.block (ap reported about.2.param_is ∙ reported-report r) alone flowed

  -- ---- a Release

  abbrev released_if : Prune → Bool → State (List ℕ)
  released_if r b = if b then release_taken c n r toks h.state else h.state

  pub own-release : (s.link c).c ≡ packet Release n ∷ toks
      → (x : Beat w) (ms : List (Message w)) (queue : List (Beat w))
      → IsNext x (unfinished_at sys c Channel.C) (block_message Release c n (s.block n)) ms queue
      → AreRests x (unfinished_at sys c) rest' → (b : Bool) → completes x (unfinished_at sys c Channel.C) ≡ b
      → MonitorRelation before rest' c (if b then release_taken c n (prune_told ((s.block n).pair c).letting) toks s
      else s) (x ∷ t)
  own-release tokens x ms queue next rests b last =
      let releasing : ((s.block n).pair c).letting ≡ ReleaseSent r = first-release is.invariant tokens in
      let ungranted : is_granting (view (s.block n).service c) ≡ false =
      released_ungranted r ((s.block n).pair c) (view (s.block n).service c) well releasing in
      let now : (release_taken c n r toks s).block n ≡ new = set-same n new s.block in
      let held_is : (z : Bool) → held_by c ((released_if r z).block n) ≡ (if z then prune_right r else held_by c
      (s.block n)) = elim [ true ↦ cc (now, ungranted, pair) | false ↦ refl ] in
      let letting_is : (z : Bool) → (((released_if r z).block n).pair c).letting ≡ letting_after z r =
      elim [ true ↦ part_is (λ p. p.letting) | false ↦ releasing ] in
      let about = release_rendered c n (s.block n) width (is.sized n).truth in
      let m : MessageC w = about.0 in
      let here : IsNext x (unfinished_at sys c Channel.C) (Message.C m) ms queue = rw about.1 at next in
      subst (λ (z : Beat w). MonitorRelation before rest' c (released_if r b) (z ∷ t)) (sym here.beat_is)
      (flowed-release (ap is_empty (flowed.rest_is Channel.C)) (ap (completes (Beat.C (c_beat_of m here.k)))
      (flowed.rest_is Channel.C) ∙ last_y m x ms queue here rests b last) (rests_y m x ms queue here rests b last)
      (λ i k. is.invariant.named.releases c i k) (record {
        release = about.2.releases;
        ack = about.2.reports;
        source = about.3;
        at = about.2.block;
        size = about.4;
        says = ap reported about.2.param_is ∙ reported-prune r;
        letting = releasing;
        came = λ i. cc (came m x ms queue here rests b last i, about.2.releases);
        comes = λ i. cc (comes m x ms queue here rests b last i, about.2.releases);
        elsewhere = λ k ne. if-part (λ (z : State (List ℕ)). z.block k) b (set-other n k new s.block ne) refl;
        uses = λ i. if-part (λ (z : State (List ℕ)). z.uses c i) b refl refl;
        lets = λ i. if-part (λ (z : State (List ℕ)). z.lets c i) b refl refl;
        held_is = held_is b;
        service = if-part (λ (z : State (List ℕ)). (z.block n).service) b (ap (λ z. z.service) now) refl;
        tracker = if-part (λ (z : State (List ℕ)). (z.block n).tracker) b (ap (λ z. z.tracker) now) refl;
        release_source = if-part (λ (z : State (List ℕ)). (z.block n).release_source c) b
            (ap (λ z. z.release_source c) now) refl;
        acquiring = if-part (λ (z : State (List ℕ)). ((z.block n).pair c).acquiring) b (part_is (λ p. p.acquiring))
            refl;
        probing = if-part (λ (z : State (List ℕ)). ((z.block n).pair c).probing) b (part_is (λ p. p.probing)) refl;
        letting_is = letting_is b;
      }) flowed)
    where
      r : Prune
      r = prune_told ((s.block n).pair c).letting

      new : Block (List ℕ)
      new = let_block c r (s.block n)

      pair : new.pair c ≡ after_release_taken r ((s.block n).pair c)
      pair = set-same c (after_release_taken r ((s.block n).pair c)) (s.block n).pair

      part_is : {A : Type 0} (part : ClientBlock → A)
          → part (((release_taken c n r toks s).block n).pair c) ≡ part (after_release_taken r ((s.block n).pair c))
      part_is part = ap (λ (z : Block (List ℕ)). part (z.pair c)) (set-same n new s.block) ∙ ap part pair

  -- ---- a GrantAck

  pub own-grant_ack : (s.link c).e ≡ packet GrantAck n ∷ toks
      → (x : Beat w) (ms : List (Message w)) (queue : List (Beat w))
      → IsNext x (unfinished_at sys c Channel.E) (block_message GrantAck c n (s.block n)) ms queue
      → AreRests x (unfinished_at sys c) rest' → (asked' : ℕ → Option (BeatA w)) → ((i : ℕ) → asked' i ≡ before i)
      → MonitorRelation asked' rest' c (grant_ack_taken c n toks s) (x ∷ t)
  own-grant_ack tokens x ms queue next rests asked' asks =
      let y : BeatE = record { sink = (s.block n).tracker } in
      let here : IsNext x (unfinished_at sys c Channel.E) (Message.E (record { sink = (s.block n).tracker })) ms queue =
      rw (ack_rendered c n (s.block n)) at next in
      let one = one-beat here refl in
      let x_is : x ≡ Beat.E y = here.beat_is in
      subst (λ z. MonitorRelation asked' rest' c (grant_ack_taken c n toks s) (z ∷ t)) (sym x_is)
      (flowed-grant_ack n toks y asked' rest' (ap is_empty (flowed.rest_is Channel.E ∙ one.1)) (ap (completes {w = w}
      (Beat.E y)) (flowed.rest_is Channel.E ∙ one.1)) (rw x_is at rests) asks refl seen is.invariant.named
      (busy_seen is_acknowledging refl (s.block n).service c shows) (λ k e. busy_seen is_acknowledging refl
      (s.block k).service c e) (λ k e. busy_seen is_granting refl (s.block k).service c e) (coming-granting c is)
      (λ k. comes-same k before asked' (unfinished_at sys c Channel.D) asks) flowed)
    where
      shows : is_acknowledging (view (s.block n).service c) ≡ true
      shows = first-shown is.invariant c GrantAck refl tokens

      seen : view (s.block n).service c ≡ Acknowledging
      seen =
          let is_seen : (v : View) → is_acknowledging v ≡ true → v ≡ Acknowledging =
          elim [ Acknowledging ↦ λ e. refl | v ↦ λ e. absurd cc ] in
          is_seen (view (s.block n).service c) shows
