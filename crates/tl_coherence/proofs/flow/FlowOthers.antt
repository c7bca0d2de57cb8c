-- What an event leaves of its block for what is delivered on the links that it isn't of.
-- What is delivered on a link, as the beats of a ProbeAck are.
-- What is delivered on a link, as the last beat of a ProbeAck is.
use Rattle.std.proofs.Common.{◌≡◌, ℕ, Bool, true, false, not, ◌&&◌, ◌||◌, ◌==◌, if◌then◌else◌, List, ◌∷◌, Option, Some}
use Rattle.std.proofs.Common.{None, refl, sym, ◌∙◌, ap, arith, ◌⊎◌, inl, inr, ne_eqb, unwrap_or}
use Rattle.tl_coherence.proofs
use proofs.Imports.{Beat, BeatA, BeatC, Channel, History, Cap, Grow, Prune, Report, Perm, report_right}
use proofs.Imports.{comes_in_release, begins, block_at, ends, is_probe_ack, is_release, reported, probe_of, release_of}
use proofs.Imports.{grant_sink-c, probe_of-c, request_of-c, Packet, set, GrantedOther, Granting, Idle, Other, Own}
use proofs.Imports.{ProbePhase, ProbeSent, ReleasePhase, View, is_unprobed, after_acquire, after_grant}
use proofs.Imports.{after_grant_sent, after_probe, after_release, after_release_ack, after_release_taken, after_report}
use proofs.Imports.{after_served, is_above, Block, Free, GrantSent, GrantTaken, State, Waits, acquiring_block}
use proofs.Imports.{ended_block, freed_block, granted_at_once, granted_block, let_block, let_go_block, performed_block}
use proofs.Imports.{probed_block, releasing_block, report_taken, reported_block, served_block, served_pair}
use proofs.Imports.{stored_block, taken_block, view, is_acknowledging, is_answered, is_granting, is_unserved}
use proofs.Imports.{is_wanting, MonitorRelation, is_let_by, is_release_pending, is_requested, probe_beat}
use proofs.Imports.{cap_waited}
use proofs.flow.FlowBeats.{part_of}
use proofs.flow.FlowStep.{flowed-next, let_of, granted_by, step, step_quiet, held_by, acquired_by, let_still}
use proofs.flow.FlowAlone.{AreRests, requested-blocks, let_by-same, IsSameBlock}
use proofs.queues.Tokens.{same_number, set-same, set-each, set-part, set-other}
use proofs.protocol.BothParts.{quiet_unanswered}

-- the service looks the same to the client's link
pub record IsSameView (v v' : View) : Type 0 where
  pub granting : is_granting v' ≡ is_granting v
  pub unserved : is_unserved v' ≡ is_unserved v
  pub acknowledging : is_acknowledging v' ≡ is_acknowledging v

same-view : (v : View) → IsSameView v v
same-view v = record { granting = refl; unserved = refl; acknowledging = refl }

others-same : {X : Type 0} (d : ℕ) (b b' : Block X) → b'.pair d ≡ b.pair d → b'.release_source d ≡ b.release_source d
    → (b'.tracker ≡ b.tracker) ⊎ ((is_acknowledging (view b.service d) || is_granting (view b.service d)) ≡ false)
    → IsSameView (view b.service d) (view b'.service d)
    → (is_answered (b.pair d).probing ≡ true → cap_waited b'.service ≡ cap_waited b.service) → IsSameBlock d b b'
others-same {X} d b b' pair source tracker sees cap = record {
  held = cc (pair, sees.granting);
  wanting = ap (λ p. is_wanting p.acquiring) pair;
  unserved = sees.unserved;
  letting = ap (λ p. p.letting) pair;
  source = source;
  acknowledging = sees.acknowledging;
  answered = ap (λ p. is_answered p.probing) pair;
  cap = λ e. cap (sym (ap (λ p. is_answered p.probing) pair) ∙ e);
  tracker = tracker;
}

-- ---- how services look to others

-- a view of one who has nothing of the service: not served, not granted
abbrev pub is_outside : View → Bool
is_outside Idle = true
is_outside (Other k) = true
is_outside GrantedOther = true
is_outside _ = false

outside-same : (v v' : View) → is_outside v ≡ true → is_outside v' ≡ true → IsSameView v v'
outside-same v v' e f = grind arith

-- only the one who asked sees a service from inside
pub outside-waits : (d r source : ℕ) (own : Bool) (k : Cap) → (own && (d == r)) ≡ false
    → is_outside (view (Waits r own source k) d) ≡ true
outside-waits d r source own k e = rw e refl

pub outside-sent : (d r : ℕ) (x : Bool) (k : Cap) → (d ≡ r → ⊥) → is_outside (view (GrantSent r x k) d) ≡ true
outside-sent d r x k ne = rw (ne_eqb d r ne) refl

pub outside-taken : (d r : ℕ) → (d ≡ r → ⊥) → is_outside (view (GrantTaken r) d) ≡ true
outside-taken d r ne = rw (ne_eqb d r ne) refl

not_in : (v : View) → is_outside v ≡ true → (is_acknowledging v || is_granting v) ≡ false
not_in v e = grind arith

-- ---- each event

pub same-performed : {X : Type 0} (d : ℕ) (f : X → X) (b : Block X) → IsSameBlock d b (performed_block f b)
same-performed d f b = others-same d b _ refl refl (inl refl) (same-view (view b.service d)) (λ e. refl)

-- one who is probed, or spared, as a block that was at rest is served
pub same-served : {X : Type 0} (d r source tracker : ℕ) (own : Bool) (k : Cap) (b : Block X) → (own && (d == r)) ≡ false
    → b.service ≡ Free → is_unprobed (b.pair d).probing ≡ true → IsSameBlock d b (served_block r own source tracker k b)
same-served {X} d r source tracker own k b other free quiet =
    let nor_now : (a : Bool) (p : ProbePhase) → is_unprobed p ≡ true → is_answered (if a then ProbeSent k else p)
    ≡ false = elim [ true ↦ λ p e. refl | false ↦ λ p e. quiet_unanswered p e ] in
    let before : is_outside (view b.service d) ≡ true = ap (λ q. is_outside (view q d)) free in
    let sees : IsSameView (view b.service d) (view (Waits r own source k) d) =
    outside-same _ _ before (outside-waits d r source own k other) in
    let pair : served_pair r own k b.pair d ≡ after_served k (b.pair d) = rw other refl in
    record {
      held = cc (pair, sees.granting);
      wanting = ap (λ p. is_wanting p.acquiring) pair;
      unserved = sees.unserved;
      letting = ap (λ p. p.letting) pair;
      source = refl;
      acknowledging = sees.acknowledging;
      answered = ap (λ p. is_answered p.probing) pair ∙ nor_now (is_above k (b.pair d).recorded)
          (b.pair d).probing quiet ∙ sym (quiet_unanswered (b.pair d).probing quiet);
      cap = λ e. absurd (let f : false ≡ true = sym (ap (λ p. is_answered p.probing) pair ∙ nor_now
          (is_above k (b.pair d).recorded) (b.pair d).probing quiet) ∙ e in cc);
      tracker = inr (not_in (view b.service d) before);
    }

pub same-granted_at_once : {X : Type 0} (d r tracker : ℕ) (x : Bool) (k : Cap) (b : Block X) → (d ≡ r → ⊥)
    → b.service ≡ Free → is_answered (b.pair d).probing ≡ false → IsSameBlock d b (granted_at_once r tracker x k b)
same-granted_at_once {X} d r tracker x k b ne free quiet =
    let before : is_outside (view b.service d) ≡ true = ap (λ q. is_outside (view q d)) free in
    others-same d b _ (set-other r d (after_grant_sent k (b.pair r)) b.pair ne) refl
    (inr (not_in (view b.service d) before)) (outside-same (view b.service d) (view (GrantSent r x k) d) before
    (outside-sent d r x k ne)) (λ e. absurd (let f : false ≡ true = sym quiet ∙ e in cc))

pub same-probed : {X : Type 0} (d c : ℕ) (k : Cap) (b : Block X) → (d ≡ c → ⊥) → IsSameBlock d b (probed_block c k b)
same-probed d c k b ne = others-same d b _ (set-other c d (after_probe k (b.pair c)) b.pair ne) refl
    (inl refl) (same-view (view b.service d)) (λ e. refl)

pub same-reported : {X : Type 0} (d c : ℕ) (r : Report) (b : Block X) → (d ≡ c → ⊥)
    → IsSameBlock d b (reported_block c r b)
same-reported d c r b ne = others-same d b _ (set-other c d (after_report r (b.pair c)) b.pair ne)
    refl (inl refl) (same-view (view b.service d)) (λ e. refl)

-- the last ProbeAck, where nobody has anything of a Probe any more
pub same-settled : {X : Type 0} (d c q source : ℕ) (r : Report) (k : Cap) (f : X → X) (b : Block X)
    → b.service ≡ Waits q false source k → is_answered ((reported_block c r b).pair d).probing ≡ false
    → IsSameBlock d (reported_block c r b) (ended_block c r f b)
same-settled {X} d c q source r k f b waits quiet = others-same d _ _ refl refl
    (inl refl) (outside-same (view b.service d) (view Free d) (ap (λ i. is_outside (view i d)) waits
    ∙ outside-waits d q source false k refl) refl) (λ e. absurd (let g : false ≡ true = sym quiet ∙ e in cc))

pub same-granted : {X : Type 0} (d c q source : ℕ) (r : Report) (j k : Cap) (x : Bool) (b : Block X) → (d ≡ q → ⊥)
    → b.service ≡ Waits q true source j → is_answered ((reported_block c r b).pair d).probing ≡ false
    → IsSameBlock d (reported_block c r b) (granted_block c q r x k b)
same-granted {X} d c q source r j k x b other waits quiet = others-same d _ _ (set-other q d (after_grant_sent k
    (b.pair q)) (set c (after_report r (b.pair c)) b.pair) other) refl (inl refl) (outside-same (view b.service d)
    (view (GrantSent q x k) d) (ap (λ i. is_outside (view i d)) waits ∙ outside-waits d q source true j
    (ne_eqb d q other)) (outside-sent d q x k other)) (λ e. absurd (let g : false ≡ true = sym quiet ∙ e in cc))

-- who asked for the block had as much of it as was recorded
pub same-given : {X : Type 0} (c q source : ℕ) (r : Report) (j k : Cap) (x : Bool) (b : Block X) → (q ≡ c → ⊥)
    → b.service ≡ Waits q true source j → (b.pair q).held ≡ (b.pair q).recorded → is_answered (b.pair q).probing ≡ false
    → IsSameBlock q (reported_block c r b) (granted_block c q r x k b)
same-given {X} c q source r j k x b other waits even quiet =
    let new = granted_block c q r x k b in
    let pair = set-same q (after_grant_sent k (b.pair q)) (set c (after_report r (b.pair c)) b.pair) in
    let old : Block X = reported_block c r b in
    let same : old.pair q ≡ b.pair q = set-other c q (after_report r (b.pair c)) b.pair other in
    let now : view new.service q ≡ Granting x k = rw (same_number q) refl in
    let then_ : view old.service q ≡ Own = rw (waits, same_number q) refl in
    record {
      held = cc (now, pair, even, then_, same);
      wanting = cc;
      unserved = ap is_unserved now ∙ sym (ap is_unserved then_);
      letting = ap (λ p. p.letting) pair ∙ sym (ap (λ p. p.letting) same);
      source = refl;
      acknowledging = ap is_acknowledging now ∙ sym (ap is_acknowledging then_);
      answered = cc (pair, same);
      cap = λ e. absurd (let f : false ≡ true = sym quiet ∙ sym (ap (λ p. is_answered p.probing) pair) ∙ e in cc);
      tracker = inl refl;
    }

pub same-let : {X : Type 0} (d c : ℕ) (r : Prune) (b : Block X) → (d ≡ c → ⊥) → IsSameBlock d b (let_block c r b)
same-let d c r b ne = others-same d b _ (set-other c d (after_release_taken r (b.pair c)) b.pair ne)
    refl (inl refl) (same-view (view b.service d)) (λ e. refl)

pub same-let_go : {X : Type 0} (d c : ℕ) (b : Block X) → (d ≡ c → ⊥) → IsSameBlock d b (let_go_block c b)
same-let_go d c b ne = others-same d b _ (set-other c d (after_release_ack (b.pair c)) b.pair ne) refl
    (inl refl) (same-view (view b.service d)) (λ e. refl)

pub same-taken : {X : Type 0} (d c : ℕ) (whole x : Bool) (k : Cap) (b : Block X) → (d ≡ c → ⊥)
    → b.service ≡ GrantSent c x k → IsSameBlock d b (taken_block c whole x k b)
same-taken {X} d c whole x k b ne sent = others-same d b _
    (set-other c d (after_grant k (b.pair c)) b.pair ne) refl (inl refl) (outside-same (view b.service d)
    (view (GrantTaken c) d) (cc (outside-sent d c x k ne)) (outside-taken d c ne)) (λ e. sym (ap cap_waited sent))

pub same-freed : {X : Type 0} (d c : ℕ) (b : Block X) → (d ≡ c → ⊥) → b.service ≡ GrantTaken c
    → IsSameBlock d b (freed_block b)
same-freed {X} d c b ne taken = others-same d b _ refl refl (inl refl)
    (outside-same (view b.service d) (view Free d) (cc (outside-taken d c ne)) refl) (λ e. sym (ap cap_waited taken))

-- ---- what another client is asked for

pub same-acquiring : {X : Type 0} (d c source : ℕ) (whole : Bool) (g : Grow) (bytes : X) (b : Block X) → (d ≡ c → ⊥)
    → IsSameBlock d b (acquiring_block c source whole g bytes b)
same-acquiring d c source whole g bytes b ne = others-same d b _ (set-other c d
    (after_acquire whole g (b.pair c)) b.pair ne) refl (inl refl) (same-view (view b.service d)) (λ e. refl)

pub same-releasing : {X : Type 0} (d c source : ℕ) (r : Prune) (b : Block X) → (d ≡ c → ⊥)
    → IsSameBlock d b (releasing_block c source r b)
same-releasing d c source r b ne = others-same d b _ (set-other c d (after_release r (b.pair c)) b.pair ne)
    (set-other c d source b.release_source ne) (inl refl) (same-view (view b.service d)) (λ e. refl)

pub same-stored : {X : Type 0} (d c : ℕ) (bytes : X) (b : Block X) → IsSameBlock d b (stored_block c bytes b)
same-stored d c bytes b = others-same d b _ refl refl (inl refl) (same-view (view b.service d)) (λ e. refl)

pub released-of : {w : ℕ} (i : ℕ) (y : BeatC w) (t : History w) → is_release y.opcode ≡ false
    → release_of i (Beat.C y ∷ t) ≡ release_of i t
unfolding release_of
released-of {w} i y t e = grind arith

pub let_rest : {w : ℕ} (i : ℕ) (rest rest' : List (Beat w)) (l : ReleasePhase)
    → comes_in_release i rest' ≡ comes_in_release i rest → is_release_pending i rest' l ≡ is_release_pending i rest l
let_rest i rest rest' l e = grind arith

pub let_by_rest : {w : ℕ} {X : Type 0} (c i : ℕ) (rest rest' : List (Beat w)) (o : Option ℕ) (s : State X)
    → comes_in_release i rest' ≡ comes_in_release i rest → is_let_by c i rest' o s ≡ is_let_by c i rest o s
let_by_rest c i rest rest' None s e = refl
let_by_rest c i rest rest' (Some n) s e = let_rest i rest rest' ((s.block n).pair c).letting e

pub unopened : (first last r q p : Bool) → r ≡ false → step first last (r && q) false p ≡ p
unopened first last r q p e = rw e (step_quiet first last p)

pub unclosed : (first q p : Bool) → step first false false q p ≡ p
unclosed first q p = grind arith

-- a beat that isn't the last: nothing but what of the ProbeAck was delivered changes
pub flowed-report_part : {w : ℕ} {X : Type 0} {c : ℕ} (y : BeatC w) (first : Bool) {asked : ℕ → Option (BeatA w)}
    {rest : Channel → List (Beat w)} (rest' : Channel → List (Beat w)) {s : State X} {t : History w}
    → begins (Beat.C y) t ≡ first → ends (Beat.C y) t ≡ false → AreRests (Beat.C y) rest rest'
    → is_release y.opcode ≡ false
    → ((i : ℕ) → comes_in_release i (rest' Channel.C) ≡ comes_in_release i (rest Channel.C))
    → MonitorRelation asked rest c s t → MonitorRelation asked rest' c s (Beat.C y ∷ t)
flowed-report_part {w} {X} {c} y first {asked} {rest} rest' {s} {t} first_is last_is rests other comes before =
    let requests : (i : ℕ) → is_requested c i (rest' Channel.A) (s.uses c i) s ≡ is_requested c i (rest Channel.A)
    (s.uses c i) s = λ i. ap (λ r. is_requested c i r (s.uses c i) s) (rests Channel.A) in
    let grants : (n : ℕ) → granted_by c n asked (rest' Channel.D) (s.block n) ≡ granted_by c n asked (rest Channel.D)
    (s.block n) = λ n. ap (λ r. granted_by c n asked r (s.block n)) (rests Channel.D) in
    flowed-next first_is last_is rests (record {
      held_is = λ n. refl;
      requests = λ i. requests i ∙ sym (step_quiet first false (is_requested c i (rest Channel.A) (s.uses c i) s));
      asked_is = λ i e. request_of-c i y t ∙ before.asked_is i (before.requests i ∙ sym (requests i) ∙ e);
      acquires = λ n. sym (step_quiet first false
          (is_wanting ((s.block n).pair c).acquiring && not (is_unserved (view (s.block n).service c))));
      release_sources = λ i. lets i ∙ sym (unopened first false (is_release y.opcode) (y.source == i)
          (is_let_by c i (rest Channel.C) (s.lets c i) s) other);
      released = λ i m e f. let_still before i m (released-of i y t other) e (cc (before.release_sources i, lets i));
      releases = λ n. let_rest ((s.block n).release_source c) (rest Channel.C) (rest' Channel.C)
          ((s.block n).pair c).letting (comes ((s.block n).release_source c)) ∙ sym (unopened first false
          (is_release y.opcode) (block_at y.address == n) (let_of c (rest Channel.C) (s.block n)) other);
      grants = λ n. grants n ∙ sym (step_quiet first false (granted_by c n asked (rest Channel.D) (s.block n)));
      probes = λ n. sym (unclosed first (is_probe_ack y.opcode && (block_at y.address == n))
          (is_answered ((s.block n).pair c).probing));
      probed = λ n e. probe_of-c n y t ∙ before.probed n e;
      sunk = λ n e. grant_sink-c n y t ∙ before.sunk n (before.grants n ∙ sym (grants n) ∙ e);
    }) before
  where
    lets : (i : ℕ) → is_let_by c i (rest' Channel.C) (s.lets c i) s ≡ is_let_by c i (rest Channel.C) (s.lets c i) s
    lets i = let_by_rest c i (rest Channel.C) (rest' Channel.C) (s.lets c i) s (comes i)

closed : (first ack here p : Bool) → ack ≡ true → here ≡ true → step first true false (ack && here) p ≡ false
closed first ack here p e f = grind arith

elsewhere : (first ack here p : Bool) → here ≡ false → step first true false (ack && here) p ≡ p
elsewhere first ack here p e = grind arith

said : (ack let_go here : Bool) (q p : Perm) → ack ≡ true → here ≡ true
    → unwrap_or (if (ack || let_go) && here then Some q else None) p ≡ q
said ack let_go here q p e f = rw (e, f) refl

pub unsaid : (ack let_go here : Bool) (q p : Perm) → here ≡ false
    → unwrap_or (if (ack || let_go) && here then Some q else None) p ≡ p
unsaid ack let_go here q p e = grind arith

-- the state in which nothing but the report is taken
pub flowed-report : {w : ℕ} {X : Type 0} {c : ℕ} (n : ℕ) (r : Report) (toks : List Packet) (y : BeatC w) (first : Bool)
    {asked : ℕ → Option (BeatA w)} {rest : Channel → List (Beat w)} (rest' : Channel → List (Beat w)) {s : State X}
    {t : History w} → begins (Beat.C y) t ≡ first → ends (Beat.C y) t ≡ true → AreRests (Beat.C y) rest rest'
    → is_probe_ack y.opcode ≡ true → is_release y.opcode ≡ false
    → ((i : ℕ) → comes_in_release i (rest' Channel.C) ≡ comes_in_release i (rest Channel.C)) → block_at y.address ≡ n
    → reported y.param ≡ report_right r → is_granting (view (s.block n).service c) ≡ false
    → MonitorRelation asked rest c s t → MonitorRelation asked rest' c (report_taken c n r toks s) (Beat.C y ∷ t)
flowed-report {w} {X} {c} n r toks y first {asked} {rest} rest' {s}
    {t} first_is last_is rests ack other comes at says alone before =
    let quiet = ap (λ p. is_answered p.probing) (set-same c (after_report r (b.pair c)) b.pair) in
    let probed = set-each (λ m z. is_answered (z.pair c).probing ≡ true → probe_of m t
    ≡ Some (probe_beat m (cap_waited z.service))) n new s.block (λ e. absurd cc) (λ m ne e. before.probed m e) in
    let recorded = ap (λ p. p.recorded) (set-same c (after_report r (b.pair c)) b.pair) in
    let apart : (m : ℕ) → (m ≡ n → ⊥) → (block_at y.address == m) ≡ false =
    λ m ne. rw at (ne_eqb n m (λ e. ne (sym e))) in
    let requests : (i : ℕ) → is_requested c i (rest' Channel.A) (s'.uses c i) s' ≡ is_requested c i (rest Channel.A)
    (s.uses c i) s = λ i. cc (
      rests Channel.A,
      requested-blocks c i (rest Channel.A) (s.uses c i) s s'
          (set-part (λ z. is_unserved (view z.service c)) n new s.block refl),
    ) in
    let acquires = set-part (acquired_by c) n new s.block (ap (λ z. z && not (is_unserved (view b.service c)))
    (part_of (λ p. is_wanting p.acquiring) c (after_report r (b.pair c)) b.pair refl)) in
    let releases : (m : ℕ) → let_of c (rest' Channel.C) (s'.block m) ≡ let_of c (rest Channel.C) (s.block m) = λ m. cc (
      let_rest ((s'.block m).release_source c) (rest Channel.C) (rest' Channel.C)
          ((s'.block m).pair c).letting (comes ((s'.block m).release_source c)),
      set-part (let_of c (rest Channel.C)) n
          new s.block (ap (is_release_pending (b.release_source c) (rest Channel.C)) letting_same) m,
    ) in
    let grants : (m : ℕ) → granted_by c m asked (rest' Channel.D) (s'.block m) ≡ granted_by c m asked (rest Channel.D)
    (s.block m) = λ m. cc (rests Channel.D, set-part (granted_by c m asked (rest Channel.D)) n new s.block refl m) in
    flowed-next first_is last_is rests (record {
      held_is = set-each (λ m z. held_by c z ≡ unwrap_or (if (is_probe_ack y.opcode || is_release y.opcode)
          && (block_at y.address == m) then Some (reported y.param) else None) (held_by c (s.block m))) n new s.block
          (cc (said (is_probe_ack y.opcode) (is_release y.opcode) (block_at y.address == n) (reported y.param)
          (held_by c b) ack (rw at (same_number n)))) (λ m ne. sym (unsaid (is_probe_ack y.opcode) (is_release y.opcode)
          (block_at y.address == m) (reported y.param) (held_by c (s.block m)) (apart m ne)));
      requests = λ i. requests i ∙ sym (step_quiet first true (is_requested c i (rest Channel.A) (s.uses c i) s));
      asked_is = λ i e. request_of-c i y t ∙ before.asked_is i (before.requests i ∙ sym (requests i) ∙ e);
      acquires = λ m. acquires m ∙ sym (step_quiet first true (acquired_by c (s.block m)));
      release_sources = λ i. lets i ∙ sym (unopened first true (is_release y.opcode) (y.source == i)
          (is_let_by c i (rest Channel.C) (s.lets c i) s) other);
      released = λ i m e f. let_still before i m (released-of i y t other) e (cc (before.release_sources i, lets i));
      releases = λ m. cc (releases m, other, step_quiet first true (let_of c (rest Channel.C) (s.block m)));
      grants = λ m. grants m ∙ sym (step_quiet first true (granted_by c m asked (rest Channel.D) (s.block m)));
      probes = set-each (λ m z. is_answered (z.pair c).probing ≡ step first true false
          (is_probe_ack y.opcode && (block_at y.address == m)) (is_answered ((s.block m).pair c).probing)) n new s.block
          (quiet ∙ sym (closed first (is_probe_ack y.opcode) (block_at y.address == n)
          (is_answered (b.pair c).probing) ack (rw at (same_number n)))) (λ m ne. sym (elsewhere first
          (is_probe_ack y.opcode) (block_at y.address == m) (is_answered ((s.block m).pair c).probing) (apart m ne)));
      probed = λ m e. probe_of-c m y t ∙ probed m e;
      sunk = λ m e. grant_sink-c m y t ∙ before.sunk m (before.grants m ∙ sym (grants m) ∙ e) ∙ ap Some
          (sym (set-part (λ z. z.tracker) n new s.block refl m));
    }) before
  where
    b : Block X
    b = s.block n

    new : Block X
    new = reported_block c r b

    s' : State X
    s' = report_taken c n r toks s

    letting_same : (new.pair c).letting ≡ (b.pair c).letting
    letting_same = part_of (λ p. p.letting) c (after_report r (b.pair c)) b.pair refl

    lets : (i : ℕ) → is_let_by c i (rest' Channel.C) (s'.lets c i) s' ≡ is_let_by c i (rest Channel.C) (s.lets c i) s
    lets i = let_by_rest c i _ _ (s.lets c i) s' (comes i) ∙ let_by-same c i
        (rest Channel.C) (s.lets c i) s s' (set-part (λ z. (z.pair c).letting) n new s.block letting_same)
