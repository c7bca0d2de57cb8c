-- What is delivered on a link, as an event leaves each value of it as it was, though the protocol's state is another.
-- What is delivered on a link, as an event leaves it alone: each value of it is as before.
-- What is delivered on a link, as a Probe or a GrantAck is: messages of one beat, which leave requests and Releases
-- alone.
use Rattle.std.proofs.Common.{◌≡◌, ℕ, Bool, true, false, not, ◌&&◌, ◌||◌, if◌then◌else◌, List, ◌∷◌, Option, Some}
use Rattle.std.proofs.Common.{None, refl, sym, ◌∙◌, ap, arith, ◌⊎◌, inl, inr, ne_eqb, eqb-true}
use Rattle.tl_coherence.proofs
use proofs.Imports.{Beat, BeatA, BeatE, Channel, History, grown, begins, ends, grant_sink}
use proofs.Imports.{probe_of, release_of, request_of-e, AreNamed, is_busy, is_of, Packet, Acknowledging, View, Acquires}
use proofs.Imports.{Block, Free, InService, Replied, Service, SourceState, State, freed_block, grant_ack_taken, view}
use proofs.Imports.{is_acknowledging, is_answered, is_granting, is_unserved, is_wanting, comes_granting}
use proofs.Imports.{MonitorRelation, is_let_by, is_release_pending, is_requested, probe_beat, cap_waited}
use Rattle.tl_burst.specs.statement.Messages.{on}
use Rattle.tl_rules.specs.statement.History.{is_sink}
use Rattle.tl_client.proofs.pending.AccountedResponse.{is_own_sink}
use Rattle.tl_manager.proofs.pending.Acked.{probe_of-e, grant_sink-e}
use proofs.flow.FlowStep.{held_by, acquired_by, let_of, granted_by, flowed-next, step, let_still}
use proofs.client.ClientEnd.{comes-same}
use proofs.queues.Tokens.{same_number, set-each, set-part}

-- each value is as before
pub record IsUntouched {w : ℕ} {X : Type 0} (asked asked' : ℕ → Option (BeatA w)) (rest : Channel → List (Beat w))
    (c : ℕ) (s s' : State X) : Type 0 where
  pub held_is : (n : ℕ) → held_by c (s'.block n) ≡ held_by c (s.block n)
  pub requests : (i : ℕ) → is_requested c i (rest Channel.A) (s'.uses c i) s' ≡ is_requested c i (rest Channel.A)
      (s.uses c i) s
  pub asked_is : (i : ℕ) → is_requested c i (rest Channel.A) (s.uses c i) s ≡ true → asked' i ≡ asked i
  pub acquires : (n : ℕ) → acquired_by c (s'.block n) ≡ acquired_by c (s.block n)
  pub release_sources : (i : ℕ) → is_let_by c i (rest Channel.C) (s'.lets c i) s' ≡ is_let_by c i (rest Channel.C)
      (s.lets c i) s
  pub lets : (i n : ℕ) → is_let_by c i (rest Channel.C) (s.lets c i) s ≡ true → s'.lets c i ≡ Some n
      → s.lets c i ≡ Some n
  pub releases : (n : ℕ) → let_of c (rest Channel.C) (s'.block n) ≡ let_of c (rest Channel.C) (s.block n)
  pub grants : (n : ℕ) → granted_by c n asked' (rest Channel.D) (s'.block n) ≡ granted_by c n asked (rest Channel.D)
      (s.block n)
  pub probes : (n : ℕ) → is_answered ((s'.block n).pair c).probing ≡ is_answered ((s.block n).pair c).probing
  pub caps : (n : ℕ) → is_answered ((s.block n).pair c).probing ≡ true
      → cap_waited (s'.block n).service ≡ cap_waited (s.block n).service
  pub trackers : (n : ℕ) → granted_by c n asked (rest Channel.D) (s.block n) ≡ true
      → (s'.block n).tracker ≡ (s.block n).tracker

pub flowed-untouched : {w : ℕ} {X : Type 0} {asked asked' : ℕ → Option (BeatA w)} {rest : Channel → List (Beat w)}
    {c : ℕ} {s s' : State X} {t : History w}
    → IsUntouched asked asked' rest c s s' → MonitorRelation asked rest c s t → MonitorRelation asked' rest c s' t
flowed-untouched is before = record {
  rest_is = before.rest_is;
  held_is = λ n. before.held_is n ∙ sym (is.held_is n);
  requests = λ i. before.requests i ∙ sym (is.requests i);
  asked_is = λ i e. before.asked_is i e ∙ sym (is.asked_is i (sym (before.requests i) ∙ e));
  acquires = λ n. before.acquires n ∙ sym (is.acquires n);
  release_sources = λ i. before.release_sources i ∙ sym (is.release_sources i);
  released = λ i n e f. before.released i n (is.lets i n (sym (before.release_sources i) ∙ f) e) f;
  sizes = λ i n e f. before.sizes i n (is.lets i n (sym (before.release_sources i) ∙ f) e) f;
  releases = λ n. before.releases n ∙ sym (is.releases n);
  grants = λ n. before.grants n ∙ sym (is.grants n);
  probes = λ n. before.probes n ∙ sym (is.probes n);
  probed = λ n e. cc (before.probed n (sym (is.probes n) ∙ e), is.caps n (sym (is.probes n) ∙ e));
  sunk = λ n e. before.sunk n e ∙ ap Some (sym (is.trackers n (sym (before.grants n) ∙ e)));
}

-- and what each channel's receiver has of the first message is given in another way
pub flowed-rests : {w : ℕ} {X : Type 0} {asked : ℕ → Option (BeatA w)} {rest : Channel → List (Beat w)} (rest' : Channel
    → List (Beat w)) {c : ℕ} {s : State X} {t : History w} → ((ch : Channel) → rest' ch ≡ rest ch)
    → MonitorRelation asked rest c s t → MonitorRelation asked rest' c s t
flowed-rests {w} {asked} rest' {c} {s} same before = record {
  rest_is = λ ch. before.rest_is ch ∙ sym (same ch);
  held_is = before.held_is;
  requests = λ i. cc (before.requests i, same Channel.A);
  asked_is = before.asked_is;
  acquires = before.acquires;
  release_sources = λ i. cc (before.release_sources i, same Channel.C);
  released = before.released;
  sizes = before.sizes;
  releases = λ n. before.releases n ∙ ap (λ l. let_of c l (s.block n)) (sym (same Channel.C));
  grants = λ n. before.grants n ∙ ap (λ l. granted_by c n asked l (s.block n)) (sym (same Channel.D));
  probes = before.probes;
  probed = before.probed;
  sunk = before.sunk;
}

-- the block is as before for what was delivered on client d's link
pub record IsSameBlock {X : Type 0} (d : ℕ) (b b' : Block X) : Type 0 where
  pub held : held_by d b' ≡ held_by d b
  pub wanting : is_wanting (b'.pair d).acquiring ≡ is_wanting (b.pair d).acquiring
  pub unserved : is_unserved (view b'.service d) ≡ is_unserved (view b.service d)
  pub letting : (b'.pair d).letting ≡ (b.pair d).letting
  pub source : b'.release_source d ≡ b.release_source d
  pub acknowledging : is_acknowledging (view b'.service d) ≡ is_acknowledging (view b.service d)
  pub answered : is_answered (b'.pair d).probing ≡ is_answered (b.pair d).probing
  pub cap : is_answered (b'.pair d).probing ≡ true → cap_waited b'.service ≡ cap_waited b.service
  pub tracker : (b'.tracker ≡ b.tracker)
      ⊎ ((is_acknowledging (view b.service d) || is_granting (view b.service d)) ≡ false)

pub same-block : {X : Type 0} (d : ℕ) (b : Block X) → IsSameBlock d b b
same-block d b = record {
  held = refl;
  wanting = refl;
  unserved = refl;
  letting = refl;
  source = refl;
  acknowledging = refl;
  answered = refl;
  cap = λ e. refl;
  tracker = inl refl;
}

abbrev pub AreSame : {X : Type 0} → ℕ → State X → State X → Type 0
AreSame d s s' = (n : ℕ) → IsSameBlock d (s.block n) (s'.block n)

-- ---- requests and Releases

-- the requests of both uses were delivered, and their responses weren't
abbrev pub is_heard : SourceState → Bool
is_heard (InService n) = true
is_heard Replied = true
is_heard _ = false

abbrev pub IsSameUse : SourceState → SourceState → Type 0
IsSameUse u u' = (u' ≡ u) ⊎ ((is_heard u ≡ true) × (is_heard u' ≡ true))

heard_requested : {w : ℕ} {X : Type 0} (c i : ℕ) (rest : List (Beat w)) (u : SourceState) (s : State X)
    → is_heard u ≡ true → is_requested c i rest u s ≡ true
heard_requested c i rest u s e = grind arith

pub requested-blocks : {w : ℕ} {X : Type 0} (c i : ℕ) (rest : List (Beat w)) (u : SourceState) (s s' : State X)
    → ((n : ℕ) → is_unserved (view (s'.block n).service c) ≡ is_unserved (view (s.block n).service c))
    → is_requested c i rest u s' ≡ is_requested c i rest u s
requested-blocks c i rest (Acquires n) s s' h = ap not (h n)
requested-blocks c i rest u s s' h = refl

requested-same : {w : ℕ} {X : Type 0} (c i : ℕ) (rest : List (Beat w)) (s s' : State X)
    → ((n : ℕ) → is_unserved (view (s'.block n).service c) ≡ is_unserved (view (s.block n).service c))
    → IsSameUse (s.uses c i) (s'.uses c i)
    → is_requested c i rest (s'.uses c i) s' ≡ is_requested c i rest (s.uses c i) s
requested-same c i rest s s' h (inl same) = cc (same, requested-blocks c i rest (s.uses c i) s s' h)
requested-same c i rest s s' h (inr both) = heard_requested c i rest _ s' both.1 ∙ sym
    (heard_requested c i rest (s.uses c i) s both.0)

pub let_by-same : {w : ℕ} {X : Type 0} (c i : ℕ) (rest : List (Beat w)) (o : Option ℕ) (s s' : State X)
    → ((n : ℕ) → ((s'.block n).pair c).letting ≡ ((s.block n).pair c).letting)
    → is_let_by c i rest o s' ≡ is_let_by c i rest o s
let_by-same c i rest None s s' h = refl
let_by-same c i rest (Some n) s s' h = ap (is_release_pending i rest) (h n)

-- a part of a Grant was delivered of a block that is granted alone
abbrev pub IsComing : {w : ℕ} {X : Type 0} → (ℕ → Option (BeatA w)) → List (Beat w) → ℕ → State X → Type 0
IsComing asked rest c s = (n : ℕ) → comes_granting n asked rest ≡ true → is_granting (view (s.block n).service c) ≡ true

-- ---- all values

pub record IsAside {w : ℕ} {X : Type 0} (asked asked' : ℕ → Option (BeatA w)) (rest : Channel → List (Beat w)) (d : ℕ)
    (s s' : State X) : Type 0 where
  pub blocks : AreSame d s s'
  pub uses : (i : ℕ) → IsSameUse (s.uses d i) (s'.uses d i)
  pub lets : (i : ℕ) → s'.lets d i ≡ s.lets d i
  pub asked_is : (i : ℕ) → asked' i ≡ asked i
  pub coming : IsComing asked (rest Channel.D) d s

either_is : (a b g : Bool) → (a || b) ≡ true → (b ≡ true → g ≡ true) → (a || g) ≡ false → ⊥
either_is a b g e f h = grind arith

pub flowed-aside : {w : ℕ} {X : Type 0} {asked asked' : ℕ → Option (BeatA w)} {rest : Channel → List (Beat w)} {d : ℕ}
    {s s' : State X} {t : History w}
    → IsAside asked asked' rest d s s' → MonitorRelation asked rest d s t → MonitorRelation asked' rest d s' t
flowed-aside {w} {X} {asked} {asked'} {rest} {d} {s} {s'} {t} is = flowed-untouched (record {
  held_is = λ n. (is.blocks n).held;
  requests = λ i. requested-same d i (rest Channel.A) s s' (λ n. (is.blocks n).unserved) (is.uses i);
  asked_is = λ i e. is.asked_is i;
  acquires = λ n. rw ((is.blocks n).wanting, (is.blocks n).unserved) refl;
  release_sources = λ i. ap (λ o. is_let_by d i (rest Channel.C) o s') (is.lets i) ∙ let_by-same d i
      (rest Channel.C) (s.lets d i) s s' (λ n. (is.blocks n).letting);
  lets = λ i n e f. sym (is.lets i) ∙ f;
  releases = λ n. cc ((is.blocks n).source, (is.blocks n).letting);
  grants = λ n. rw ((is.blocks n).acknowledging, (comes-same n asked asked' (rest Channel.D) is.asked_is)) refl;
  probes = λ n. (is.blocks n).answered;
  caps = λ n e. (is.blocks n).cap ((is.blocks n).answered ∙ e);
  trackers = λ n e. tracked n e (is.blocks n).tracker;
})
  where
    tracked : (n : ℕ) → granted_by d n asked (rest Channel.D) (s.block n) ≡ true
        → ((s'.block n).tracker ≡ (s.block n).tracker)
        ⊎ ((is_acknowledging (view (s.block n).service d) || is_granting (view (s.block n).service d)) ≡ false)
        → (s'.block n).tracker ≡ (s.block n).tracker
    tracked n e (inl same) = same
    tracked n e (inr none) = absurd (either_is (is_acknowledging (view (s.block n).service d))
        (comes_granting n asked (rest Channel.D)) (is_granting (view (s.block n).service d)) e (is.coming n) none)

-- where the same requests are given in another way, nothing changes
pub flowed-asks : {w : ℕ} {X : Type 0} {asked : ℕ → Option (BeatA w)} (asked' : ℕ → Option (BeatA w))
    {rest : Channel → List (Beat w)} {d : ℕ} {s : State X} {t : History w} → ((i : ℕ) → asked' i ≡ asked i)
    → MonitorRelation asked rest d s t → MonitorRelation asked' rest d s t
flowed-asks {asked} asked' {rest} {d} {s} asks = flowed-untouched (record {
  held_is = λ n. refl;
  requests = λ i. refl;
  asked_is = λ i e. asks i;
  acquires = λ n. refl;
  release_sources = λ i. refl;
  lets = λ i n e f. f;
  releases = λ n. refl;
  grants = λ n. ap (λ z. is_acknowledging (view (s.block n).service d) || z)
      (comes-same n asked asked' (rest Channel.D) asks);
  probes = λ n. refl;
  caps = λ n e. refl;
  trackers = λ n e. refl;
})

-- what of each channel's first message was delivered, with one more beat
abbrev pub AreRests : {w : ℕ} → Beat w → (Channel → List (Beat w)) → (Channel → List (Beat w)) → Type 0
AreRests x rest rest' = (ch : Channel) → rest' ch ≡ (if on ch x then grown x (rest ch) else rest ch)

-- ---- a GrantAck

released-of : {w : ℕ} (i : ℕ) (y : BeatE) (t : History w) → release_of i (Beat.E y ∷ t) ≡ release_of i t
unfolding release_of
released-of i y t = refl

not_granting : (v : View) → v ≡ Acknowledging → is_granting v ≡ false
not_granting v e = ap is_granting e

pub no_coming : (g b : Bool) → g ≡ false → (b ≡ true → g ≡ true) → b ≡ false
no_coming g b e f = grind arith

other_sink : (i j : ℕ) (o : Option ℕ) → o ≡ Some j → (j ≡ i → ⊥) → is_sink i o ≡ false
other_sink i j o e ne = rw e (ne_eqb j i ne)

pub flowed-grant_ack : {w : ℕ} {X : Type 0} {c : ℕ} (n : ℕ) (toks : List Packet) (y : BeatE) {asked : ℕ
    → Option (BeatA w)} (asked' : ℕ → Option (BeatA w)) {rest : Channel → List (Beat w)} (rest' : Channel
    → List (Beat w)) {s : State X} {t : History w} → begins (Beat.E y) t ≡ true → ends (Beat.E y) t ≡ true
    → AreRests (Beat.E y) rest rest' → ((i : ℕ) → asked' i ≡ asked i) → y.sink ≡ (s.block n).tracker
    → view (s.block n).service c ≡ Acknowledging → AreNamed s → is_busy (s.block n).service ≡ true
    → ((m : ℕ) → is_acknowledging (view (s.block m).service c) ≡ true → is_busy (s.block m).service ≡ true)
    → ((m : ℕ) → is_granting (view (s.block m).service c) ≡ true → is_busy (s.block m).service ≡ true)
    → IsComing asked (rest Channel.D) c s
    → ((m : ℕ) → comes_granting m asked' (rest Channel.D) ≡ comes_granting m asked (rest Channel.D))
    → MonitorRelation asked rest c s t → MonitorRelation asked' rest' c (grant_ack_taken c n toks s) (Beat.E y ∷ t)
flowed-grant_ack {w} {X} {c} n toks y {asked} asked' {rest} rest' {s}
    {t} first last rests asks sink seen named busy busy_a busy_g coming comes before =
    let none_comes = no_coming (is_granting (view b.service c)) (comes_granting n asked (rest Channel.D))
    (not_granting (view b.service c) seen) (coming n) in
    let tracked = set-each (λ m z. granted_by c m asked' (rest' Channel.D) z ≡ true → grant_sink m t
    ≡ Some z.tracker) n new s.block (λ e. absurd (let f : false ≡ true = sym (grants_rest n ∙ none_comes) ∙ e in cc))
    (λ m ne e. before.sunk m (cc (before.grants m, grants_rest m))) in
    let acks_here = ap (λ v. is_acknowledging v || comes_granting n asked (rest Channel.D)) seen in
    let grants = set-each (λ m z. granted_by c m asked' (rest' Channel.D) z ≡ step true true false
    (is_sink y.sink (grant_sink m t)) (granted_by c m asked (rest Channel.D) (s.block m))) n new s.block
    (grants_rest n ∙ none_comes ∙ sym (closes_it (granted_by c n asked (rest Channel.D) b) (is_sink y.sink
    (grant_sink n t)) (rw sink (is_own_sink b.tracker (grant_sink n t) (before.sunk n (before.grants n ∙ acks_here))))))
    (λ m ne. ap (λ z. is_acknowledging (view (s.block m).service c) || z) (grants_rest m) ∙ sym (leaves_it
    (granted_by c m asked (rest Channel.D) (s.block m)) (is_sink y.sink (grant_sink m t)) (other_closed m ne))) in
    let requests : (i : ℕ) → is_requested c i (rest' Channel.A) (s'.uses c i) s' ≡ is_requested c i (rest Channel.A)
    (s.uses c i) s = λ i. cc (
      rests Channel.A,
      requested-blocks c i (rest Channel.A) (s.uses c i) s s'
          (set-part (λ z. is_unserved (view z.service c)) n new s.block (sym (ap is_unserved seen))),
    ) in
    flowed-next first last rests (record {
      held_is = set-part (held_by c) n new s.block
          (sym (ap (λ v. if is_granting v then (b.pair c).held else (b.pair c).recorded) seen));
      requests = requests;
      asked_is = λ i e. request_of-e i y t ∙ before.asked_is i (cc (before.requests i, requests i)) ∙ sym (asks i);
      acquires = set-part (acquired_by c) n new s.block
          (sym (ap (λ v. is_wanting (b.pair c).acquiring && not (is_unserved v)) seen));
      release_sources = lets;
      released = λ i m e f. let_still before i m (released-of i y t) e (cc (before.release_sources i, lets i));
      releases = λ m. cc (rests Channel.C, set-part (let_of c (rest Channel.C)) n new s.block refl m);
      grants = grants;
      probes = set-part (λ z. is_answered (z.pair c).probing) n new s.block refl;
      probed = λ m e. probe_of-e m y t ∙ probed m e;
      sunk = λ m e. grant_sink-e m y t ∙ tracked m e;
    }) before
  where
    b : Block X
    b = s.block n

    new : Block X
    new = freed_block b

    s' : State X
    s' = grant_ack_taken c n toks s

    lets : (i : ℕ) → is_let_by c i (rest' Channel.C) (s'.lets c i) s' ≡ is_let_by c i (rest Channel.C) (s.lets c i) s
    lets i = let fact = let_by-same c i (rest Channel.C) (s.lets c i) s s'
        (set-part (λ z. (z.pair c).letting) n new s.block refl) in cc (rests Channel.C)

    answered_other : (m : ℕ) → is_answered ((s'.block m).pair c).probing ≡ true
        → is_answered ((s.block m).pair c).probing ≡ true
    answered_other m e = sym (set-part (λ z. is_answered (z.pair c).probing) n new s.block refl m) ∙ e

    probed : (m : ℕ) → is_answered ((s'.block m).pair c).probing ≡ true
        → probe_of m t ≡ Some (probe_beat m (cap_waited (s'.block m).service))
    probed m e = let fact = set-part (λ z. cap_waited z.service) n new s.block
        (no_cap b.service seen) m in cc (before.probed m (answered_other m e))
      where
        no_cap : (q : Service) → view q c ≡ Acknowledging → cap_waited Free ≡ cap_waited q
        no_cap q e = grind arith

    of_block : (m : ℕ) → granted_by c m asked (rest Channel.D) (s.block m) ≡ true → is_busy (s.block m).service ≡ true
    of_block m e = grind (arith, coming)

    -- blocks in service have trackers of their own
    apart : (m : ℕ) → is_busy (s.block m).service ≡ true → (m ≡ n → ⊥) → (s.block m).tracker ≡ b.tracker → ⊥
    apart m also ne same =
        let is_same : (o : Option ℕ) → is_of n o ≡ true → is_of m o ≡ true → m ≡ n =
        elim [ None ↦ λ f g. absurd cc | Some i ↦ λ f g. eqb-true m i g ∙ sym (eqb-true n i f) ] in
        ne (is_same (s.tracked b.tracker) (named.trackers b.tracker n ∙ rw (busy, same_number b.tracker) refl)
        (named.trackers b.tracker m ∙ rw (also, same, same_number b.tracker) refl))

    grants_rest : (m : ℕ) → comes_granting m asked' (rest' Channel.D) ≡ comes_granting m asked (rest Channel.D)
    grants_rest m = ap (comes_granting m asked') (rests Channel.D) ∙ comes m

    closes_it : (p q : Bool) → q ≡ true → (if true && q then false else p) ≡ false
    closes_it p q e = rw e refl

    leaves_it : (p q : Bool) → (p ≡ true → q ≡ false) → (if true && q then false else p) ≡ p
    leaves_it p q e = grind arith

    other_closed : (m : ℕ) → (m ≡ n → ⊥) → granted_by c m asked (rest Channel.D) (s.block m) ≡ true
        → is_sink y.sink (grant_sink m t) ≡ false
    other_closed m ne e = rw sink (other_sink b.tracker (s.block m).tracker (grant_sink m t)
        (before.sunk m (before.grants m ∙ e)) (apart m (of_block m e) ne))
