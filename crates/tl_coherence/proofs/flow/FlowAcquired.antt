-- What is delivered on a link, as a beat of an access is.
-- What is delivered on a link, as the beat of an Acquire is.
use Rattle.std.proofs.Common.{◌≡◌, ℕ, Bool, true, false, not, ◌&&◌, ◌||◌, ◌==◌, if◌then◌else◌, List, ◌∷◌, Option, Some}
use Rattle.std.proofs.Common.{refl, sym, ◌∙◌, ap, arith, ne_eqb}
use Rattle.tl_coherence.proofs
use proofs.Imports.{and_from, and_right, Beat, BeatA, Channel, History, Perm, comes_in_request, begins, block_at, ends}
use proofs.Imports.{is_acquire, grant_sink, probe_of, release_of, request_of, grant_sink-a, probe_of-a, acquires_of}
use proofs.Imports.{Idle, Acquires, Asked, Block, InService, Replied, SourceFree, SourceState, State, view}
use proofs.Imports.{is_acknowledging, is_answered, is_granting, is_unserved, is_wanting, comes_granting}
use proofs.Imports.{MonitorRelation, is_let_by, is_requested, probe_beat, cap_waited}
use proofs.flow.FlowAlone.{AreRests, let_by-same, no_coming, IsComing}
use proofs.flow.FlowGranted.{begun, requested-apart}
use proofs.flow.FlowReleased.{with_true, AreElsewhere, each-block, part-block}
use proofs.flow.FlowStep.{flowed-next, held_by, acquired_by, let_of, granted_by, step, step_quiet, whole_opened}
use proofs.flow.FlowStep.{let_still, whole_unopened}
use proofs.queues.Tokens.{same_number}
use proofs.client.ClientEnd.{comes-same}

pub released-of : {w : ℕ} (i : ℕ) (y : BeatA w) (t : History w) → release_of i (Beat.A y ∷ t) ≡ release_of i t
unfolding release_of
released-of i y t = refl

-- the last request with the source of the beat, and with another one
pub of_source : {w : ℕ} (i : ℕ) (y : BeatA w) (t : History w) (first : Bool) (o : Option (BeatA w))
    → begins (Beat.A y) t ≡ first → (y.source == i) ≡ true
    → (first ≡ true → o ≡ Some y) → (first ≡ false → request_of i t ≡ o) → request_of i (Beat.A y ∷ t) ≡ o
unfolding request_of
of_source i y t first o e f g h = grind arith

pub of_other : {w : ℕ} (i : ℕ) (y : BeatA w) (t : History w) → (y.source == i) ≡ false
    → request_of i (Beat.A y ∷ t) ≡ request_of i t
unfolding request_of
of_other {w} i y t e = grind arith

unsaid : (last : Bool) (p : Perm) → (if last then p else p) ≡ p
unsaid last p = grind arith

-- a beat of client c's access with its source, whose last one the manager answers or has in service
pub record IsAccess {w : ℕ} {X : Type 0} (c : ℕ) (y : BeatA w) (first last : Bool) (asked : ℕ → Option (BeatA w))
    (rest rest' : Channel → List (Beat w)) (s s' : State X) : Type 0 where
  pub access : is_acquire y.opcode ≡ false
  pub use_is : (i : ℕ) → (y.source == i) ≡ true → s.uses c i ≡ Asked
  pub asked_is : (i : ℕ) → (y.source == i) ≡ true → first ≡ true → asked i ≡ Some y
  pub came : (i : ℕ) → comes_in_request i (rest Channel.A) ≡ (not first && (y.source == i))
  pub comes : (i : ℕ) → comes_in_request i (rest' Channel.A) ≡ (not last && (y.source == i))
  pub blocks : (m : ℕ) → s'.block m ≡ s.block m
  pub uses : (i : ℕ) → s'.uses c i ≡ (if last && (y.source == i) then Replied else s.uses c i)
  pub lets : (i : ℕ) → s'.lets c i ≡ s.lets c i

requested-rest : {w : ℕ} {X : Type 0} (c i : ℕ) (rest rest' : List (Beat w)) (u : SourceState) (s s' : State X)
    → ((m : ℕ) → s'.block m ≡ s.block m)
    → comes_in_request i rest' ≡ comes_in_request i rest → is_requested c i rest' u s' ≡ is_requested c i rest u s
requested-rest c i rest rest' SourceFree s s' same e = refl
requested-rest c i rest rest' Asked s s' same e = e
requested-rest c i rest rest' (InService m) s s' same e = refl
requested-rest c i rest rest' Replied s s' same e = refl
requested-rest {w} {X} c i rest rest' (Acquires m) s s' same e = cc (same m)

pub flowed-access : {w : ℕ} {X : Type 0} {c : ℕ} {y : BeatA w} {first last : Bool} {asked : ℕ → Option (BeatA w)}
    {rest rest' : Channel → List (Beat w)} {s s' : State X} {t : History w} → begins (Beat.A y) t ≡ first
    → ends (Beat.A y) t ≡ last → AreRests (Beat.A y) rest rest' → IsAccess c y first last asked rest rest' s s'
    → MonitorRelation asked rest c s t → MonitorRelation asked rest' c s' (Beat.A y ∷ t)
flowed-access {w} {X} {c} {y} {first} {last} {asked} {rest} {rest'} {s} {s'} {t} first_is last_is rests is before =
    let grants : (m : ℕ) → granted_by c m asked (rest' Channel.D) (s'.block m) ≡ granted_by c m asked (rest Channel.D)
    (s.block m) = λ m. cc (rests Channel.D, is.blocks m) in
    flowed-next first_is last_is rests (record {
      held_is = λ m. ap (held_by c) (is.blocks m) ∙ sym (unsaid last (held_by c (s.block m)));
      requests = λ i. requests i (y.source == i) refl;
      asked_is = λ i e. asked_still i e (y.source == i) refl;
      acquires = λ m. cc (is.blocks m, is.access, step_quiet first last (acquired_by c (s.block m)));
      release_sources = λ i. lets i ∙ sym (step_quiet first last (is_let_by c i (rest Channel.C) (s.lets c i) s));
      released = λ i m e f. let_still before i m (released-of i y t) (cc (is.lets i))
          (cc (before.release_sources i, lets i));
      releases = λ m. cc (rests Channel.C, is.blocks m, step_quiet first last (let_of c (rest Channel.C) (s.block m)));
      grants = λ m. grants m ∙ sym (step_quiet first last (granted_by c m asked (rest Channel.D) (s.block m)));
      probes = λ m. cc (is.blocks m, step_quiet first last (is_answered ((s.block m).pair c).probing));
      probed = λ m e. probe_of-a m y t ∙ before.probed m (sym (ap (λ z. is_answered (z.pair c).probing)
          (is.blocks m)) ∙ e) ∙ sym (ap (λ z. Some (probe_beat m (cap_waited z.service))) (is.blocks m));
      sunk = λ m e. cc (grant_sink-a m y t, before.sunk m (before.grants m ∙ sym (grants m) ∙ e), is.blocks m);
    }) before
  where
    was : (i : ℕ) → (y.source == i) ≡ true → is_requested c i (rest Channel.A) (s.uses c i) s ≡ not first
    was i e = cc (is.use_is i e, is.came i, with_true (not first) (y.source == i) e)

    now : (i : ℕ) (z : Bool) → last ≡ z → (y.source == i) ≡ true
        → is_requested c i (rest' Channel.A) (if z && true then Replied else s.uses c i) s' ≡ true
    now i z e f = grind (arith, with_true, last)

    use_at : (i : ℕ) (here : Bool) → (y.source == i) ≡ here → is_requested c i (rest' Channel.A) (s'.uses c i)
        s' ≡ is_requested c i (rest' Channel.A) (if last && here then Replied else s.uses c i) s'
    use_at i here e = cc (is.uses i, e)

    off : (z : Bool) (u v : SourceState) → (if z && false then v else u) ≡ u
    off z u v = grind arith

    same : (i : ℕ) → (y.source == i) ≡ false → is_requested c i (rest' Channel.A) (s'.uses c i) s' ≡ is_requested c i
        (rest Channel.A) (s.uses c i) s
    same i e = let fact = requested-rest c i _ _ (s.uses c i) s s' is.blocks (is.comes i
        ∙ and_right (not last) (y.source == i) e ∙ sym (is.came i ∙ and_right (not first) (y.source == i) e)) in
        cc (use_at i false e, off last (s.uses c i) Replied)

    requests : (i : ℕ) (here : Bool) → (y.source == i) ≡ here → is_requested c i (rest' Channel.A) (s'.uses c i) s'
        ≡ step first last (y.source == i) false (is_requested c i (rest Channel.A) (s.uses c i) s)
    requests i true e = use_at i true e ∙ now i last refl e ∙ sym
        (begun first last (y.source == i) (is_requested c i (rest Channel.A) (s.uses c i) s) e (was i e))
    requests i false e = cc (same i e, e, step_quiet first last (is_requested c i (rest Channel.A) (s.uses c i) s))

    asked_still : (i : ℕ) → is_requested c i (rest' Channel.A) (s'.uses c i) s' ≡ true → (here : Bool)
        → (y.source == i) ≡ here → request_of i (Beat.A y ∷ t) ≡ asked i
    asked_still i e true f = of_source i y t first (asked i) first_is f (is.asked_is i f)
        (λ g. before.asked_is i (before.requests i ∙ was i f ∙ ap not g))
    asked_still i e false f = of_other i y t f ∙ before.asked_is i (before.requests i ∙ sym (same i f) ∙ e)

    lets : (i : ℕ) → is_let_by c i (rest' Channel.C) (s'.lets c i) s' ≡ is_let_by c i (rest Channel.C) (s.lets c i) s
    lets i = grind (arith, let_by-same, rests)

-- the one beat of client c's Acquire of block n, which was at rest, is granted or waits for ProbeAcks afterwards
pub record IsAcquired {w : ℕ} {X : Type 0} (c n : ℕ) (y : BeatA w) (asked asked' : ℕ → Option (BeatA w))
    (rest rest' : Channel → List (Beat w)) (s s' : State X) : Type 0 where
  pub acquire : is_acquire y.opcode ≡ true
  pub at : block_at y.address ≡ n
  pub use_is : (i : ℕ) → (y.source == i) ≡ true → s.uses c i ≡ Acquires n
  pub no_use : (i : ℕ) → (y.source == i) ≡ false → acquires_of n (s.uses c i) ≡ false
  pub asks : (i : ℕ) → (y.source == i) ≡ true → asked i ≡ Some y
  pub idle : view (s.block n).service c ≡ Idle
  pub quiet : is_answered ((s.block n).pair c).probing ≡ false
  pub coming : IsComing asked (rest Channel.D) c s
  pub came : (i : ℕ) → comes_in_request i (rest Channel.A) ≡ false
  pub comes : (i : ℕ) → comes_in_request i (rest' Channel.A) ≡ false
  pub asked_is : (i : ℕ) → asked' i ≡ asked i
  pub elsewhere : AreElsewhere n s s'
  pub uses : (i : ℕ) → s'.uses c i ≡ s.uses c i
  pub lets : (i : ℕ) → s'.lets c i ≡ s.lets c i
  pub held_is : held_by c (s'.block n) ≡ held_by c (s.block n)
  pub served : is_unserved (view (s'.block n).service c) ≡ false
  pub waits : is_acknowledging (view (s'.block n).service c) ≡ false
  pub wants : is_wanting ((s'.block n).pair c).acquiring ≡ true
  pub letting_is : ((s'.block n).pair c).letting ≡ ((s.block n).pair c).letting
  pub release_source : (s'.block n).release_source c ≡ (s.block n).release_source c
  pub answered : is_answered ((s'.block n).pair c).probing ≡ false

neither : (p q : Bool) → p ≡ false → q ≡ false → (p || q) ≡ false
neither p q e f = rw (e, f) refl

pub flowed-acquire : {w : ℕ} {X : Type 0} {c n : ℕ} {y : BeatA w} {asked asked' : ℕ → Option (BeatA w)}
    {rest rest' : Channel → List (Beat w)} {s s' : State X} {t : History w} → begins (Beat.A y) t ≡ true
    → ends (Beat.A y) t ≡ true → AreRests (Beat.A y) rest rest' → IsAcquired c n y asked asked' rest rest' s s'
    → MonitorRelation asked rest c s t → MonitorRelation asked' rest' c s' (Beat.A y ∷ t)
flowed-acquire {w} {X} {c} {n} {y} {asked} {asked'} {rest} {rest'} {s} {s'} {t} first_is last_is rests is before =
    let probed = each-block (λ m z. is_answered (z.pair c).probing ≡ true → probe_of m t ≡ Some (probe_beat m
    (cap_waited z.service))) n s s' is.elsewhere (λ e. absurd (cc is.answered)) (λ m ne e. before.probed m e) in
    let answered = part-block (λ z. is_answered (z.pair c).probing) n s s' is.elsewhere (is.answered ∙ sym is.quiet) in
    let b : Block X = s.block n in
    let new : Block X = s'.block n in
    let none_comes = no_coming (is_granting (view b.service c)) (comes_granting n asked (rest Channel.D))
    (ap is_granting is.idle) (is.coming n) in
    let granted_then = neither (is_acknowledging (view b.service c)) (comes_granting n asked (rest Channel.D))
    (ap is_acknowledging is.idle) none_comes in
    let grants : (m : ℕ) → granted_by c m asked' (rest' Channel.D) (s'.block m) ≡ granted_by c m asked (rest Channel.D)
    (s.block m) = λ m. cc (
      rests Channel.D,
      comes-same m asked asked' (rest Channel.D) is.asked_is,
      each-block (λ j z. granted_by c j asked (rest Channel.D) z ≡ granted_by c j asked (rest Channel.D) (s.block j)) n
          s s' is.elsewhere (neither (is_acknowledging (view new.service c)) (comes_granting n asked (rest Channel.D))
          is.waits none_comes ∙ sym granted_then) (λ j ne. refl) m,
    ) in
    let tracked : (m : ℕ) → granted_by c m asked' (rest' Channel.D) (s'.block m) ≡ true → grant_sink m t ≡ Some
    (s'.block m).tracker = λ m e. each-block (λ j z. granted_by c j asked (rest Channel.D) (s.block j) ≡ true →
    grant_sink j t ≡ Some z.tracker) n s s' is.elsewhere (λ f. absurd (let g : false ≡ true = sym granted_then ∙ f
    in cc)) (λ j ne f. before.sunk j (before.grants j ∙ f)) m (sym (grants m) ∙ e) in
    flowed-next first_is last_is rests (record {
      held_is = part-block (held_by c) n s s' is.elsewhere is.held_is;
      requests = λ i. requests i (y.source == i) refl;
      asked_is = λ i e. asked_still i e (y.source == i) refl;
      acquires = each-block (λ m z. acquired_by c z ≡ step true true (is_acquire y.opcode && (block_at y.address == m))
          false (acquired_by c (s.block m))) n s s' is.elsewhere
          (and_from (is_wanting (new.pair c).acquiring) (not (is_unserved (view new.service c))) is.wants
          (ap not is.served) ∙ sym (whole_opened (is_acquire y.opcode && (block_at y.address == n)) (acquired_by c b)
          (and_from (is_acquire y.opcode) (block_at y.address == n) is.acquire (rw is.at (same_number n)))))
          (λ m ne. sym (whole_unopened (is_acquire y.opcode && (block_at y.address == m)) (acquired_by c (s.block m))
          (and_right (is_acquire y.opcode) (block_at y.address == m) (rw is.at (ne_eqb n m (λ e. ne (sym e)))))));
      release_sources = lets;
      released = λ i m e f. let_still before i m (released-of i y t) (cc (is.lets i))
          (cc (before.release_sources i, lets i));
      releases = λ m. ap (λ l. let_of c l (s'.block m)) (rests Channel.C) ∙ part-block
          (let_of c (rest Channel.C)) n s s' is.elsewhere (rw (is.release_source, is.letting_is) refl) m;
      grants = grants;
      probes = answered;
      probed = λ m e. probe_of-a m y t ∙ probed m e;
      sunk = λ m e. grant_sink-a m y t ∙ tracked m e;
    }) before
  where
    same : (i : ℕ) → (y.source == i) ≡ false → is_requested c i (rest' Channel.A) (s'.uses c i) s' ≡ is_requested c i
        (rest Channel.A) (s.uses c i) s
    same i e = let fact = requested-apart c i n _ _ _ s s' is.elsewhere
        (is.comes i ∙ sym (is.came i)) (is.no_use i e) in cc (is.uses i)

    requests : (i : ℕ) (here : Bool) → (y.source == i) ≡ here → is_requested c i (rest' Channel.A) (s'.uses c i) s'
        ≡ step true true (y.source == i) false (is_requested c i (rest Channel.A) (s.uses c i) s)
    requests i true e = (cc (is.uses i, is.use_is i e, is.served))
        ∙ sym (whole_opened (y.source == i) (is_requested c i (rest Channel.A) (s.uses c i) s) e)
    requests i false e = same i e ∙ sym
        (whole_unopened (y.source == i) (is_requested c i (rest Channel.A) (s.uses c i) s) e)

    asked_still : (i : ℕ) → is_requested c i (rest' Channel.A) (s'.uses c i) s' ≡ true → (here : Bool)
        → (y.source == i) ≡ here → request_of i (Beat.A y ∷ t) ≡ asked' i
    asked_still i e true f = of_source i y t true (asked' i) first_is f (λ g. is.asked_is i ∙ is.asks i f)
        (λ g. absurd cc)
    asked_still i e false f = of_other i y t f ∙ before.asked_is i (before.requests i ∙ sym (same i f) ∙ e) ∙ sym
        (is.asked_is i)

    lets : (i : ℕ) → is_let_by c i (rest' Channel.C) (s'.lets c i) s' ≡ is_let_by c i (rest Channel.C) (s.lets c i) s
    lets i = let fact = let_by-same c i (rest Channel.C) (s.lets c i) s s' (part-block
        (λ z. (z.pair c).letting) n s s' is.elsewhere is.letting_is) in cc (rests Channel.C, is.lets i)
