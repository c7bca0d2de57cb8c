-- What is delivered on a link, as a beat of an access's answer or a ReleaseAck is.
use Rattle.std.proofs.Common.{◌≡◌, ℕ, Bool, true, false, not, ◌&&◌, ◌||◌, ◌==◌, if◌then◌else◌, List, ◌∷◌, Option, Some}
use Rattle.std.proofs.Common.{None, refl, sym, ◌∙◌, ap, arith, ne_eqb, eqb-true, unwrap_or, option_map}
use Rattle.tl_coherence.proofs
use proofs.Imports.{Beat, BeatA, BeatC, BeatD, Channel, History, ReleaseSource, Perm, asks_for, begins}
use proofs.Imports.{block_at, capped, ends, is_grant, is_release_ack, grant_sink, pending, probe_of, release_of}
use proofs.Imports.{request_of, release_of-d, request_of-d, is_of, releases_with, NoRelease, ReleaseAcked, Block}
use proofs.Imports.{SourceFree, SourceState, State, view, is_acknowledging, is_answered, is_unserved, comes_granting}
use proofs.Imports.{MonitorRelation, is_let_by, is_release_pending, is_requested, probe_beat, cap_waited}
use Rattle.tl_rules.specs.statement.History.{releases}
use proofs.flow.{FlowAlone.AreRests, FlowAlone.requested-blocks, FlowAlone.let_by-same}
use proofs.flow.FlowReleased.{AreElsewhere, each-block, part-block}
use proofs.flow.FlowStep.{flowed-next, held_by, acquired_by, let_of, granted_by, step, step_quiet, let_still}
use proofs.queues.Tokens.{same_number}
use proofs.protocol.BothParts.{is_of-is}

pub probed-of : {w : ℕ} (n : ℕ) (y : BeatD w) (t : History w) → probe_of n (Beat.D y ∷ t) ≡ probe_of n t
unfolding probe_of
probed-of n y t = refl

sunk-of : {w : ℕ} (n : ℕ) (y : BeatD w) (t : History w) → is_grant y.opcode ≡ false
    → grant_sink n (Beat.D y ∷ t) ≡ grant_sink n t
unfolding grant_sink
sunk-of {w} n y t e = grind arith

-- ---- what a beat opens and closes

pub unclosed : (first last g q p : Bool) → g ≡ false → step first last false (g && q) p ≡ p
unclosed first last g q p e = rw e (step_quiet first last p)

pub unsaid : (last g q : Bool) (v p : Perm) → g ≡ false
    → (if last then unwrap_or (if g && q then Some v else None) p else p) ≡ p
unsaid last g q v p e = grind arith

pub closes_last : (first last p : Bool) → step first last false true p ≡ (if last then false else p)
closes_last first last p = grind arith

-- ---- the answer of an access

-- a beat of the answer to client c's access with its source
pub record IsAnswering {w : ℕ} {X : Type 0} (c : ℕ) (y : BeatD w) (last : Bool) (asked asked' : ℕ → Option (BeatA w))
    (rest rest' : Channel → List (Beat w)) (s s' : State X) : Type 0 where
  pub grant : is_grant y.opcode ≡ false
  pub ack : is_release_ack y.opcode ≡ false
  pub grants : (m : ℕ) → comes_granting m asked' (rest' Channel.D) ≡ comes_granting m asked (rest Channel.D)
  pub blocks : (m : ℕ) → s'.block m ≡ s.block m
  pub uses : (i : ℕ) → s'.uses c i ≡ (if last && (y.source == i) then SourceFree else s.uses c i)
  pub lets : (i : ℕ) → s'.lets c i ≡ s.lets c i
  pub asked_is : (i : ℕ) → (last && (y.source == i)) ≡ false → asked' i ≡ asked i

pub flowed-answer : {w : ℕ} {X : Type 0} {c : ℕ} {y : BeatD w} (first : Bool) {last : Bool}
    {asked asked' : ℕ → Option (BeatA w)} {rest rest' : Channel → List (Beat w)} {s s' : State X} {t : History w}
    → begins (Beat.D y) t ≡ first → ends (Beat.D y) t ≡ last → AreRests (Beat.D y) rest rest'
    → IsAnswering c y last asked asked' rest rest' s s' → MonitorRelation asked rest c s t
    → MonitorRelation asked' rest' c s' (Beat.D y ∷ t)
flowed-answer {w} {X} {c} {y} first {last} {asked} {asked'} {rest} {rest'} {s} {s'} {t} first_is last_is rests is
    before =
    flowed-next first_is last_is rests (record {
      held_is = λ m. ap (held_by c) (is.blocks m) ∙ sym (unsaid last (is_grant y.opcode)
          (asks_for m (request_of y.source t)) (capped y.param) (held_by c (s.block m)) is.grant);
      requests = λ i. ap (λ l. is_requested c i l (s'.uses c i) s') (rests Channel.A) ∙ ap (λ u. is_requested c i
          (rest Channel.A) u s') (is.uses i) ∙ requests i last (y.source == i) ∙ sym (ap (λ z. step first last false
          (not z && (y.source == i)) (is_requested c i (rest Channel.A) (s.uses c i) s)) is.ack);
      asked_is = λ i e. asked_still i e (last && (y.source == i)) refl;
      acquires = λ m. cc (is.blocks m, is.grant, step_quiet first last (acquired_by c (s.block m)));
      release_sources = λ i. lets i ∙ sym (unclosed first last (is_release_ack y.opcode) (y.source == i)
          (is_let_by c i (rest Channel.C) (s.lets c i) s) is.ack);
      released = λ i m e f. let_still before i m (release_of-d i y t) (cc (is.lets i))
          (cc (before.release_sources i, lets i));
      releases =
          λ m. cc (rests Channel.C, is.blocks m, is.ack, step_quiet first last (let_of c (rest Channel.C) (s.block m)));
      grants = λ m. cc (grants m, is.grant, step_quiet first last (granted_by c m asked (rest Channel.D) (s.block m)));
      probes = λ m. cc (is.blocks m, step_quiet first last (is_answered ((s.block m).pair c).probing));
      probed = λ m e. probed-of m y t ∙ before.probed m (sym (ap (λ z. is_answered (z.pair c).probing)
          (is.blocks m)) ∙ e) ∙ sym (ap (λ z. Some (probe_beat m (cap_waited z.service))) (is.blocks m));
      sunk = λ m e. cc (sunk-of m y t is.grant, before.sunk m (before.grants m ∙ sym (grants m) ∙ e), is.blocks m);
    }) before
  where
    same_requested : (i : ℕ) (u : SourceState) → is_requested c i (rest Channel.A) u s' ≡ is_requested c i
        (rest Channel.A) u s
    same_requested i u = grind (arith, requested-blocks)

    requests : (i : ℕ) (z here : Bool)
        → is_requested c i (rest Channel.A) (if z && here then SourceFree else s.uses c i) s' ≡ step first z false
        (not false && here) (is_requested c i (rest Channel.A) (s.uses c i) s)
    requests i true true = sym (closes_last first true (is_requested c i (rest Channel.A) (s.uses c i) s))
    requests i false true = same_requested i (s.uses c i) ∙ sym
        (closes_last first false (is_requested c i (rest Channel.A) (s.uses c i) s))
    requests i true false = same_requested i (s.uses c i) ∙ sym
        (step_quiet first true (is_requested c i (rest Channel.A) (s.uses c i) s))
    requests i false false =
        same_requested i (s.uses c i) ∙ sym (step_quiet first false (is_requested c i (rest Channel.A) (s.uses c i) s))

    use_at : (i : ℕ) → is_requested c i (rest' Channel.A) (s'.uses c i) s' ≡ is_requested c i (rest Channel.A)
        (if last && (y.source == i) then SourceFree else s.uses c i) s'
    use_at i = cc (rests Channel.A, is.uses i)

    asked_still : (i : ℕ) → is_requested c i (rest' Channel.A) (s'.uses c i) s' ≡ true → (z : Bool)
        → (last && (y.source == i)) ≡ z → request_of i (Beat.D y ∷ t) ≡ asked' i
    asked_still i e true f = absurd (let g : false ≡ true = sym (use_at i
        ∙ ap (λ z. is_requested c i (rest Channel.A) (if z then SourceFree else s.uses c i) s') f) ∙ e in cc)
    asked_still i e false f = let fact = before.asked_is i
        (cc (before.requests i, same_requested i (s.uses c i), use_at i)) in cc (request_of-d i y t, is.asked_is i f)

    lets : (i : ℕ) → is_let_by c i (rest' Channel.C) (s'.lets c i) s' ≡ is_let_by c i (rest Channel.C) (s.lets c i) s
    lets i = grind (arith, let_by-same, rests)

    grants : (m : ℕ) → granted_by c m asked' (rest' Channel.D) (s'.block m) ≡ granted_by c m asked (rest Channel.D)
        (s.block m)
    grants m = cc (is.grants m, is.blocks m)

-- ---- a ReleaseAck

-- the one beat of the ReleaseAck of block n to client c
pub record IsLetGo {w : ℕ} {X : Type 0} (c n : ℕ) (y : BeatD w) (asked asked' : ℕ → Option (BeatA w))
    (rest rest' : Channel → List (Beat w)) (s s' : State X) : Type 0 where
  pub grant : is_grant y.opcode ≡ false
  pub ack : is_release_ack y.opcode ≡ true
  pub source : y.source ≡ (s.block n).release_source c
  pub letting : ((s.block n).pair c).letting ≡ ReleaseAcked
  pub grants : (m : ℕ) → comes_granting m asked' (rest' Channel.D) ≡ comes_granting m asked (rest Channel.D)
  pub asked_is : (i : ℕ) → asked' i ≡ asked i
  pub elsewhere : AreElsewhere n s s'
  pub uses : (i : ℕ) → s'.uses c i ≡ s.uses c i
  pub lets : (i : ℕ) → s'.lets c i ≡ (if y.source == i then None else s.lets c i)
  pub held_is : held_by c (s'.block n) ≡ held_by c (s.block n)
  pub service : (s'.block n).service ≡ (s.block n).service
  pub tracker : (s'.block n).tracker ≡ (s.block n).tracker
  pub acquiring : ((s'.block n).pair c).acquiring ≡ ((s.block n).pair c).acquiring
  pub probing : ((s'.block n).pair c).probing ≡ ((s.block n).pair c).probing
  pub letting_is : ((s'.block n).pair c).letting ≡ NoRelease

closed : (a q p : Bool) → a ≡ true → q ≡ true → step true true false (a && q) p ≡ false
closed a q p e f = rw (e, f) refl

unclosed_by : (a q p : Bool) → q ≡ false → step true true false (a && q) p ≡ p
unclosed_by a q p e = grind arith

of_releases : {w : ℕ} (n m : ℕ) (o : Option (BeatC w)) → option_map (λ x. block_at x.address) o ≡ Some n
    → releases m o ≡ (n == m)
of_releases n m o e = grind arith

pub flowed-let_go : {w : ℕ} {X : Type 0} {c n : ℕ} {y : BeatD w} {asked asked' : ℕ → Option (BeatA w)}
    {rest rest' : Channel → List (Beat w)} {s s' : State X} {t : History w}
    → begins (Beat.D y) t ≡ true → ends (Beat.D y) t ≡ true → AreRests (Beat.D y) rest rest'
    → ((i m : ℕ) → is_of m (s.lets c i) ≡ releases_with c i (s.block m)) → IsLetGo c n y asked asked' rest rest' s s'
    → MonitorRelation asked rest c s t → MonitorRelation asked' rest' c s' (Beat.D y ∷ t)
flowed-let_go {w} {X} {c} {n} {y} {asked} {asked'} {rest} {rest'} {s} {s'} {t} first_is last_is rests named is before =
    let of_block = is_of-is n (s.lets c y.source) (named y.source n
    ∙ rw (is.letting, is.source) (same_number (b.release_source c))) in
    let names : (m : ℕ) → releases m (release_of y.source t) ≡ (n == m) = λ m. of_releases n m (release_of y.source t)
    (before.released y.source n of_block (cc (before.release_sources y.source, of_block, is.letting))) in
    let releases_at = each-block (λ m z. let_of c (rest Channel.C) z ≡ step true true false (is_release_ack y.opcode
    && releases m (release_of y.source t)) (let_of c (rest Channel.C) (s.block m))) n s s' is.elsewhere
    (ap (is_release_pending ((s'.block n).release_source c) (rest Channel.C)) is.letting_is
    ∙ sym (closed (is_release_ack y.opcode) (releases n (release_of y.source t)) (let_of c (rest Channel.C) b) is.ack
    (names n ∙ same_number n))) (λ m ne. sym (unclosed_by (is_release_ack y.opcode) (releases m (release_of y.source t))
    (let_of c (rest Channel.C) (s.block m)) (names m ∙ ne_eqb n m (λ e. ne (sym e))))) in
    let requests : (i : ℕ) → is_requested c i (rest' Channel.A) (s'.uses c i) s' ≡ is_requested c i (rest Channel.A)
    (s.uses c i) s = λ i. cc (
      rests Channel.A,
      is.uses i,
      requested-blocks c i (rest Channel.A) (s.uses c i) s s' (part-block (λ z. is_unserved
          (view z.service c)) n s s' is.elsewhere (ap (λ q. is_unserved (view q c)) is.service)),
    ) in
    let acquires = part-block (acquired_by c) n s s' is.elsewhere (cc (is.acquiring, is.service)) in
    let answered : (m : ℕ) → is_answered ((s'.block m).pair c).probing ≡ is_answered ((s.block m).pair c).probing =
    part-block (λ z. is_answered (z.pair c).probing) n s s' is.elsewhere (ap is_answered is.probing) in
    let still_pending : (i m : ℕ) → s'.lets c i ≡ Some m → is_let_by c i (rest' Channel.C) (s'.lets c i) s' ≡ true
    → pending (ReleaseSource i) t ≡ true = λ i m e f. before.release_sources i
    ∙ sym (unclosed_by (is_release_ack y.opcode) (y.source == i) (is_let_by c i (rest Channel.C) (s.lets c i) s)
    (is_another i m e (y.source == i) refl).0) ∙ sym (lets i (y.source == i) refl) ∙ f in
    flowed-next first_is last_is rests (record {
      held_is = λ m. part-block (held_by c) n s s' is.elsewhere is.held_is m ∙ sym (unsaid true (is_grant y.opcode)
          (asks_for m (request_of y.source t)) (capped y.param) (held_by c (s.block m)) is.grant);
      requests = λ i. requests i ∙ sym (ap (λ z. step true true false (not z && (y.source == i))
          (is_requested c i (rest Channel.A) (s.uses c i) s)) is.ack);
      asked_is = λ i e. request_of-d i y t ∙ before.asked_is i (before.requests i ∙ sym (requests i) ∙ e) ∙ sym
          (is.asked_is i);
      acquires = λ m. cc (acquires m, is.grant);
      release_sources = λ i. lets i (y.source == i) refl;
      released = λ i m e f. let_still before i m (release_of-d i y t) (is_another i m e (y.source == i) refl).1
          (still_pending i m e f);
      releases = λ m. ap (λ l. let_of c l (s'.block m)) (rests Channel.C) ∙ releases_at m;
      grants = λ m. cc (grants m, is.grant);
      probes = answered;
      probed = λ m e. probed-of m y t ∙ before.probed m (sym (answered m) ∙ e) ∙ sym (ap (λ k. Some (probe_beat m k))
          (part-block (λ z. cap_waited z.service) n s s' is.elsewhere (ap cap_waited is.service) m));
      sunk = λ m e. sunk-of m y t is.grant ∙ before.sunk m (before.grants m ∙ sym (grants m) ∙ e) ∙ ap Some
          (sym (part-block (λ z. z.tracker) n s s' is.elsewhere is.tracker m));
    }) before
  where
    b : Block X
    b = s.block n

    grants : (m : ℕ) → granted_by c m asked' (rest' Channel.D) (s'.block m) ≡ granted_by c m asked (rest Channel.D)
        (s.block m)
    grants m = let fact = part-block (granted_by c m asked (rest Channel.D)) n s s' is.elsewhere
        (ap (λ q. is_acknowledging (view q c) || comes_granting m asked (rest Channel.D)) is.service) m in
        cc (is.grants m)

    -- an open Release with another source is of another block
    other_source : (i m : ℕ) → s.lets c i ≡ Some m → (y.source == i) ≡ false → m ≡ n → ⊥
    other_source i m e f same =
        let g : is_of n (s.lets c i) ≡ true = rw (e, same) (same_number n) in
        let k : (i == b.release_source c) ≡ true = sym (rw is.letting refl) ∙ (sym (named i n) ∙ g) in
        let l : (y.source == i) ≡ true =
        rw (is.source, eqb-true i (b.release_source c) k) (same_number (b.release_source c)) in
        let u : true ≡ false = sym l ∙ f in cc

    rest_same : (i : ℕ) (o : Option ℕ) → s.lets c i ≡ o → (y.source == i) ≡ false
        → is_let_by c i (rest' Channel.C) o s' ≡ is_let_by c i (rest Channel.C) o s
    rest_same i o e f = grind (arith, rests, other_source)

    lets : (i : ℕ) (z : Bool) → (y.source == i) ≡ z → is_let_by c i (rest' Channel.C) (s'.lets c i) s' ≡ step true true
        false (is_release_ack y.opcode && (y.source == i)) (is_let_by c i (rest Channel.C) (s.lets c i) s)
    lets i true e = let fact = closed (is_release_ack y.opcode) (y.source == i)
        (is_let_by c i (rest Channel.C) (s.lets c i) s) is.ack e in cc (is.lets i, e)
    lets i false e = let fact = unclosed_by (is_release_ack y.opcode) (y.source == i)
        (is_let_by c i (rest Channel.C) (s.lets c i) s) e in cc (is.lets i, e, rest_same i (s.lets c i) refl e)

    is_another : (i m : ℕ) → s'.lets c i ≡ Some m → (z : Bool) → (y.source == i) ≡ z → ((y.source == i) ≡ false)
        × (s.lets c i ≡ Some m)
    is_another i m e z f = grind arith
