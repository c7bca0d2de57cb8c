-- What is delivered on a link, as the beats of a Release are.
use Rattle.std.proofs.Common.{◌≡◌, ℕ, Bool, true, false, not, ◌&&◌, ◌||◌, ◌==◌, if◌then◌else◌, List, ◌∷◌, Option, Some}
use Rattle.std.proofs.Common.{None, refl, sym, ◌∙◌, ap, arith, ◌⊎◌, inl, inr, ne_eqb, unwrap_or}
use Rattle.tl_coherence.proofs
use proofs.Imports.{and_right, cases_eq, Beat, BeatA, BeatC, Channel, History, ReleaseSource, Prune, Perm, prune_right}
use proofs.Imports.{comes_in_release, begins, block_at, ends, is_probe_ack, is_release, reported, pending, release_of}
use proofs.Imports.{grant_sink-c, probe_of-c, request_of-c, is_of, releases_with, ReleaseAcked, ReleasePhase}
use proofs.Imports.{ReleaseSent, is_unreleased, Block, State, view, is_acknowledging, is_answered, is_unserved}
use proofs.Imports.{comes_granting, MonitorRelation, is_let_by, is_release_pending, is_requested, probe_beat}
use proofs.Imports.{cap_waited}
use proofs.flow.{FlowAlone.AreRests, FlowAlone.requested-blocks, FlowOthers.unsaid}
use proofs.flow.FlowStep.{flowed-next, held_by, acquired_by, let_of, granted_by, step, step_quiet, let_still}
use proofs.flow.FlowStep.{IsReleaseOf}
use proofs.queues.Tokens.{same_number}
use proofs.protocol.BothParts.{is_of-is}

-- ---- another value of one block

abbrev pub AreElsewhere : {X : Type 0} → ℕ → State X → State X → Type 0
AreElsewhere n s s' = (m : ℕ) → (m ≡ n → ⊥) → s'.block m ≡ s.block m

pub each-block : {X : Type 0} (P : ℕ → Block X → Type 0) (n : ℕ) (s s' : State X) → AreElsewhere n s s'
    → P n (s'.block n) → ((m : ℕ) → (m ≡ n → ⊥) → P m (s.block m)) → (m : ℕ) → P m (s'.block m)
each-block P n s s' same here others m = elim (cases_eq m n) [
  | inl e ↦ rw e here
  | inr ne ↦ rw (same m ne) (others m ne)
]

pub part-block : {A X : Type 0} (part : Block X → A) (n : ℕ) (s s' : State X) → AreElsewhere n s s'
    → part (s'.block n) ≡ part (s.block n) → (m : ℕ) → part (s'.block m) ≡ part (s.block m)
part-block part n s s' same here = each-block (λ m z. part z ≡ part (s.block m)) n s s' same here (λ m ne. refl)

-- ---- a Release

-- the letting after a beat of the Release
abbrev pub letting_after : Bool → Prune → ReleasePhase
letting_after true r = ReleaseAcked
letting_after false r = ReleaseSent r

-- a beat of client c's Release of block n
pub record IsReleased {w : ℕ} {X : Type 0} (c n : ℕ) (r : Prune) (y : BeatC w) (first last : Bool) (rest rest' : Channel
    → List (Beat w)) (s s' : State X) : Type 0 where
  pub release : is_release y.opcode ≡ true
  pub ack : is_probe_ack y.opcode ≡ false
  pub source : y.source ≡ (s.block n).release_source c
  pub at : block_at y.address ≡ n
  pub size : y.size ≡ 6
  pub says : reported y.param ≡ prune_right r
  pub letting : ((s.block n).pair c).letting ≡ ReleaseSent r
  pub came : (i : ℕ) → comes_in_release i (rest Channel.C) ≡ (not first && (y.source == i))
  pub comes : (i : ℕ) → comes_in_release i (rest' Channel.C) ≡ (not last && (y.source == i))
  pub elsewhere : AreElsewhere n s s'
  pub uses : (i : ℕ) → s'.uses c i ≡ s.uses c i
  pub lets : (i : ℕ) → s'.lets c i ≡ s.lets c i
  pub held_is : held_by c (s'.block n) ≡ (if last then prune_right r else held_by c (s.block n))
  pub service : (s'.block n).service ≡ (s.block n).service
  pub tracker : (s'.block n).tracker ≡ (s.block n).tracker
  pub release_source : (s'.block n).release_source c ≡ (s.block n).release_source c
  pub acquiring : ((s'.block n).pair c).acquiring ≡ ((s.block n).pair c).acquiring
  pub probing : ((s'.block n).pair c).probing ≡ ((s.block n).pair c).probing
  pub letting_is : ((s'.block n).pair c).letting ≡ letting_after last r

said : (last ack let_go here : Bool) (q p : Perm) → let_go ≡ true → here ≡ true
    → (if last then unwrap_or (if (ack || let_go) && here then Some q else None) p else p) ≡ (if last then q else p)
said last ack let_go here q p e f = grind arith

unsaid_any : (last ack let_go here : Bool) (q p : Perm) → here ≡ false
    → (if last then unwrap_or (if (ack || let_go) && here then Some q else None) p else p) ≡ p
unsaid_any last ack let_go here q p e = grind (arith, unsaid)

pub opened : (first last r q p : Bool) → r ≡ true → q ≡ true → p ≡ not first → step first last (r && q) false p ≡ true
opened first last r q p e f g = grind arith

unopened : (first last r q p : Bool) → q ≡ false → step first last (r && q) false p ≡ p
unopened first last r q p e = grind (arith, step_quiet)

let_now : {w : ℕ} (i : ℕ) (last : Bool) (r : Prune) (rest : List (Beat w)) (l : ReleasePhase) → l ≡ letting_after last r
    → comes_in_release i rest ≡ not last → is_release_pending i rest l ≡ true
let_now i last r rest l e f = grind arith

let_then : {w : ℕ} (i : ℕ) (first : Bool) (r : Prune) (rest : List (Beat w)) (l : ReleasePhase) → l ≡ ReleaseSent r
    → comes_in_release i rest ≡ not first → is_release_pending i rest l ≡ not first
let_then i first r rest l e f = ap (is_release_pending i rest) e ∙ f

pub with_true : (p q : Bool) → q ≡ true → (p && q) ≡ p
with_true p q e = grind arith

let_other : {w : ℕ} (i : ℕ) (rest rest' : List (Beat w)) (l : ReleasePhase)
    → (is_unreleased l ≡ false → comes_in_release i rest' ≡ comes_in_release i rest)
    → is_release_pending i rest' l ≡ is_release_pending i rest l
let_other i rest rest' l e = grind arith

-- the last Release with the source of the beat, and with another one
of_source : {w : ℕ} (n i : ℕ) (y : BeatC w) (t : History w) (first : Bool) → begins (Beat.C y) t ≡ first
    → is_release y.opcode ≡ true → (y.source == i) ≡ true → IsReleaseOf n (Some y)
    → (first ≡ false → IsReleaseOf n (release_of i t)) → IsReleaseOf n (release_of i (Beat.C y ∷ t))
unfolding release_of
of_source n i y t true e f g h before = rw (e, f, g) h
of_source n i y t false e f g h before = rw e (before refl)

of_other : {w : ℕ} (i : ℕ) (y : BeatC w) (t : History w) → (y.source == i) ≡ false
    → release_of i (Beat.C y ∷ t) ≡ release_of i t
unfolding release_of
of_other {w} i y t e = grind arith

both_some : (n m : ℕ) (o : Option ℕ) → o ≡ Some n → o ≡ Some m → n ≡ m
both_some n m o e f = grind arith

pub flowed-release : {w : ℕ} {X : Type 0} {c n : ℕ} {r : Prune} {y : BeatC w} {first last : Bool} {asked : ℕ
    → Option (BeatA w)} {rest rest' : Channel → List (Beat w)} {s s' : State X} {t : History w}
    → begins (Beat.C y) t ≡ first → ends (Beat.C y) t ≡ last → AreRests (Beat.C y) rest rest'
    → ((i m : ℕ) → is_of m (s.lets c i) ≡ releases_with c i (s.block m)) → IsReleased c n r y first last rest rest' s s'
    → MonitorRelation asked rest c s t → MonitorRelation asked rest' c s' (Beat.C y ∷ t)
flowed-release {w} {X} {c} {n} {r} {y} {first} {last} {asked} {rest} {rest'} {s} {s'} {t} first_is last_is rests named
    is before =
    let here_at : (block_at y.address == n) ≡ true = rw is.at (same_number n) in
    let apart : (m : ℕ) → (m ≡ n → ⊥) → (block_at y.address == m) ≡ false =
    λ m ne. rw is.at (ne_eqb n m (λ e. ne (sym e))) in
    let then_here : let_of c (rest Channel.C) b ≡ not first = let_then (b.release_source c) first r (rest Channel.C)
    _ is.letting (is.came (b.release_source c)
    ∙ with_true (not first) (y.source == b.release_source c) (rw is.source (same_number (b.release_source c)))) in
    let open_other : (m : ℕ) → (m ≡ n → ⊥) → (i : ℕ) → i ≡ (s.block m).release_source c → is_unreleased ((s.block
    m).pair c).letting ≡ false → i ≡ y.source → ⊥ = λ m ne i at begun same. ne (both_some m n (s.lets c i) (is_of-is m
    (s.lets c i) (named i m ∙ rw (begun, at) (same_number ((s.block m).release_source c)))) (of_block i same)) in
    let let_rest : (m : ℕ) → (m ≡ n → ⊥) → let_of c (rest' Channel.C) (s.block m) ≡ let_of c (rest Channel.C)
    (s.block m) = λ m ne. let_other ((s.block m).release_source c) (rest Channel.C) (rest' Channel.C)
    ((s.block m).pair c).letting (λ begun. comes_other _ (open_other m ne ((s.block m).release_source c) refl begun)) in
    let requests : (i : ℕ) → is_requested c i (rest' Channel.A) (s'.uses c i) s' ≡ is_requested c i (rest Channel.A)
    (s.uses c i) s = λ i. cc (
      rests Channel.A,
      is.uses i,
      requested-blocks c i (rest Channel.A) (s.uses c i) s s' (part-block (λ z. is_unserved
          (view z.service c)) n s s' is.elsewhere (ap (λ q. is_unserved (view q c)) is.service)),
    ) in
    let acquires = part-block (acquired_by c) n s s' is.elsewhere (cc (is.acquiring, is.service)) in
    let answered : (m : ℕ) → is_answered ((s'.block m).pair c).probing ≡ is_answered ((s.block m).pair c).probing =
    part-block (λ z. is_answered (z.pair c).probing) n s s' is.elsewhere (ap is_answered is.probing) in
    let not_closed : (m : ℕ) → step first last false (is_probe_ack y.opcode && (block_at y.address == m))
    (is_answered ((s.block m).pair c).probing) ≡ is_answered ((s.block m).pair c).probing =
    λ m. rw is.ack (step_quiet first last (is_answered ((s.block m).pair c).probing)) in
    let grants : (m : ℕ) → granted_by c m asked (rest' Channel.D) (s'.block m) ≡ granted_by c m asked (rest Channel.D)
    (s.block m) = λ m. cc (
      rests Channel.D,
      part-block (granted_by c m asked (rest Channel.D)) n s s' is.elsewhere
          (ap (λ q. is_acknowledging (view q c) || comes_granting m asked (rest Channel.D)) is.service) m,
    ) in
    flowed-next first_is last_is rests (record {
      held_is =
          each-block (λ m z. held_by c z ≡ (if last then unwrap_or (if (is_probe_ack y.opcode || is_release y.opcode)
          && (block_at y.address == m) then Some (reported y.param) else None) (held_by c (s.block m)) else held_by c
          (s.block m))) n s s' is.elsewhere (is.held_is ∙ ap (λ q. if last then q else held_by c b)
          (sym is.says) ∙ sym (said last (is_probe_ack y.opcode) (is_release y.opcode) (block_at y.address == n)
          (reported y.param) (held_by c b) is.release here_at)) (λ m ne. sym (unsaid_any last (is_probe_ack y.opcode)
          (is_release y.opcode) (block_at y.address == m) (reported y.param) (held_by c (s.block m)) (apart m ne)));
      requests = λ i. requests i ∙ sym (step_quiet first last (is_requested c i (rest Channel.A) (s.uses c i) s));
      asked_is = λ i e. request_of-c i y t ∙ before.asked_is i (before.requests i ∙ sym (requests i) ∙ e);
      acquires = λ m. acquires m ∙ sym (step_quiet first last (acquired_by c (s.block m)));
      release_sources = lets;
      released = λ i m e f. released i m (sym (is.lets i) ∙ e) f (cases_eq i y.source);
      releases = each-block (λ m z. let_of c (rest' Channel.C) z ≡ step first last (is_release y.opcode
          && (block_at y.address == m)) false (let_of c (rest Channel.C) (s.block m))) n s s' is.elsewhere
          (let_now (new.release_source c) last r (rest' Channel.C) (new.pair c).letting is.letting_is
          (is.comes (new.release_source c) ∙ with_true (not last) (y.source == new.release_source c)
          (rw (is.release_source, is.source) (same_number (b.release_source c)))) ∙ sym (opened first last
          (is_release y.opcode) (block_at y.address == n) (let_of c (rest Channel.C) b) is.release here_at then_here))
          (λ m ne. cc (let_rest m ne, apart m ne, step_quiet first last (let_of c (rest Channel.C) (s.block m))));
      grants = λ m. grants m ∙ sym (step_quiet first last (granted_by c m asked (rest Channel.D) (s.block m)));
      probes = λ m. answered m ∙ sym (not_closed m);
      probed = λ m e. probe_of-c m y t ∙ before.probed m (sym (answered m) ∙ e) ∙ sym (ap (λ k. Some (probe_beat m k))
          (part-block (λ z. cap_waited z.service) n s s' is.elsewhere (ap cap_waited is.service) m));
      sunk = λ m e. grant_sink-c m y t ∙ before.sunk m (before.grants m ∙ sym (grants m) ∙ e) ∙ ap Some
          (sym (part-block (λ z. z.tracker) n s s' is.elsewhere is.tracker m));
    }) before
  where
    b : Block X
    b = s.block n

    new : Block X
    new = s'.block n

    -- the source is that of the block's Release, and of no other
    of_block : (i : ℕ) → i ≡ y.source → s.lets c i ≡ Some n
    of_block i e = is_of-is n (s.lets c i) (cc (named i n, is.letting, is.source, same_number (b.release_source c)))

    of_no_block : (i : ℕ) → (i ≡ y.source → ⊥) → is_of n (s.lets c i) ≡ false
    of_no_block i ne = named i n ∙ rw is.letting (ne_eqb i (b.release_source c) (λ e. ne (e ∙ sym is.source)))

    another : (i : ℕ) → (i ≡ y.source → ⊥) → (y.source == i) ≡ false
    another i ne = ne_eqb y.source i (λ e. ne (sym e))

    comes_other : (i : ℕ) → (i ≡ y.source → ⊥) → comes_in_release i (rest' Channel.C) ≡ comes_in_release i
        (rest Channel.C)
    comes_other i ne = is.comes i ∙ and_right (not last) (y.source == i) (another i ne) ∙ sym
        (is.came i ∙ and_right (not first) (y.source == i) (another i ne))

    then_by : (i : ℕ) (o : Option ℕ) → s.lets c i ≡ o → i ≡ y.source → is_let_by c i (rest Channel.C) o s ≡ not first
    then_by i o e same = let fact = let_then i first r (rest Channel.C) _ is.letting
        (is.came i ∙ with_true (not first) (y.source == i) (rw same (same_number y.source))) in cc (e, of_block i same)

    lets_with : (i : ℕ) (o : Option ℕ) → s.lets c i ≡ o → (i ≡ y.source) ⊎ (i ≡ y.source → ⊥)
        → is_let_by c i (rest' Channel.C) o s' ≡ step first last (is_release y.opcode && (y.source == i)) false
        (is_let_by c i (rest Channel.C) o s)
    lets_with i o e (inl same) = let fact = let_now i last r (rest' Channel.C) _ is.letting_is
        (is.comes i ∙ with_true (not last) (y.source == i) (rw same (same_number y.source))) in let other_fact =
        opened first last (is_release y.opcode) (y.source == i) (is_let_by c i (rest Channel.C) o s) is.release
        (rw same (same_number y.source)) (then_by i o e same) in cc (e, of_block i same)
    lets_with i None e (inr ne) = sym (unopened first last (is_release y.opcode) (y.source == i) false (another i ne))
    lets_with i (Some m) e (inr ne) = cc (
      is.elsewhere m (λ f. let g : (n == n) ≡ false = sym (rw (e, f) refl) ∙ of_no_block i ne in
          let h : true ≡ false = sym (same_number n) ∙ g in cc),
      let_other i (rest Channel.C) (rest' Channel.C) ((s.block m).pair c).letting (λ begun. comes_other i ne),
      unopened first last (is_release y.opcode)
          (y.source == i) (is_release_pending i (rest Channel.C) ((s.block m).pair c).letting) (another i ne),
    )

    lets : (i : ℕ) → is_let_by c i (rest' Channel.C) (s'.lets c i) s' ≡ step first last
        (is_release y.opcode && (y.source == i)) false (is_let_by c i (rest Channel.C) (s.lets c i) s)
    lets i = cc (is.lets i, lets_with i (s.lets c i) refl (cases_eq i y.source))

    was_pending : (i : ℕ) → i ≡ y.source → first ≡ false → pending (ReleaseSource i) t ≡ true
    was_pending i same e = before.release_sources i ∙ then_by i (s.lets c i) refl same ∙ ap not e

    still_pending : (i : ℕ) → (i ≡ y.source → ⊥) → is_let_by c i (rest' Channel.C) (s'.lets c i) s' ≡ true
        → pending (ReleaseSource i) t ≡ true
    still_pending i ne f = before.release_sources i ∙ sym (unopened first last (is_release y.opcode) (y.source == i)
        (is_let_by c i (rest Channel.C) (s.lets c i) s) (another i ne)) ∙ sym (lets i) ∙ f

    released : (i m : ℕ) → s.lets c i ≡ Some m → is_let_by c i (rest' Channel.C) (s'.lets c i) s' ≡ true
        → (i ≡ y.source) ⊎ (i ≡ y.source → ⊥) → IsReleaseOf m (release_of i (Beat.C y ∷ t))
    released i m e f (inl same) = of_source m i y t first first_is is.release (rw same (same_number y.source))
        (ap Some (is.at ∙ both_some n m (s.lets c i) (of_block i same) e), ap Some is.size)
        (λ g. (before.released i m e (was_pending i same g), before.sizes i m e (was_pending i same g)))
    released i m e f (inr ne) = let_still before i m (of_other i y t (another i ne)) e (still_pending i ne f)
