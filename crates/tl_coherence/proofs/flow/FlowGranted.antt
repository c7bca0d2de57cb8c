-- What is delivered on a link, as a beat of a Grant is.
use Rattle.std.proofs.Common.{◌≡◌, ℕ, Bool, true, false, not, ◌&&◌, ◌||◌, ◌==◌, if◌then◌else◌, List, ◌∷◌, Option, Some}
use Rattle.std.proofs.Common.{None, refl, sym, ◌∙◌, ap, arith, ne_eqb, unwrap_or}
use Rattle.tl_coherence.proofs
use proofs.Imports.{and_right, Beat, BeatA, BeatD, Channel, History, RequestSource, Cap, Perm, cap_right}
use proofs.Imports.{comes_in_request, asks_for, begins, capped, ends, is_grant, is_release_ack}
use proofs.Imports.{grant_sink, pending, probe_of, release_of, request_of, release_of-d, request_of-d, acquires_of}
use proofs.Imports.{Acknowledging, Granting, View, Acquires, Asked, Block, InService, Replied, SourceFree}
use proofs.Imports.{SourceState, State, view, is_acknowledging, is_answered, is_unserved, is_wanting}
use proofs.Imports.{comes_granting, MonitorRelation, is_let_by, is_requested, probe_beat, cap_waited}
use Rattle.tl_rules.specs.statement.History.{releases}
use proofs.flow.{FlowAlone.AreRests, FlowAlone.let_by-same, FlowOthers.unclosed as not_last}
use proofs.flow.FlowAnswered.{probed-of, unclosed, closes_last}
use proofs.flow.FlowReleased.{AreElsewhere, each-block, part-block, opened, with_true}
use proofs.flow.FlowStep.{flowed-next, held_by, acquired_by, let_of, granted_by, step, step_quiet, let_still}
use proofs.queues.Tokens.{same_number}

abbrev pub seen_after : Bool → Bool → Cap → View
seen_after true d k = Acknowledging
seen_after false d k = Granting d k

-- a beat of the Grant of block n to client c
pub record IsGranting {w : ℕ} {X : Type 0} (c n : ℕ) (d : Bool) (k : Cap) (y : BeatD w) (first last : Bool)
    (asked asked' : ℕ → Option (BeatA w)) (rest rest' : Channel → List (Beat w)) (s s' : State X) : Type 0 where
  pub grant : is_grant y.opcode ≡ true
  pub ack : is_release_ack y.opcode ≡ false
  pub sink : y.sink ≡ (s.block n).tracker
  pub says : capped y.param ≡ cap_right k
  pub seen : view (s.block n).service c ≡ Granting d k
  pub wants : is_wanting ((s.block n).pair c).acquiring ≡ true
  pub quiet : is_answered ((s.block n).pair c).probing ≡ false
  pub use_is : (i : ℕ) → (y.source == i) ≡ true → s.uses c i ≡ Acquires n
  pub no_use : (i : ℕ) → (y.source == i) ≡ false → acquires_of n (s.uses c i) ≡ false
  pub asks : (m : ℕ) → asks_for m (asked y.source) ≡ (n == m)
  pub granted : (m : ℕ) → comes_granting m asked (rest Channel.D) ≡ (not first && (n == m))
  pub grants : (m : ℕ) → comes_granting m asked' (rest' Channel.D) ≡ (not last && (n == m))
  pub asked_is : (i : ℕ) → (last && (y.source == i)) ≡ false → asked' i ≡ asked i
  pub elsewhere : AreElsewhere n s s'
  pub uses : (i : ℕ) → s'.uses c i ≡ (if last && (y.source == i) then SourceFree else s.uses c i)
  pub lets : (i : ℕ) → s'.lets c i ≡ s.lets c i
  pub held_is : held_by c (s'.block n) ≡ (if last then cap_right k else held_by c (s.block n))
  pub seen_is : view (s'.block n).service c ≡ seen_after last d k
  pub wants_is : is_wanting ((s'.block n).pair c).acquiring ≡ not last
  pub letting_is : ((s'.block n).pair c).letting ≡ ((s.block n).pair c).letting
  pub release_source : (s'.block n).release_source c ≡ (s.block n).release_source c
  pub tracker : (s'.block n).tracker ≡ (s.block n).tracker
  pub answered : is_answered ((s'.block n).pair c).probing ≡ is_answered ((s.block n).pair c).probing

said : (last g : Bool) (v p : Perm) → g ≡ true → (if last then unwrap_or (if g then Some v else None) p else p)
    ≡ (if last then v else p)
said last g v p e = grind arith

unsaid : (last g : Bool) (v p : Perm) → g ≡ false → (if last then unwrap_or (if g then Some v else None) p else p) ≡ p
unsaid last g v p e = grind arith

closed : (first last a q p : Bool) → a ≡ false → q ≡ true → p ≡ true → step first last false (not a && q) p ≡ not last
closed first last a q p e f g = grind (arith, closes_last, not_last)

unclosed_by : (first last a q p : Bool) → q ≡ false → step first last false (a && q) p ≡ p
unclosed_by first last a q p e = grind (arith, step_quiet)

ended : (first last g p : Bool) → g ≡ true → p ≡ true → step first last false g p ≡ not last
ended first last g p e f = grind (arith, closes_last, not_last)

pub begun : (first last g p : Bool) → g ≡ true → p ≡ not first → step first last g false p ≡ true
begun first last g p e f = opened first last true g p refl e f

pub unbegun : (first last g p : Bool) → g ≡ false → step first last g false p ≡ p
unbegun first last g p e = rw e (step_quiet first last p)

-- the sink of the last Grant of the block of the beat, and of another one
of_block : {w : ℕ} (m : ℕ) (y : BeatD w) (t : History w) (first : Bool) (v : ℕ) → begins (Beat.D y) t ≡ first
    → (is_grant y.opcode && asks_for m (request_of y.source t)) ≡ true → y.sink ≡ v
    → (first ≡ false → grant_sink m t ≡ Some v) → grant_sink m (Beat.D y ∷ t) ≡ Some v
unfolding grant_sink
of_block m y t first v e f g h = grind arith

of_other : {w : ℕ} (m : ℕ) (y : BeatD w) (t : History w)
    → (is_grant y.opcode && asks_for m (request_of y.source t)) ≡ false → grant_sink m (Beat.D y ∷ t) ≡ grant_sink m t
unfolding grant_sink
of_other {w} m y t e = grind arith

-- a use that isn't of the block in which the states differ
pub requested-apart : {w : ℕ} {X : Type 0} (c i n : ℕ) (rest rest' : List (Beat w)) (u : SourceState) (s s' : State X)
    → AreElsewhere n s s' → comes_in_request i rest' ≡ comes_in_request i rest → acquires_of n u ≡ false
    → is_requested c i rest' u s' ≡ is_requested c i rest u s
requested-apart c i n rest rest' SourceFree s s' same comes e = refl
requested-apart c i n rest rest' Asked s s' same comes e = comes
requested-apart c i n rest rest' (InService m) s s' same comes e = refl
requested-apart c i n rest rest' Replied s s' same comes e = refl
requested-apart {w} {X} c i n rest rest' (Acquires m) s s' same comes e =
    cc (same m (λ f. let g : (n == n) ≡ false = rw f at e in let h : true ≡ false = sym (same_number n) ∙ g in cc))

now_requested : (last d : Bool) (k : Cap) (v : View) → v ≡ seen_after last d k → last ≡ false
    → not (is_unserved v) ≡ true
now_requested last d k v e f = grind arith

now_acquired : (last d : Bool) (k : Cap) (v : View) (a : Bool) → v ≡ seen_after last d k → a ≡ not last
    → (a && not (is_unserved v)) ≡ not last
now_acquired last d k v a e f = grind arith

now_granted : (last d : Bool) (k : Cap) (v : View) (a : Bool) → v ≡ seen_after last d k → a ≡ not last
    → (is_acknowledging v || a) ≡ true
now_granted last d k v a e f = grind arith

pub flowed-grant : {w : ℕ} {X : Type 0} {c n : ℕ} {d : Bool} {k : Cap} {y : BeatD w} {first last : Bool}
    {asked asked' : ℕ → Option (BeatA w)} {rest rest' : Channel → List (Beat w)} {s s' : State X} {t : History w}
    → begins (Beat.D y) t ≡ first → ends (Beat.D y) t ≡ last → AreRests (Beat.D y) rest rest'
    → IsGranting c n d k y first last asked asked' rest rest' s s' → MonitorRelation asked rest c s t
    → MonitorRelation asked' rest' c s' (Beat.D y ∷ t)
flowed-grant {w} {X} {c} {n} {d} {k} {y} {first} {last} {asked} {asked'} {rest} {rest'} {s} {s'}
    {t} first_is last_is rests is before =
    let probed = each-block (λ m z. is_answered (z.pair c).probing ≡ true
    → probe_of m t ≡ Some (probe_beat m (cap_waited z.service))) n s s' is.elsewhere
    (λ e. absurd (let f : false ≡ true = sym is.quiet ∙ sym is.answered ∙ e in cc)) (λ m ne e. before.probed m e) in
    let answered = part-block (λ z. is_answered (z.pair c).probing) n s s' is.elsewhere is.answered in
    let b : Block X = s.block n in
    let grants_at : ℕ → Bool = λ m. is_grant y.opcode && asks_for m (request_of y.source t) in
    let names : (m : ℕ) → (is_grant y.opcode && asks_for m (request_of y.source t)) ≡ (n == m) = λ m. cc (
      is.grant,
      before.asked_is y.source (before.requests y.source ∙ was_requested y.source (same_number y.source)),
      is.asks m,
    ) in
    let apart : (m : ℕ) → (m ≡ n → ⊥) → (is_grant y.opcode && asks_for m (request_of y.source t)) ≡ false =
    λ m ne. names m ∙ ne_eqb n m (λ e. ne (sym e)) in
    let granted_then : granted_by c n asked (rest Channel.D) b ≡ not first =
    cc (is.seen, is.granted n, with_true (not first) (n == n) (same_number n)) in
    let grants_other : (m : ℕ) → (m ≡ n → ⊥) → granted_by c m asked' (rest' Channel.D) (s.block m)
    ≡ granted_by c m asked (rest Channel.D) (s.block m) =
    λ m ne. cc (
      is.grants m,
      and_right (not last) (n == m) (ne_eqb n m (λ e. ne (sym e))),
      is.granted m,
      and_right (not first) (n == m) (ne_eqb n m (λ e. ne (sym e))),
    ) in
    flowed-next first_is last_is rests (record {
      held_is = each-block (λ m z. held_by c z ≡ (if last then unwrap_or (if is_grant y.opcode && asks_for m
          (request_of y.source t) then Some (capped y.param) else None) (held_by c (s.block m)) else held_by c
          (s.block m))) n s s' is.elsewhere (is.held_is ∙ ap (λ q. if last then q else held_by c b)
          (sym is.says) ∙ sym (said last (grants_at n) (capped y.param) (held_by c b) (names n ∙ same_number n)))
          (λ m ne. sym (unsaid last (grants_at m) (capped y.param) (held_by c (s.block m)) (apart m ne)));
      requests = λ i. use_at i ∙ requests i last (y.source == i) refl refl;
      asked_is = λ i e. asked_still i e (last && (y.source == i)) refl;
      acquires = each-block (λ m z. acquired_by c z ≡ step first last false (is_grant y.opcode && asks_for m
          (request_of y.source t)) (acquired_by c (s.block m))) n s s' is.elsewhere (now_acquired last d k
          (view new.service c) (is_wanting (new.pair c).acquiring) is.seen_is is.wants_is ∙ sym (ended first last
          (grants_at n) (acquired_by c b) (names n ∙ same_number n) (rw (is.wants, is.seen) refl)))
          (λ m ne. sym (rw (apart m ne) (step_quiet first last (acquired_by c (s.block m)))));
      release_sources = λ i. lets i ∙ sym (unclosed first last (is_release_ack y.opcode) (y.source == i)
          (is_let_by c i (rest Channel.C) (s.lets c i) s) is.ack);
      released = λ i m e f. let_still before i m (release_of-d i y t) (cc (is.lets i))
          (cc (before.release_sources i, lets i));
      releases = λ m. ap (λ l. let_of c l (s'.block m)) (rests Channel.C) ∙ (part-block (let_of c (rest Channel.C)) n
          s s' is.elsewhere (rw (is.release_source, is.letting_is) refl)) m ∙ sym (unclosed first last (is_release_ack
          y.opcode) (releases m (release_of y.source t)) (let_of c (rest Channel.C) (s.block m)) is.ack);
      grants = each-block (λ m z. granted_by c m asked' (rest' Channel.D) z ≡ step first last (is_grant y.opcode
          && asks_for m (request_of y.source t)) false (granted_by c m asked (rest Channel.D) (s.block m))) n s
          s' is.elsewhere (now_granted last d k (view new.service c) (comes_granting n asked' (rest' Channel.D))
          is.seen_is (is.grants n ∙ with_true (not last) (n == n) (same_number n)) ∙ sym (begun first last (grants_at n)
          (granted_by c n asked (rest Channel.D) b) (names n ∙ same_number n) granted_then)) (λ m ne. grants_other m ne
          ∙ sym (unbegun first last (grants_at m) (granted_by c m asked (rest Channel.D) (s.block m)) (apart m ne)));
      probes = λ m. answered m ∙ sym (step_quiet first last (is_answered ((s.block m).pair c).probing));
      probed = λ m e. probed-of m y t ∙ probed m e;
      sunk = each-block (λ m z. granted_by c m asked' (rest' Channel.D) z ≡ true → grant_sink m (Beat.D y ∷ t) ≡ Some
          z.tracker) n s s' is.elsewhere (λ e. of_block n y t first _ first_is (names n ∙ same_number n) (is.sink
          ∙ sym is.tracker) (λ f. before.sunk n (before.grants n ∙ granted_then ∙ ap not f) ∙ ap Some (sym is.tracker)))
          (λ m ne e. of_other m y t (apart m ne) ∙ before.sunk m (before.grants m ∙ sym (grants_other m ne) ∙ e));
    }) before
  where
    new : Block X
    new = s'.block n

    was_requested : (i : ℕ) → (y.source == i) ≡ true → is_requested c i (rest Channel.A) (s.uses c i) s ≡ true
    was_requested i e = cc (is.use_is i e, is.seen)

    use_at : (i : ℕ) → is_requested c i (rest' Channel.A) (s'.uses c i) s' ≡ is_requested c i (rest Channel.A)
        (if last && (y.source == i) then SourceFree else s.uses c i) s'
    use_at i = cc (rests Channel.A, is.uses i)

    requests : (i : ℕ) (z here : Bool) → last ≡ z → (y.source == i) ≡ here
        → is_requested c i (rest Channel.A) (if z && here then SourceFree else s.uses c i) s' ≡ step first last false
        (not (is_release_ack y.opcode) && (y.source == i)) (is_requested c i (rest Channel.A) (s.uses c i) s)
    requests i true true e f = ap not (sym e) ∙ sym (closed first last (is_release_ack y.opcode) (y.source == i)
        (is_requested c i (rest Channel.A) (s.uses c i) s) is.ack f (was_requested i f))
    requests i false true e f = let fact = closed first last (is_release_ack y.opcode) (y.source == i)
        (is_requested c i (rest Channel.A) (s.uses c i) s) is.ack f (was_requested i f) in
        cc (is.use_is i f, now_requested last d k _ is.seen_is e, e)
    requests i true false e f = requested-apart c i n (rest Channel.A) (rest Channel.A) _ s s' is.elsewhere
        refl (is.no_use i f) ∙ sym (unclosed_by first last (not (is_release_ack y.opcode)) (y.source == i)
        (is_requested c i (rest Channel.A) (s.uses c i) s) f)
    requests i false false e f = requested-apart c i n (rest Channel.A) (rest Channel.A) _ s s' is.elsewhere
        refl (is.no_use i f) ∙ sym (unclosed_by first last (not (is_release_ack y.opcode)) (y.source == i)
        (is_requested c i (rest Channel.A) (s.uses c i) s) f)

    was_pending : (i : ℕ) → is_requested c i (rest Channel.A) (s.uses c i) s' ≡ true → (here : Bool)
        → (y.source == i) ≡ here → pending (RequestSource i) t ≡ true
    was_pending i e true f = before.requests i ∙ was_requested i f
    was_pending i e false f = before.requests i ∙ sym (requested-apart c i n (rest Channel.A) (rest Channel.A)
        (s.uses c i) s s' is.elsewhere refl (is.no_use i f)) ∙ e

    asked_still : (i : ℕ) → is_requested c i (rest' Channel.A) (s'.uses c i) s' ≡ true → (z : Bool)
        → (last && (y.source == i)) ≡ z → request_of i (Beat.D y ∷ t) ≡ asked' i
    asked_still i e true f = absurd (let g : false ≡ true = sym (use_at i
        ∙ ap (λ z. is_requested c i (rest Channel.A) (if z then SourceFree else s.uses c i) s') f) ∙ e in cc)
    asked_still i e false f =
        cc (request_of-d i y t, before.asked_is i (was_pending i (cc (use_at i)) (y.source == i) refl), is.asked_is i f)

    lets : (i : ℕ) → is_let_by c i (rest' Channel.C) (s'.lets c i) s' ≡ is_let_by c i (rest Channel.C) (s.lets c i) s
    lets i = let fact = let_by-same c i (rest Channel.C) (s.lets c i) s s' (part-block
        (λ z. (z.pair c).letting) n s s' is.elsewhere is.letting_is) in cc (rests Channel.C, is.lets i)
