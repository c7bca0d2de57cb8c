-- What each response brings is true, by beats and commits.
use Rattle.tl_commit_memory.proofs.Imports.{Access, Beat, BeatD, Channel, CommitRun, Committed, Events, Happened}
use Rattle.tl_commit_memory.proofs.Imports.{IsAnswer, IsCommitRun, IsTaken, Leaves, Link, Memory, Performs, Run}
use Rattle.tl_commit_memory.proofs.Imports.{Stores, Takes, Trace, carried_byte, events_in, found_in, is_of}
use Rattle.tl_commit_memory.proofs.Imports.{is_release_ack, on_link, pending_accesses, reaches, run_in, same-some}
use Rattle.tl_commit_memory.proofs.Imports.{trace_in, unfinished}
use Rattle.std.proofs.Common.{◌≡◌, ℕ, suc, Bool, true, false, not, ◌||◌, ◌+◌, ◌-◌, ◌*◌, ◌/◌, ◌%◌, ◌<◌, List, [], ◌∷◌}
use Rattle.std.proofs.Common.{◌⊎◌, inl, inr, refl, sym, ap, ◌∙◌, arith, length, subst}
use Rattle.std.specs.Prelude.{if◌then◌else◌, find, Option, Some, None, slice_get}
use Rattle.std.proofs.lemmas.Bool.{and_from, cases_Bool, eq-eqb}
use Rattle.std.{proofs.lemmas.Nat.div-mul-add, proofs.lemmas.Nat.mod-mul-add, proofs.lemmas.Option.slice_get_within}
use Rattle.std.{proofs.Math.Nat.mul_comm}
use Rattle.tl_beat.{specs.declared.opcode.OpA.OpA, specs.declared.opcode.OpD.OpD}
use Rattle.tl_rules.specs.statement.Admission.{is_spoiled, lanes_of}
use Rattle.tl_rules.specs.statement.Conformance.{answers}
use Rattle.tl_bytes.specs.statement.Bytes.{each_from, is_get}
use Rattle.tl_bytes.specs.statement.Early.{outruns}
use Rattle.tl_commits.specs.statement.Completeness.{Completeness}
unfoldable use Rattle.tl_commits.specs.statement.True.{before_last_seen, may_read_seen}
use Rattle.tl_events.specs.declared.commit.Event.TheVariants as event
use Rattle.tl_commits.specs.statement.True.{found_after_seen, is_true_read_seen, is_true_seen, reads_truly_seen}
use Rattle.tl_one_memory.proofs.Read.{put-unread}
use Rattle.tl_one_memory.specs.statement.Run.{IsBrought, place_in, returns, spoiled_at}
use Rattle.tl_commit_memory.proofs.Granted.{granted}
use Rattle.tl_commit_memory.proofs.Read.{IsFoundBefore, are-begun_read, are-read, read-next}
use Rattle.tl_commit_memory.proofs.Traces.{beats-are}
use Rattle.tl_commit_memory.specs.statement.CommitRun.{StartsAs}
unfoldable use Rattle.tl_commit_memory.specs.statement.TrueEvents.{AreTrueEvents}
use Rattle.tl_commit_memory.specs.statement.TrueEvents.{IsTrueEvent, TrueCommitRuns}

-- ---- the lanes of a beat

pub each-lane : (test : ℕ → ℕ → Bool) (from : ℕ) (lanes : List ℕ)
    → ((j v : ℕ) → slice_get lanes j ≡ Some v → test (from + j) v ≡ true) → each_from test from lanes ≡ true
unfolding each_from
each-lane test from [] each = refl
each-lane test from (v ∷ lanes) each =
    let here : from + 0 ≡ from = omega arith in
    and_from _ _ (ap (λ (i : ℕ). test i v) (sym here) ∙ each 0 v refl)
    (each-lane test (from + 1) lanes (λ j u e. ap (λ (i : ℕ). test i u) (next j) ∙ each (suc j) u e))
  where
    next : (j : ℕ) → from + 1 + j ≡ from + suc j
    next j = omega arith

place-of : (first k j : ℕ) → first + k + j - first ≡ k + j
place-of first k j = omega arith

place-div : (w k j : ℕ) → j < w → (w * k + j) / w ≡ k
place-div w k j lt = ap (λ (i : ℕ). (i + j) / w) (mul_comm w k) ∙ div-mul-add k w j lt

place-mod : (w k j : ℕ) → j < w → (w * k + j) % w ≡ j
place-mod w k j lt = ap (λ (i : ℕ). (i + j) % w) (mul_comm w k) ∙ mod-mul-add k w j lt

-- the byte that a beat has brought is the one in its lane
lane-carried : {w : ℕ} (z : BeatD w) (older : List (Beat w)) (place j v found : ℕ) → place / w ≡ length older
    → place % w ≡ j → carried_byte (Beat.D z ∷ older) place ≡ Some found → slice_get (lanes_of (Beat.D z)) j ≡ Some v
    → found ≡ v
unfolding carried_byte
lane-carried {w} z older place j v found at in_lane carried lane =
    go (is_spoiled (Beat.D z)) (rw (eq-eqb (place / w) (length older) at, in_lane) at carried)
  where
    go : (b : Bool) → (if b then None else slice_get (lanes_of (Beat.D z)) j) ≡ Some found → found ≡ v
    go true e = absurd cc
    go false e = sym (same-some found v (sym e ∙ lane))

-- ---- an answer with data

answered-reads : (o : OpA) → answers OpD.AccessAckData o ≡ true → returns o ≡ true
answered-reads OpA.Get e = refl
answered-reads OpA.ArithmeticData e = refl
answered-reads OpA.LogicalData e = refl
answered-reads v e = absurd cc

module _ {w : ℕ} (complete : Completeness) (n : ℕ) (first : Memory) (starts : StartsAs complete.zero first)
    (link : Link) (z : BeatD w) (steps : CommitRun w)
    (taken : IsTaken n first link (Beat.D z) (run_in steps)) (is : IsCommitRun n first steps) where
  abbrev run : Run w
  run = run_in steps

  abbrev older : List (Beat w)
  older = unfinished Channel.D (on_link link.0 (trace_in run))

  -- the events up to the moment at which the bytes of this beat were found
  abbrev before : Option (Access w) → Events w
  before o = found_after_seen o link.0 (length older) (events_in steps)

  read-byte : (p : Access w) → IsAnswer first link.0 z p run → is_release_ack z.opcode ≡ false → z.denied ≡ false
      → outruns z (on_link link.0 (trace_in run)) ≡ false
      → is_spoiled (Beat.D z) ≡ false
      → answers OpD.AccessAckData p.request.opcode ≡ true
      → find (is_of link.0 z.source) (pending_accesses (trace_in run)) ≡ Some p → (address v : ℕ)
      → reaches p.request.address p.request.size address ≡ true → place_in p address / w ≡ length older → (j : ℕ)
      → place_in p address % w ≡ j → slice_get (lanes_of (Beat.D z)) j ≡ Some v
      → may_read_seen complete n p (before (Some p)) address v ≡ true
  read-byte p answer no_ack granted late sound admitted pending address v reached at j in_lane lane =
      elim (cases_Bool (is_get p.request.opcode)) [
        | inl get ↦ rw get (ap (may_read_seen complete n p (events_in steps) address) (sym value)
            ∙ are-read complete n first starts steps is link.0 z.source p address here.byte here.found_is pending back
            reached)
        | inr other ↦ rw other (before_it (read-next complete n first starts link z p steps taken is
            (are-begun_read complete n first starts steps is) no_ack granted late pending other back address reached))
      ]
    where
      back : returns p.request.opcode ≡ true
      back = answered-reads p.request.opcode admitted

      here : IsBrought (found_in first link.0 z.source run address) (Beat.D z ∷ older) (place_in p address)
      here = answer.brings back address reached (inl (omega (arith, at)))

      value : here.byte ≡ v
      value = lane-carried z older (place_in p address) j v here.byte at in_lane (carried here.carried_is) lane
        where
          carried : (spoiled_at (Beat.D z ∷ older) (place_in p address) ≡ true)
              ⊎ (carried_byte (Beat.D z ∷ older) (place_in p address) ≡ Some here.byte)
              → carried_byte (Beat.D z ∷ older) (place_in p address) ≡ Some here.byte
          carried (inr is) = is
          carried (inl spoilt) = absurd (let no : true ≡ false =
              sym spoilt ∙ rw (eq-eqb (place_in p address / w) (length older) at) sound in cc)

      before_it : IsFoundBefore complete n first starts link.0 z.source p (length older) steps address
          → may_read_seen complete n p (before_last_seen link.0 (length older) (events_in steps)) address v ≡ true
      before_it began =
          ap (may_read_seen complete n p (before_last_seen link.0 (length older) (events_in steps)) address)
          (sym (same-some here.byte began.byte (sym here.found_is ∙ began.found_is) ∙ value)) ∙ began.brings

  -- M3, by the beats that came before
  abbrev IsRead : Trace w → Type 0
  IsRead t = reads_truly_seen complete n (find (is_of link.0 z.source) (pending_accesses t))
      (length (unfinished Channel.D (on_link link.0 t))) z
      (found_after_seen (find (is_of link.0 z.source) (pending_accesses t)) link.0
      (length (unfinished Channel.D (on_link link.0 t))) (events_in steps)) ≡ true

  reads : z.opcode ≡ OpD.AccessAckData → z.denied ≡ false → is_spoiled (Beat.D z) ≡ false → IsRead (trace_in run)
  reads e granted sound = go (find (is_of link.0 z.source) (pending_accesses (trace_in run))) refl
    where
      go : (o : Option (Access w)) → find (is_of link.0 z.source) (pending_accesses (trace_in run)) ≡ o
          → reads_truly_seen complete n o (length older) z (before o) ≡ true
      go None f = refl
      go (Some p) f = each-lane _ (w * (p.request.address / w) + w * length older) (lanes_of (Beat.D z)) each
        where
          no_ack : is_release_ack z.opcode ≡ false
          no_ack = ap is_release_ack e

          -- it doesn't come before the request of a Put is complete, since it brings bytes
          late : outruns z (on_link link.0 (trace_in run)) ≡ false
          late = in-time (outruns z (on_link link.0 (trace_in run))) refl
            where
              in-time : (b : Bool) → outruns z (on_link link.0 (trace_in run)) ≡ b → b ≡ false
              in-time false g = refl
              in-time true g =
                  let put = taken.outruns_put z p refl g f in
                  let back = answered-reads p.request.opcode
                  (ap (λ (o : OpD). answers o p.request.opcode) (sym e) ∙ put.1) in
                  sym back ∙ put-unread p.request.opcode put.0

          answer : IsAnswer first link.0 z p run
          answer = taken.answers_rightly z p refl no_ack granted late f

          each : (j v : ℕ) → slice_get (lanes_of (Beat.D z)) j ≡ Some v
              → (not (reaches p.request.address p.request.size (w * (p.request.address / w) + w * length older + j))
              || may_read_seen complete n p (before (Some p)) (w * (p.request.address / w) + w * length older + j) v)
              ≡ true
          each j v lane = byte (reaches p.request.address p.request.size address) refl
            where
              address : ℕ
              address = w * (p.request.address / w) + w * length older + j

              within : j < w
              within = let lt = slice_get_within (lanes_of (Beat.D z)) j v lane in omega (arith, lt, answer.lanes_fit)

              place : place_in p address ≡ w * length older + j
              place = place-of (w * (p.request.address / w)) (w * length older) j

              byte : (b : Bool) → reaches p.request.address p.request.size address ≡ b
                  → (not b || may_read_seen complete n p (before (Some p)) address v) ≡ true
              byte false g = refl
              byte true g = read-byte p answer no_ack granted late sound
                  (ap (λ (o : OpD). answers o p.request.opcode) (sym e) ∙ answer.admitted) f address v g
                  (ap (λ (i : ℕ). i / w) place ∙ place-div w (length older) j within) j
                  (ap (λ (i : ℕ). i % w) place ∙ place-mod w (length older) j within) lane

  read : z.opcode ≡ OpD.AccessAckData
      → ((z.corrupt || z.denied) || is_true_read_seen complete n link.0 z (events_in steps)) ≡ true
  read e = judged z.corrupt z.denied refl refl
    where
      judged : (corrupt denied : Bool) → z.corrupt ≡ corrupt → z.denied ≡ denied
          → ((corrupt || denied) || is_true_read_seen complete n link.0 z (events_in steps)) ≡ true
      judged true denied sound granted = refl
      judged false true sound granted = refl
      judged false false sound granted =
          subst IsRead (sym (beats-are steps)) (reads e granted (rw (sound, granted) refl))

  true-response : (o : OpD) → z.opcode ≡ o → is_true_seen complete o n link.0 z (events_in steps) ≡ true
  true-response OpD.GrantData e = granted complete n first starts link z steps taken is e
  true-response OpD.AccessAckData e = read e
  true-response v e = refl

-- ---- all that is taken

true-beat : {w : ℕ} (complete : Completeness) (n : ℕ) (first : Memory) (starts : StartsAs complete.zero first)
    (link : Link) (x : Beat w) (steps : CommitRun w)
    → IsTaken n first link x (run_in steps) → IsCommitRun n first steps
    → IsTrueEvent complete n link.0 (event.Beat x) (events_in steps)
true-beat complete n first starts link (Beat.D z) steps taken is =
    true-response complete n first starts link z steps taken is z.opcode refl
true-beat complete n first starts link (Beat.A z) steps taken is = tt
true-beat complete n first starts link (Beat.B z) steps taken is = tt
true-beat complete n first starts link (Beat.C z) steps taken is = tt
true-beat complete n first starts link (Beat.E z) steps taken is = tt

are-true : {w : ℕ} (complete : Completeness) (n : ℕ) (first : Memory) (starts : StartsAs complete.zero first)
    (steps : CommitRun w) → IsCommitRun n first steps
    → AreTrueEvents complete n (events_in steps)
unfolding IsCommitRun AreTrueEvents events_in run_in
are-true complete n first starts [] is = tt
are-true complete n first starts (Happened (Takes link x) ∷ steps) is =
    (true-beat complete n first starts link x steps is.0 is.1, are-true complete n first starts steps is.1)
are-true complete n first starts (Happened (Performs d i test left) ∷ steps) is =
    are-true complete n first starts steps is.1
are-true complete n first starts (Happened (Stores block bytes) ∷ steps) is =
    are-true complete n first starts steps is.1
are-true complete n first starts (Happened (Leaves d i bytes) ∷ steps) is = are-true complete n first starts steps is.1
are-true complete n first starts (Committed link x ∷ steps) is = (tt, are-true complete n first starts steps is.1)

pub true_commit_runs : {w : ℕ} → TrueCommitRuns w
true_commit_runs complete n first steps starts is = are-true complete n first starts steps is
