-- What each response brings is true.
use Rattle.tl_one_memory.proofs.Imports.{Beat, BeatD, Link, reaches, unfinished, on_link, Memory, is_release_ack}
use Rattle.tl_one_memory.proofs.Imports.{Access, before_last, carried_byte, is_of, pending_accesses, same-some}
use Rattle.tl_one_memory.proofs.Imports.{IsAnswer, IsRun, IsTaken, Leaves, Performs, Run, Stores, Takes, found_in, trace_in}
use Rattle.std.proofs.Common.{◌≡◌, ℕ, suc, Bool, true, false, not, ◌||◌, ◌+◌, ◌-◌, ◌*◌, ◌/◌, ◌%◌, ◌<◌, List, [], ◌∷◌}
use Rattle.std.proofs.Common.{◌⊎◌, inl, inr, refl, sym, ap, ◌∙◌, arith, length}
use Rattle.std.specs.Prelude.{if◌then◌else◌, find, Option, Some, None, slice_get}
use Rattle.std.proofs.lemmas.Bool.{and_from, cases_Bool, eq-eqb}
use Rattle.std.{proofs.lemmas.Nat.div-mul-add, proofs.lemmas.Nat.mod-mul-add, proofs.lemmas.Option.slice_get_within}
use Rattle.std.{proofs.Math.Nat.mul_comm}
use Rattle.tl_beat.{specs.declared.channel.Channel.Channel, specs.declared.opcode.OpA.OpA}
use Rattle.tl_beat.{specs.declared.opcode.OpD.OpD}
use Rattle.tl_rules.specs.statement.Admission.{is_spoiled, lanes_of}
use Rattle.tl_rules.specs.statement.Conformance.{answers}
use Rattle.tl_bytes.specs.statement.Bytes.{each_from, found_after, is_get, is_true, is_true_read, may_read}
use Rattle.tl_bytes.specs.statement.Bytes.{reads_truly}
use Rattle.tl_one_memory.proofs.Granted.{granted}
use Rattle.tl_one_memory.proofs.Read.{IsFoundBefore, are-begun_read, are-read, put-unread, read-next}
use Rattle.tl_bytes.specs.statement.Early.{outruns}
use Rattle.tl_rules.specs.statement.Conformance.{Trace}
use Rattle.tl_one_memory.specs.statement.Run.{IsBrought, place_in, returns, spoiled_at}
use Rattle.tl_one_memory.specs.statement.TrueBytes.{AreTrue, IsTrueBeat, TrueBytes}

-- ---- the lanes of a beat

each-lane : (test : ℕ → ℕ → Bool) (from : ℕ) (lanes : List ℕ)
    → ((j v : ℕ) → slice_get lanes j ≡ Some v → test (from + j) v ≡ true) → each_from test from lanes ≡ true
unfolding each_from
each-lane test from [] each = refl
each-lane test from (v ∷ lanes) each =
    let here : from + 0 ≡ from = omega arith in
    and_from _ _ (ap (λ (i : ℕ). test i v) (sym here) ∙ each 0 v refl)
    (each-lane test (from + 1) lanes (λ j u e. ap (λ (i : ℕ). test i u) (next j) ∙ each (suc j) u e))
  where
    next : (j : ℕ) → from + 1 + j ≡ from + suc j
    next j = omega arith

place-of : (first k j : ℕ) → first + k + j - first ≡ k + j
place-of first k j = omega arith

place-div : (w k j : ℕ) → j < w → (w * k + j) / w ≡ k
place-div w k j lt = ap (λ (i : ℕ). (i + j) / w) (mul_comm w k) ∙ div-mul-add k w j lt

place-mod : (w k j : ℕ) → j < w → (w * k + j) % w ≡ j
place-mod w k j lt = ap (λ (i : ℕ). (i + j) % w) (mul_comm w k) ∙ mod-mul-add k w j lt

-- the byte that a beat has brought is the one in its lane
lane-carried : {w : ℕ} (z : BeatD w) (older : List (Beat w)) (place j v found : ℕ) → place / w ≡ length older
    → place % w ≡ j → carried_byte (Beat.D z ∷ older) place ≡ Some found → slice_get (lanes_of (Beat.D z)) j ≡ Some v
    → found ≡ v
unfolding carried_byte
lane-carried {w} z older place j v found at in_lane carried lane =
    go (is_spoiled (Beat.D z)) (rw (eq-eqb (place / w) (length older) at, in_lane) at carried)
  where
    go : (b : Bool) → (if b then None else slice_get (lanes_of (Beat.D z)) j) ≡ Some found → found ≡ v
    go true e = absurd cc
    go false e = sym (same-some found v (sym e ∙ lane))

-- ---- an answer with data

answered-reads : (o : OpA) → answers OpD.AccessAckData o ≡ true → returns o ≡ true
answered-reads OpA.Get e = refl
answered-reads OpA.ArithmeticData e = refl
answered-reads OpA.LogicalData e = refl
answered-reads v e = absurd cc

module _ {w : ℕ} (n : ℕ) (first : Memory) (link : Link) (z : BeatD w) (run : Run w)
    (taken : IsTaken n first link (Beat.D z) run) (is : IsRun n first run) where
  abbrev older : List (Beat w)
  older = unfinished Channel.D (on_link link.0 (trace_in run))

  -- what had been taken when the bytes of this beat were found
  abbrev before : Option (Access w) → Trace w
  before o = found_after o link.0 (length older) (trace_in run)

  read-byte : (p : Access w) → IsAnswer first link.0 z p run → is_release_ack z.opcode ≡ false → z.denied ≡ false
      → outruns z (on_link link.0 (trace_in run)) ≡ false
      → is_spoiled (Beat.D z) ≡ false
      → answers OpD.AccessAckData p.request.opcode ≡ true
      → find (is_of link.0 z.source) (pending_accesses (trace_in run)) ≡ Some p → (address v : ℕ)
      → reaches p.request.address p.request.size address ≡ true → place_in p address / w ≡ length older → (j : ℕ)
      → place_in p address % w ≡ j → slice_get (lanes_of (Beat.D z)) j ≡ Some v
      → may_read n p (before (Some p)) address v ≡ true
  read-byte p answer no_ack granted late sound admitted pending address v reached at j in_lane lane =
      elim (cases_Bool (is_get p.request.opcode)) [
        | inl get ↦ rw get (ap (may_read n p (trace_in run) address) (sym value)
            ∙ are-read n first run is link.0 z.source p address here.byte here.found_is pending back reached)
        | inr other ↦ rw other (before_it (read-next n first link z p run taken is (are-begun_read n first run is)
            no_ack
            granted late pending other back address reached))
      ]
    where
      back : returns p.request.opcode ≡ true
      back = answered-reads p.request.opcode admitted

      here : IsBrought (found_in first link.0 z.source run address) (Beat.D z ∷ older) (place_in p address)
      here = answer.brings back address reached (inl (omega (arith, at)))

      value : here.byte ≡ v
      value = lane-carried z older (place_in p address) j v here.byte at in_lane (carried here.carried_is) lane
        where
          carried : (spoiled_at (Beat.D z ∷ older) (place_in p address) ≡ true)
              ⊎ (carried_byte (Beat.D z ∷ older) (place_in p address) ≡ Some here.byte)
              → carried_byte (Beat.D z ∷ older) (place_in p address) ≡ Some here.byte
          carried (inr is) = is
          carried (inl spoilt) = absurd (let no : true ≡ false =
              sym spoilt ∙ rw (eq-eqb (place_in p address / w) (length older) at) sound in cc)

      before_it : IsFoundBefore n first link.0 z.source p (length older) run address
          → may_read n p (before_last link.0 (length older) (trace_in run)) address v ≡ true
      before_it began =
          ap (may_read n p (before_last link.0 (length older) (trace_in run)) address)
          (sym (same-some here.byte began.byte (sym here.found_is ∙ began.found_is) ∙ value)) ∙ began.brings

  read : z.opcode ≡ OpD.AccessAckData → ((z.corrupt || z.denied) || is_true_read n link.0 z (trace_in run)) ≡ true
  read e = judged z.corrupt z.denied refl refl
    where
      go : z.denied ≡ false → is_spoiled (Beat.D z) ≡ false → (o : Option (Access w))
          → find (is_of link.0 z.source) (pending_accesses (trace_in run)) ≡ o
          → reads_truly n o (length older) z (before o) ≡ true
      go granted sound None f = refl
      go granted sound (Some p) f = each-lane _ (w * (p.request.address / w) + w * length older) (lanes_of (Beat.D z))
          each
        where
          no_ack : is_release_ack z.opcode ≡ false
          no_ack = ap is_release_ack e

          -- it doesn't come before the request of a Put is complete, since it brings bytes
          late : outruns z (on_link link.0 (trace_in run)) ≡ false
          late = in-time (outruns z (on_link link.0 (trace_in run))) refl
            where
              in-time : (b : Bool) → outruns z (on_link link.0 (trace_in run)) ≡ b → b ≡ false
              in-time false g = refl
              in-time true g =
                  let put = taken.outruns_put z p refl g f in
                  let back = answered-reads p.request.opcode
                  (ap (λ (o : OpD). answers o p.request.opcode) (sym e) ∙ put.1) in
                  sym back ∙ put-unread p.request.opcode put.0

          answer : IsAnswer first link.0 z p run
          answer = taken.answers_rightly z p refl no_ack granted late f

          each : (j v : ℕ) → slice_get (lanes_of (Beat.D z)) j ≡ Some v
              → (not (reaches p.request.address p.request.size (w * (p.request.address / w) + w * length older + j))
              || may_read n p (before (Some p)) (w * (p.request.address / w) + w * length older + j) v) ≡ true
          each j v lane = byte (reaches p.request.address p.request.size address) refl
            where
              address : ℕ
              address = w * (p.request.address / w) + w * length older + j

              within : j < w
              within = let lt = slice_get_within (lanes_of (Beat.D z)) j v lane in omega (arith, lt, answer.lanes_fit)

              place : place_in p address ≡ w * length older + j
              place = place-of (w * (p.request.address / w)) (w * length older) j

              byte : (b : Bool) → reaches p.request.address p.request.size address ≡ b
                  → (not b || may_read n p (before (Some p)) address v) ≡ true
              byte false g = refl
              byte true g = read-byte p answer no_ack granted late sound
                  (ap (λ (o : OpD). answers o p.request.opcode) (sym e) ∙ answer.admitted) f address v g
                  (ap (λ (i : ℕ). i / w) place ∙ place-div w (length older) j within) j
                  (ap (λ (i : ℕ). i % w) place ∙ place-mod w (length older) j within) lane

      judged : (corrupt denied : Bool) → z.corrupt ≡ corrupt → z.denied ≡ denied
          → ((corrupt || denied) || is_true_read n link.0 z (trace_in run)) ≡ true
      judged true denied sound granted = refl
      judged false true sound granted = refl
      judged false false sound granted =
          go granted (rw (sound, granted) refl) (find (is_of link.0 z.source) (pending_accesses (trace_in run))) refl

  true-response : (o : OpD) → z.opcode ≡ o → is_true o n link.0 z (trace_in run) ≡ true
  true-response OpD.GrantData e = granted n first link z run taken is e
  true-response OpD.AccessAckData e = read e
  true-response v e = refl

-- ---- all that is taken

true-beat : {w : ℕ} (n : ℕ) (first : Memory) (link : Link) (x : Beat w) (run : Run w) → IsTaken n first link x run
    → IsRun n first run → IsTrueBeat n link.0 x (trace_in run)
true-beat n first link (Beat.D z) run taken is = true-response n first link z run taken is z.opcode refl
true-beat n first link v run taken is = tt

pub are-true : {w : ℕ} (n : ℕ) (first : Memory) (run : Run w) → IsRun n first run → AreTrue n (trace_in run)
unfolding IsRun trace_in AreTrue
are-true n first [] is = tt
are-true n first (Takes link x ∷ run) is = (true-beat n first link x run is.0 is.1, are-true n first run is.1)
are-true n first (Performs d i test left ∷ run) is = are-true n first run is.1
are-true n first (Stores block bytes ∷ run) is = are-true n first run is.1
are-true n first (Leaves d i bytes ∷ run) is = are-true n first run is.1

pub true_bytes : {w : ℕ} → TrueBytes w
true_bytes n first run is = are-true n first run is
