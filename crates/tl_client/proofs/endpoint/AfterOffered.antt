-- A client's end after a beat, by what it was before.
use Rattle.tl_client.proofs.Imports.{Beat, BeatA, BeatD, Channel, OpA, OpD, unfinished, Rule, report_right, payload_of}
use Rattle.tl_client.proofs.Imports.{sent_if_any, block_at, ends, request_of, Finish, Stalled, Taken, heard, handed}
use Rattle.tl_client.proofs.Imports.{is_refused, copy_granted, waiting_granted, EndConfig, Endpoint, held_at, with_past}
use Rattle.tl_client.proofs.Imports.{set_at, is_acquire_perm, Offered, offered, taken, ended, granted, granted_perm}
use Rattle.tl_client.proofs.Imports.{responded, silent, judged, judged_later, broken_before, broken_later, waits}
use Rattle.tl_client.proofs.Imports.{report_for}
use Rattle.std.proofs.Common.{◌≡◌, ℕ, Bool, true, false, cond, ◌&&◌, ◌||◌, ◌⊎◌, List, ◌∷◌, Option, Some, None, refl}
use Rattle.std.proofs.Common.{sym, ◌∙◌, ap, inl, inr}
use Rattle.std.specs.Prelude.{◌==◌}
use Rattle.std.proofs.lemmas.Bool.{cases_Bool, eqb-true}
use Rattle.tl_beat.specs.declared.beat.Beat.TheVariants as beat
use Rattle.tl_beat.specs.declared.channel.Channel.TheVariants as channel
use Rattle.tl_beat.specs.declared.opcode.OpA.TheVariants as a
use Rattle.tl_beat.specs.declared.opcode.OpD.TheVariants as d
use Rattle.tl_client.specs.laws.After.{copy_with, copy_by, waiting_with, waiting_by}
use Rattle.tl_client.proofs.endpoint.AfterAsked.{kept_closed, kept_copies}
use Rattle.tl_client.proofs.pending.KeptAsked.{kept_waiting}
use Rattle.tl_client.proofs.endpoint.HeldAfter.{kept_past}

-- what the end is after a beat that is taken
record IsTaken {w : ℕ} (x : Beat w) (e : Endpoint w) (o : Offered w) : Type 0 where
  past_is : o.after.past ≡ sent_if_any (handed o.answer) (heard o.answer x e.past)
  closed_is : o.after.closed ≡ (e.closed || is_refused o.answer)
  copies_are : (k : ℕ) → o.after.copies k ≡ copy_by o.answer x k e
  waiting_is : (k : ℕ) → o.after.waiting k ≡ waiting_by o.answer x k e

or_false : (b : Bool) → b ≡ (b || false)
or_false true = refl
or_false false = refl

-- ---- responses

-- a Grant of a block, by the request that it answers
pub record IsGranted {w : ℕ} (copy waiting : ℕ → Option (List ℕ)) (e f : Endpoint w) : Type 0 where
  pub same_past : f.past ≡ e.past
  pub same_closed : f.closed ≡ e.closed
  pub new_copies : (k : ℕ) → f.copies k ≡ copy k
  pub new_waiting : (k : ℕ) → f.waiting k ≡ waiting k

taken_waiting : {w : ℕ} (e : Endpoint w) (block k : ℕ) → set_at block (e.waiting block) e.copies k ≡ cond
    ((k == block) && true) (e.waiting k) (e.copies k)
taken_waiting e block k = go (cases_Bool (k == block))
  where
    go : ((k == block) ≡ true) ⊎ ((k == block) ≡ false) → cond (k == block) (e.waiting block) (e.copies k) ≡ cond
        ((k == block) && true) (e.waiting k) (e.copies k)
    go (inr other) = rw other refl
    go (inl here) = rw here (ap e.waiting (sym (eqb-true k block here)))

with_true : {X : Type 0} (b : Bool) (x y : X) → cond b x y ≡ cond (b && true) x y
with_true true x y = refl
with_true false x y = refl

with_false : {X : Type 0} (b : Bool) (x y : X) → y ≡ cond (b && false) x y
with_false true x y = refl
with_false false x y = refl

-- what a Grant without data does, by the opcode of its request
bare_copy : {w : ℕ} → OpA → ℕ → ℕ → Endpoint w → Option (List ℕ)
bare_copy opcode block k e = cond ((k == block) && is_acquire_perm opcode) (e.waiting k) (e.copies k)

bare_waiting : {w : ℕ} → OpA → ℕ → ℕ → Endpoint w → Option (List ℕ)
bare_waiting opcode block k e = cond ((k == block) && is_acquire_perm opcode) None (e.waiting k)

granted_bare : {w : ℕ} (opcode : OpA) (block : ℕ) (e : Endpoint w)
    → IsGranted (λ k. bare_copy opcode block k e) (λ k. bare_waiting opcode block k e) e (granted_perm opcode block e)
unfolding bare_copy bare_waiting
granted_bare a.AcquirePerm block e = record {
  same_past = refl;
  same_closed = refl;
  new_copies =
      λ k. taken_waiting e block k;
  new_waiting = λ k. with_true (k == block) None (e.waiting k);
}
granted_bare a.PutFullData block e =
    record {
      same_past = refl;
      same_closed = refl;
      new_copies = λ k. with_false (k == block) (e.waiting k) (e.copies k);
      new_waiting = λ k. with_false (k == block) None (e.waiting k);
    }
granted_bare a.PutPartialData block e =
    record {
      same_past = refl;
      same_closed = refl;
      new_copies = λ k. with_false (k == block) (e.waiting k) (e.copies k);
      new_waiting = λ k. with_false (k == block) None (e.waiting k);
    }
granted_bare a.ArithmeticData block e =
    record {
      same_past = refl;
      same_closed = refl;
      new_copies = λ k. with_false (k == block) (e.waiting k) (e.copies k);
      new_waiting = λ k. with_false (k == block) None (e.waiting k);
    }
granted_bare a.LogicalData block e =
    record {
      same_past = refl;
      same_closed = refl;
      new_copies = λ k. with_false (k == block) (e.waiting k) (e.copies k);
      new_waiting = λ k. with_false (k == block) None (e.waiting k);
    }
granted_bare a.Get block e =
    record {
      same_past = refl;
      same_closed = refl;
      new_copies = λ k. with_false (k == block) (e.waiting k) (e.copies k);
      new_waiting = λ k. with_false (k == block) None (e.waiting k);
    }
granted_bare a.Intent block e =
    record {
      same_past = refl;
      same_closed = refl;
      new_copies = λ k. with_false (k == block) (e.waiting k) (e.copies k);
      new_waiting = λ k. with_false (k == block) None (e.waiting k);
    }
granted_bare a.AcquireBlock block e =
    record {
      same_past = refl;
      same_closed = refl;
      new_copies = λ k. with_false (k == block) (e.waiting k) (e.copies k);
      new_waiting = λ k. with_false (k == block) None (e.waiting k);
    }

pub granted_is : {w : ℕ} (opcode : OpD) (r : Option (BeatA w)) (payload : List ℕ) (e : Endpoint w)
    → IsGranted (λ k. copy_granted opcode r payload k e) (λ k. waiting_granted opcode r k (e.waiting k)) e
    (granted opcode r payload e)
unfolding bare_copy bare_waiting
granted_is d.Grant (Some r) payload e = granted_bare r.opcode (block_at r.address) e
granted_is d.GrantData (Some r) payload e = record {
  same_past = refl;
  same_closed = refl;
  new_copies =
      λ k. refl;
  new_waiting = λ k. refl;
}
granted_is d.Grant None payload e = record {
  same_past = refl;
  same_closed = refl;
  new_copies = λ k. refl;
  new_waiting =
      λ k. refl;
}
granted_is d.GrantData None payload e = record {
  same_past = refl;
  same_closed = refl;
  new_copies =
      λ k. refl;
  new_waiting = λ k. refl;
}
granted_is d.AccessAck r payload e = record {
  same_past = refl;
  same_closed = refl;
  new_copies =
      λ k. refl;
  new_waiting = λ k. refl;
}
granted_is d.AccessAckData r payload e = record {
  same_past = refl;
  same_closed = refl;
  new_copies =
      λ k. refl;
  new_waiting = λ k. refl;
}
granted_is d.HintAck r payload e = record {
  same_past = refl;
  same_closed = refl;
  new_copies = λ k. refl;
  new_waiting =
      λ k. refl;
}
granted_is d.ReleaseAck r payload e = record {
  same_past = refl;
  same_closed = refl;
  new_copies =
      λ k. refl;
  new_waiting = λ k. refl;
}

-- f is the end without the GrantAck
ended_is : {w : ℕ} (opcode : OpD) (x : BeatD w) (finish : Finish) (e f : Endpoint w)
    → IsGranted (λ k. copy_with (beat.D x) k e) (λ k. waiting_with (beat.D x) k e) (with_past (beat.D x ∷ e.past) e) f
    → IsTaken (beat.D x) e (ended opcode x finish f)
ended_is {w} opcode x finish e f g = go opcode
  where
    go : (opcode : OpD) → IsTaken (beat.D x) e (ended opcode x finish f)
    go d.Grant =
        record {
          past_is = ap (λ t. sent_if_any (handed (ended d.Grant x finish f).answer) t) g.same_past;
          closed_is = g.same_closed
              ∙ or_false e.closed;
          copies_are = g.new_copies;
          waiting_is = g.new_waiting;
        }
    go d.GrantData =
        record {
          past_is = ap (λ t. sent_if_any (handed (ended d.GrantData x finish f).answer) t) g.same_past;
          closed_is = g.same_closed
              ∙ or_false e.closed;
          copies_are = g.new_copies;
          waiting_is = g.new_waiting;
        }
    go d.AccessAck = record {
      past_is = g.same_past;
      closed_is = g.same_closed ∙ or_false e.closed;
      copies_are =
          g.new_copies;
      waiting_is = g.new_waiting;
    }
    go d.AccessAckData = record {
      past_is = g.same_past;
      closed_is = g.same_closed ∙ or_false e.closed;
      copies_are =
          g.new_copies;
      waiting_is = g.new_waiting;
    }
    go d.HintAck = record {
      past_is = g.same_past;
      closed_is = g.same_closed ∙ or_false e.closed;
      copies_are =
          g.new_copies;
      waiting_is = g.new_waiting;
    }
    go d.ReleaseAck = record {
      past_is = g.same_past;
      closed_is = g.same_closed ∙ or_false e.closed;
      copies_are =
          g.new_copies;
      waiting_is = g.new_waiting;
    }

part_is : {w : ℕ} (x : BeatD w) (e : Endpoint w) → ends (beat.D x) e.past ≡ false
    → IsTaken (beat.D x) e (silent Taken (with_past (beat.D x ∷ e.past) e))
part_is x e more = record {
  past_is = refl;
  closed_is = or_false e.closed;
  copies_are = λ k. rw more refl;
  waiting_is =
      λ k. rw more refl;
}

last_is : {w : ℕ} (x : BeatD w) (e : Endpoint w) (payload : List ℕ)
    → payload_of (beat.D x ∷ unfinished channel.D e.past) ≡ payload → ends (beat.D x) e.past ≡ true
    → IsTaken (beat.D x) e (responded x (request_of x.source e.past) payload e)
last_is {w} x e payload is last =
    let f : Endpoint w = with_past (beat.D x ∷ e.past) e in
    let g = granted_is x.opcode (request_of x.source e.past) payload f in
    ended_is x.opcode x _ e (granted x.opcode (request_of x.source e.past) payload f)
    (record {
      same_past = g.same_past;
      same_closed = g.same_closed;
      new_copies =
          λ k. g.new_copies k ∙ same_copy k;
      new_waiting = λ k. g.new_waiting k ∙ same_waiting k;
    })
  where
    copy_there : (opcode : OpD) (o : Option (BeatA w)) (k : ℕ)
        → copy_granted opcode o payload k (with_past (beat.D x ∷ e.past) e) ≡ copy_granted opcode o payload k e
    copy_there d.Grant (Some r) k = refl
    copy_there d.GrantData (Some r) k = refl
    copy_there d.Grant None k = refl
    copy_there d.GrantData None k = refl
    copy_there d.AccessAck o k = refl
    copy_there d.AccessAckData o k = refl
    copy_there d.HintAck o k = refl
    copy_there d.ReleaseAck o k = refl

    same_copy : (k : ℕ) → copy_granted x.opcode (request_of x.source e.past) payload k (with_past (beat.D x ∷ e.past) e)
        ≡ copy_with (beat.D x) k e
    same_copy k = rw (last, is) (copy_there x.opcode (request_of x.source e.past) k)

    same_waiting : (k : ℕ) → waiting_granted x.opcode (request_of x.source e.past) k (e.waiting k) ≡ waiting_with
        (beat.D x) k e
    same_waiting k = rw last refl

taken_d : {w : ℕ} (x : BeatD w) (e : Endpoint w) → IsTaken (beat.D x) e (taken (beat.D x) e)
taken_d {w} x e = go (ends (beat.D x) e.past) refl
  where
    go : (b : Bool) → ends (beat.D x) e.past ≡ b
        → IsTaken (beat.D x) e (cond b
        (responded x (request_of x.source e.past) (payload_of (beat.D x ∷ unfinished channel.D e.past)) e)
        (silent Taken (with_past (beat.D x ∷ e.past) e)))
    go true last = last_is x e (payload_of (beat.D x ∷ unfinished channel.D e.past)) refl last
    go false more = part_is x e more

taken_is : {w : ℕ} (x : Beat w) (e : Endpoint w) → IsTaken x e (taken x e)
taken_is (beat.A x) e = record {
  past_is = refl;
  closed_is = or_false e.closed;
  copies_are = λ k. refl;
  waiting_is =
      λ k. refl;
}
taken_is (beat.B x) e =
    let block = block_at x.address in
    let p = report_right (report_for x (held_at e block)) in
    record {
      past_is = kept_past block p _;
      closed_is = kept_closed block p _ ∙ or_false e.closed;
      copies_are = λ k. kept_copies block p _ k;
      waiting_is = λ k. kept_waiting block p _ k;
    }
taken_is (beat.C x) e = record {
  past_is = refl;
  closed_is = or_false e.closed;
  copies_are = λ k. refl;
  waiting_is =
      λ k. refl;
}
taken_is (beat.D x) e = taken_d x e
taken_is (beat.E x) e = record {
  past_is = refl;
  closed_is = or_false e.closed;
  copies_are = λ k. refl;
  waiting_is =
      λ k. refl;
}

-- ---- any beat

or_true : (b : Bool) → true ≡ (b || true)
or_true true = refl
or_true false = refl

refused_is : {w : ℕ} (o : Option Rule) (x : Beat w) (e : Endpoint w) → IsTaken x e (judged_later o x e)
refused_is (Some r) x e = record {
  past_is = refl;
  closed_is = or_true e.closed;
  copies_are = λ k. refl;
  waiting_is =
      λ k. refl;
}
refused_is None x e = taken_is x e

judged_is : {w : ℕ} (o : Option Rule) (terms : EndConfig) (x : Beat w) (e : Endpoint w)
    → IsTaken x e (judged o terms x e)
judged_is (Some r) terms x e = record {
  past_is = refl;
  closed_is = or_true e.closed;
  copies_are =
      λ k. refl;
  waiting_is = λ k. refl;
}
judged_is {w} None terms x e = go (waits x e.past)
  where
    go : (b : Bool) → IsTaken x e (cond b (silent Stalled e) (judged_later (broken_later terms x e) x e))
    go true = record { past_is = refl; closed_is = or_false e.closed; copies_are = λ k. refl; waiting_is = λ k. refl }
    go false = refused_is (broken_later terms x e) x e

pub past-offered : {w : ℕ} (terms : EndConfig) (ch : Channel) (x : Beat w) (e : Endpoint w)
    → (offered terms ch x e).after.past ≡ sent_if_any (handed (offered terms ch x e).answer)
    (heard (offered terms ch x e).answer x e.past)
unfolding offered
past-offered terms ch x e = (judged_is (broken_before terms ch x e) terms x e).past_is

pub closed-offered : {w : ℕ} (terms : EndConfig) (ch : Channel) (x : Beat w) (e : Endpoint w)
    → (offered terms ch x e).after.closed ≡ (e.closed || is_refused (offered terms ch x e).answer)
unfolding offered
closed-offered terms ch x e = (judged_is (broken_before terms ch x e) terms x e).closed_is

pub copies-offered : {w : ℕ} (terms : EndConfig) (ch : Channel) (x : Beat w) (e : Endpoint w) (k : ℕ)
    → (offered terms ch x e).after.copies k ≡ copy_by (offered terms ch x e).answer x k e
unfolding offered
copies-offered terms ch x e k = (judged_is (broken_before terms ch x e) terms x e).copies_are k

pub waiting-offered : {w : ℕ} (terms : EndConfig) (ch : Channel) (x : Beat w) (e : Endpoint w) (k : ℕ)
    → (offered terms ch x e).after.waiting k ≡ waiting_by (offered terms ch x e).answer x k e
unfolding offered
waiting-offered terms ch x e k = (judged_is (broken_before terms ch x e) terms x e).waiting_is k
