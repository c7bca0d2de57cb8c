-- What a beat may bring by what is expected of the response that has begun on its link.
use Rattle.tl_memory.proofs.Imports.{OpD, Trace, Expected, ExpectsRead, ExpectsResponse, Access, ExpectsAgain}
use Rattle.tl_memory.proofs.Imports.{ExpectsBeat, ExpectsLater, is_of, pending_accesses}
use Rattle.std.proofs.Common.{◌≡◌, ℕ, Bool, true, false, Option, Some, None, refl, sym, inl, inr, subst}
use Rattle.std.specs.Prelude.{find, if◌then◌else◌}
use Rattle.std.proofs.lemmas.Bool.{cases_Bool}
use Rattle.tl_bytes.specs.statement.Bytes.{before_last, found_after, is_get}
use Rattle.tl_memory.proofs.messages.Expecting.{before-none}

-- that begins it
pub beat-begun : {w : ℕ} (expected : Option Expected) (n c : ℕ) (opcode : OpD) (s k : ℕ) (t : Trace w) → k ≡ 0
    → ExpectsResponse expected n c opcode s t t → ExpectsBeat expected n c opcode s k t
beat-begun {w} expected n c opcode s k t first known = rw first (go opcode known)
  where
    either : (get : Bool) → (if get then t else before_last c 0 t) ≡ t
    either true = refl
    either false = before-none c t

    from-here : (o : Option (Access w)) → found_after o c 0 t ≡ t
    from-here None = refl
    from-here (Some access) = either (is_get access.request.opcode)

    go : (opcode : OpD) → ExpectsResponse expected n c opcode s t t → ExpectsBeat expected n c opcode s 0 t
    go OpD.AccessAckData known =
        subst (λ u. ExpectsRead expected n (find (is_of c s) (pending_accesses t)) u)
        (sym (from-here (find (is_of c s) (pending_accesses t)))) known
    go v known = subst (λ u. ExpectsResponse expected n c v s t u) (sym (before-none c t)) known

none-anew : {X : Type 0} (expected : Expected) → Some expected ≡ None → X
none-anew expected e = absurd cc

-- that doesn't: what is said anew
pub beat-anew : {w : ℕ} (expected : Expected) (n c : ℕ) (opcode : OpD) (s k : ℕ) (t : Trace w)
    → ExpectsLater (Some expected) n c opcode s t → ExpectsBeat (Some expected) n c opcode s k t
beat-anew {w} expected n c OpD.AccessAckData s k t known = go (find (is_of c s) (pending_accesses t)) known
  where
    go : (o : Option (Access w)) → ExpectsAgain (Some expected) n o t
        → ExpectsRead (Some expected) n o (found_after o c k t)
    go None e = none-anew expected e
    go (Some access) e = elim (cases_Bool (is_get access.request.opcode)) [
      | inl get ↦ rw get (e.0 get)
      | inr other ↦ none-anew expected (e.1 other)
    ]
beat-anew expected n c v s k t known = none-anew expected known

-- or what was said when it began
pub beat-kept : {w : ℕ} (expected : Option Expected) (n c : ℕ) (opcode : OpD) (s k : ℕ) (t : Trace w)
    → ExpectsLater None n c opcode s t → ExpectsResponse expected n c opcode s t (before_last c k t)
    → ExpectsBeat expected n c opcode s k t
beat-kept {w} expected n c OpD.AccessAckData s k t later known = go (find (is_of c s) (pending_accesses t)) later known
  where
    unasked : (q : Option Expected) → ExpectsRead {w = w} q n None (before_last c k t) → ExpectsRead {w = w} q n None t
    unasked None e = tt
    unasked (Some v) e = absurd e

    go : (o : Option (Access w)) → ExpectsAgain None n o t → ExpectsRead expected n o (before_last c k t)
        → ExpectsRead expected n o (found_after o c k t)
    go None e known = unasked expected known
    go (Some access) e known = elim (cases_Bool (is_get access.request.opcode)) [
      | inl get ↦ absurd (e.0 get)
      | inr other ↦ rw other known
    ]
beat-kept expected n c v s k t later known = known
