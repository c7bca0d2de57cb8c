-- The mask of a message, beat by beat.
use Rattle.tl_memory.{proofs.Imports.Beat, proofs.Imports.BeatA, proofs.Imports.IsWidth}
use Rattle.tl_memory.{specs.declared.message.CarriedMessage.CarriedMessage, specs.statement.Known.KnowsMessage}
use Rattle.std.proofs.Common.{◌≡◌, ℕ, suc, true, false, ◌+◌, ◌*◌, ◌<◌, ◌≤◌, ◌^◌, ◌%◌, List, [], ◌∷◌, refl, ap, ◌∙◌}
use Rattle.std.proofs.Common.{arith, length, inl, inr, pow_pos, Bool, ◌||◌}
use Rattle.std.specs.Prelude.{if◌then◌else◌, is_some, Option, Some}
use Rattle.std.{proofs.Math.Nat.mod-eq_of_lt, proofs.lemmas.Nat.shl_whole}
use Rattle.tl_burst.proofs.Bits.{mask_below, mask_fits}
use Rattle.tl_bytes.specs.statement.Bytes.{carried_mask}

-- the mask of a beat, shifted to its place and added
pub added : (w i m b r from : ℕ) → r ≡ b → from ≡ w * i → m < 2 ^ (w * i) → b < 2 ^ w → w * i + w ≤ 64
    → (m + r * 2 ^ from % 2 ^ 64) % 2 ^ 64 ≡ m + b * 2 ^ (w * i)
added w i m b r from e at low small le =
    rw at
    (mod-eq_of_lt (mask_fits w i m b r e low small le)
    ∙ ap (λ n. m + n) (ap (λ n. n * 2 ^ (w * i) % 2 ^ 64) e ∙ shl_whole b w (w * i) 64 small (omega arith)))

-- it is still below what so many beats have
pub added_below : (w i m b : ℕ) → m < 2 ^ (w * i) → b < 2 ^ w → w * i + w ≤ 64 → m + b * 2 ^ (w * i) < 2 ^ (w * suc i)
added_below w i m b low small le =
    let whole = shl_whole b w (w * i) 64 small (omega arith) in
    let more : w * suc i ≡ w * (i + 1) = omega arith in
    rw (more, ← whole) (mask_below w i m b b refl low small le)

pub positive : (k : ℕ) → 0 < 2 ^ k
positive k = omega (arith, pow_pos k)

-- a block has room for 16 beats at most
pub few : (w n : ℕ) → IsWidth w → w * n + w ≤ 64 → n < 16
few w n (inl e) le = omega (arith, e, ap (λ k. k * n + k) e, le)
few w n (inr (inl e)) le = omega (arith, e, ap (λ k. k * n + k) e, le)
few w n (inr (inr e)) le = omega (arith, e, ap (λ k. k * n + k) e, le)

-- beats of other channels have no mask
pub no_mask : {w : ℕ} (x : Beat w) (burst : List (Beat w)) → ((y : BeatA w) → x ≡ Beat.A y → ⊥)
    → 0 ≡ carried_mask (x ∷ burst)
unfolding carried_mask
no_mask (Beat.A y) burst other = absurd (other y refl)
no_mask v burst other = refl

pub one_more : {X : Type 0} (one : Bool) (x : X) (o : Option X)
    → (one || is_some o) ≡ is_some (if one then Some x else o)
one_more true x o = refl
one_more false x o = refl

-- a message that no beat brought has brought nothing
pub none_brought : {w : ℕ} (m : CarriedMessage) (burst : List (Beat w)) → KnowsMessage m burst → length burst ≡ 0
    → KnowsMessage {w = w} m []
none_brought m [] k none = k
none_brought m (x ∷ burst) k none = absurd (omega (arith, none))
