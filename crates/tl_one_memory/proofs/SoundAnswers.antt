-- An answer without a corrupt or denied beat brings what was found.
use Rattle.tl_one_memory.proofs.Imports.{Beat, BeatD, carried_byte}
use Rattle.std.proofs.Common.{◌⊎◌, ◌/◌, length, ◌≡◌, ℕ, Bool, true, false, List, [], ◌∷◌, inl, inr, refl, sym, ◌∙◌}
use Rattle.std.specs.Prelude.{if◌then◌else◌, find, is_some, Some, ◌==◌, ◌||◌}
use Rattle.tl_rules.specs.statement.{Admission.is_spoiled}
use Rattle.tl_one_memory.specs.statement.Run.{spoiled_at}

-- an answer without a corrupt or denied beat isn't denied
pub sound-granted : {w : ℕ} (z : BeatD w) (older : List (Beat w)) → is_some (find is_spoiled (Beat.D z ∷ older)) ≡ false
    → z.denied ≡ false
sound-granted {w} z older e = go z.corrupt z.denied e
  where
    go : (a b : Bool) → is_some (if a || b then Some (Beat.D z) else find is_spoiled older) ≡ false → b ≡ false
    go true b e = absurd cc
    go false true e = absurd cc
    go false false e = refl

-- no place of it is that of such a beat
sound-at : {w : ℕ} (burst : List (Beat w)) (p : ℕ) → is_some (find is_spoiled burst) ≡ false
    → spoiled_at burst p ≡ false
sound-at [] p e = refl
sound-at {w} (x ∷ older) p e = go (is_spoiled x) refl e (p / w == length older) (sound-at older p)
  where
    go : (a : Bool) → is_spoiled x ≡ a → is_some (if a then Some x else find is_spoiled older) ≡ false → (b : Bool)
        → (is_some (find is_spoiled older) ≡ false → spoiled_at older p ≡ false)
        → (if b then is_spoiled x else spoiled_at older p) ≡ false
    go true f e b rest = absurd cc
    go false f e true rest = f
    go false f e false rest = rest e

-- what it brings at a place is what was found
pub sound-carried : {w : ℕ} (burst : List (Beat w)) (p v : ℕ) → is_some (find is_spoiled burst) ≡ false
    → (spoiled_at burst p ≡ true) ⊎ (carried_byte burst p ≡ Some v) → carried_byte burst p ≡ Some v
sound-carried burst p v sound (inr is) = is
sound-carried burst p v sound (inl spoilt) = absurd (let no : true ≡ false = sym spoilt ∙ sound-at burst p sound in cc)
