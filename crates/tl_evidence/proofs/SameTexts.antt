-- Texts about bytes, by tests that agree.
use Rattle.std.proofs.Common.{◌≡◌, ◌≤◌, ◌<◌, ◌+◌, ℕ, zero, suc, Bool, true, false, List, [], ◌∷◌, length, refl, arith, Option}
use Rattle.std.specs.Prelude.{⊤}
use Rattle.tl_witness.specs.statement.Naming.{Naming}
use Rattle.tl_witness.specs.statement.Strays.{stray_line, strays_text, values_text}

-- each value of a byte has this property
abbrev pub HoldsOfBytes : (ℕ → Type 0) → Type 0
HoldsOfBytes P = (v : ℕ) → v < 256 → P v

-- each of these has it
unfoldable pub AreAll : (ℕ → Type 0) → List ℕ → Type 0
AreAll P [] = ⊤
AreAll P (v ∷ lanes) = P v × AreAll P lanes

-- any have none in particular
pub any-all : (lanes : List ℕ) → AreAll (λ _. ⊤) lanes
unfolding AreAll
any-all [] = tt
any-all (v ∷ lanes) = (tt, any-all lanes)

-- the tests agree about values that have it, and what was told about each value of a byte
abbrev pub Agree : (ℕ → Type 0) → (ℕ → Bool) → (ℕ → Bool) → (ℕ → Option ℕ) → (ℕ → Option ℕ) → Type 0
Agree P one other told heard = ((v : ℕ) → P v → one v ≡ other v) × ((v : ℕ) → v < 256 → told v ≡ heard v)

module _ (names : Naming) (P : ℕ → Type 0) (bytes : HoldsOfBytes P) where
  values-same : (one other : ℕ → Bool) (told heard : ℕ → Option ℕ) (any : Bool) (n v : ℕ) → v + n ≤ 256
      → Agree P one other told heard
      → values_text names one told any n v ≡ values_text names other heard any n v
  unfolding values_text
  values-same one other told heard any zero v room same = refl
  values-same one other told heard any (suc n) v room same =
      let small : v < 256 = omega (arith, room) in
      let left : v + 1 + n ≤ 256 = omega (arith, room) in
      rw (
        same.0 v (bytes v small),
        same.1 v small,
        values-same one other told heard true n (v + 1) left same,
        values-same one other told heard any n (v + 1) left same,
      ) refl

  -- all that a byte may be
  pub all-same : (one other : ℕ → Bool) (told heard : ℕ → Option ℕ) → Agree P one other told heard
      → values_text names one told false 256 0 ≡ values_text names other heard false 256 0
  all-same one other told heard same = values-same one other told heard false 256 0 (omega arith) same

  line-same : (address v : ℕ) (one other : ℕ → Bool) (told heard : ℕ → Option ℕ) → Agree P one other told heard
      → stray_line names address v one told ≡ stray_line names address v other heard
  unfolding stray_line
  line-same address v one other told heard same = rw (all-same one other told heard same) refl

  pub strays-same : (one other : ℕ → ℕ → Bool) (told heard : ℕ → ℕ → Option ℕ) (n from : ℕ) (lanes : List ℕ)
      → AreAll P lanes
      → ((i : ℕ) → from ≤ i → i < from + length lanes → Agree P (one i) (other i) (told i) (heard i))
      → strays_text names one told n from lanes ≡ strays_text names other heard n from lanes
  unfolding strays_text AreAll
  strays-same one other told heard n from [] all agree = refl
  strays-same one other told heard n from (v ∷ lanes) all agree =
      let here = agree from (omega arith) (omega arith) in
      let more = λ (i : ℕ) (low : from + 1 ≤ i) (high : i < from + 1 + length lanes).
      agree i (omega (arith, low)) (omega (arith, high)) in
      rw (
        here.0 v all.0,
        line-same from v (one from) (other from) (told from) (heard from) here,
        strays-same one other told heard n (from + 1) lanes all.1 more,
        strays-same one other told heard (n + 1) (from + 1) lanes all.1 more,
      ) refl
