-- The windows for writing that an access has had, and when the one began that is open.
use Rattle.tl_one_memory.proofs.Imports.{Beat, Link, Trace, is_free, windows_since}
use Rattle.std.proofs.Common.{◌≡◌, ℕ, suc, Bool, true, false, ◌&&◌, ◌+◌, ◌<◌, ◌≤◌, [], ◌∷◌, length, refl, ◌∙◌, arith}
use Rattle.std.proofs.Common.{inl, inr}
use Rattle.std.specs.Prelude.{if◌then◌else◌, nat_lt}
use Rattle.std.proofs.lemmas.Bool.{cases_order, lt-ltb}
use Rattle.tl_params.specs.declared.perm.Perm.{Perm}
use Rattle.tl_bytes.{specs.statement.Bytes.window_began, proofs.Since.since_more, proofs.Since.since_now}

-- a window that is open has begun
pub began_by_now : {w : ℕ} (n block asked : ℕ) (t : Trace w) → window_began n block asked t ≤ length t
unfolding window_began
began_by_now n block asked [] = omega arith
began_by_now n block asked (x ∷ t) = go (nat_lt asked (suc (length t)) && is_free n Perm.Trunk block t)
    (began_by_now n block asked t)
  where
    go : (b : Bool) → window_began n block asked t ≤ length t
        → (if b then window_began n block asked t else suc (length t)) ≤ suc (length t)
    go true le = omega (arith, le)
    go false le = omega arith

-- where the block is free the access has had a window
pub windowed-free : {w : ℕ} (n block asked : ℕ) (t : Trace w) → 0 < asked → asked ≤ length t
    → is_free n Perm.Trunk block t ≡ true → 0 < windows_since n block asked t
windowed-free n block asked [] pos le free = absurd (omega (arith, pos, le))
windowed-free {w} n block asked (x ∷ t) pos le free = elim (cases_order asked (suc (length t))) [
  | inl now ↦ let one : windows_since n block asked (x ∷ t) ≡ 1 = since_now n block asked x t now ∙ rw free refl in
      omega (arith, one)
  | inr other ↦ elim other [
    | inr late ↦ absurd (omega (arith, late, le))
    | inl early ↦
        let at : asked ≤ length t = omega (arith, early) in
        go (is_free n Perm.Trunk block t) refl at (windowed-free n block asked t pos at)
  ]
]
  where
    go : (b : Bool) → is_free n Perm.Trunk block t ≡ b → asked ≤ length t
        → (is_free n Perm.Trunk block t ≡ true → 0 < windows_since n block asked t)
        → 0 < windows_since n block asked (x ∷ t)
    go true was at before =
        let more : windows_since n block asked (x ∷ t) ≡ windows_since n block asked t + 0 =
        since_more n block asked x t at ∙ rw (free, was) refl in
        let some : 0 < windows_since n block asked t = before was in
        omega (arith, more, some)
    go false was at before =
        let more : windows_since n block asked (x ∷ t) ≡ windows_since n block asked t + 1 =
        since_more n block asked x t at ∙ rw (free, was) refl in
        omega (arith, more)

-- and it has had it from then on
pub windowed-more : {w : ℕ} (n block asked : ℕ) (x : Link × Beat w) (t : Trace w) → asked ≤ length t
    → 0 < windows_since n block asked t → 0 < windows_since n block asked (x ∷ t)
windowed-more n block asked x t le some =
    let more = since_more n block asked x t le in
    omega (arith, more, some)

-- the first window of an access that has had one, if it is open now, was open before
pub record IsOneStill {w : ℕ} (n block asked : ℕ) (x : Link × Beat w) (t : Trace w) : Type 0 where
  pub was_free : is_free n Perm.Trunk block t ≡ true
  pub was_one : windows_since n block asked t ≡ 1
  pub began_is : window_began n block asked (x ∷ t) ≡ window_began n block asked t

pub one-still : {w : ℕ} (n block asked : ℕ) (x : Link × Beat w) (t : Trace w) → asked ≤ length t
    → 0 < windows_since n block asked t → is_free n Perm.Trunk block (x ∷ t) ≡ true
    → windows_since n block asked (x ∷ t) ≡ 1 → IsOneStill n block asked x t
unfolding window_began
one-still n block asked x t le some free one = go (is_free n Perm.Trunk block t) refl
  where
    go : (b : Bool) → is_free n Perm.Trunk block t ≡ b → IsOneStill n block asked x t
    go true was = record {
      was_free = was;
      was_one =
          let more : windows_since n block asked (x ∷ t) ≡ windows_since n block asked t + 0 =
          since_more n block asked x t le ∙ rw (free, was) refl in omega (arith, more, one);
      began_is = rw (lt-ltb asked (suc (length t)) (omega (arith, le)), was) refl;
    }
    go false was =
        let more : windows_since n block asked (x ∷ t) ≡ windows_since n block asked t + 1 =
        since_more n block asked x t le ∙ rw (free, was) refl in
        absurd (omega (arith, more, one, some))
