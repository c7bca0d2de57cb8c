-- Which beats are kept, and that a burst is kept whole or not at all.
use Rattle.tl_keys.proofs.Imports.{Beat, A, B, C, D, E, Channel, History, channel_of, unfinished, completes, is_empty}
use Rattle.tl_keys.proofs.Imports.{begins, ends, Name, is_kept, names, restricted}
use Rattle.std.proofs.Common.{◌≡◌, ◌⊎◌, ℕ, Bool, true, false, not, List, [], ◌∷◌, refl, ap, inl, inr, subst}
use Rattle.std.specs.Prelude.{if◌then◌else◌}
use Rattle.tl_burst.specs.statement.Messages.{grown, on}

-- ---- a burst and what is kept of it

-- with one more beat on its channel: all of the burst is kept, or nothing
burst-step : {w : ℕ} (x : Beat w) (u v : List (Beat w)) (named kept : Bool) → (v ≡ u) ⊎ (v ≡ [])
    → kept ≡ (if is_empty u then named else not (is_empty v))
    → ((if kept then grown x v else v) ≡ grown x u) ⊎ ((if kept then grown x v else v) ≡ [])
burst-step x [] [] named true either e = inl refl
burst-step x [] [] named false either e = inr refl
burst-step x [] (z ∷ v) named kept (inl same) e = absurd cc
burst-step x [] (z ∷ v) named kept (inr none) e = absurd cc
burst-step x (y ∷ u) [] named kept either e = inr (rw e refl)
burst-step x (y ∷ u) (z ∷ v) named kept (inl same) e = inl (rw e (ap (grown x) same))
burst-step x (y ∷ u) (z ∷ v) named kept (inr none) e = absurd cc

-- a beat that is kept has all of its burst before it
whole-before : {w : ℕ} (u v : List (Beat w)) (named : Bool) → (v ≡ u) ⊎ (v ≡ [])
    → (if is_empty u then named else not (is_empty v)) ≡ true → v ≡ u
whole-before u v named (inl same) e = same
whole-before [] v named (inr none) e = none
whole-before (y ∷ u) [] named (inr none) e = absurd cc
whole-before (y ∷ u) (z ∷ v) named (inr none) e = absurd cc

-- one that isn't kept has nothing of it
none-kept : {w : ℕ} (u v : List (Beat w)) (named : Bool) → (v ≡ u) ⊎ (v ≡ [])
    → (if is_empty u then named else not (is_empty v)) ≡ false → v ≡ []
none-kept u v named (inr none) e = none
none-kept [] v named (inl same) e = same
none-kept (y ∷ u) [] named (inl same) e = refl
none-kept (y ∷ u) (z ∷ v) named (inl same) e = absurd cc

pub own-channel : {w : ℕ} (ch : Channel) (x : Beat w) → on ch x ≡ true → channel_of x ≡ ch
own-channel Channel.A (A x) e = refl
own-channel Channel.B (B x) e = refl
own-channel Channel.C (C x) e = refl
own-channel Channel.D (D x) e = refl
own-channel Channel.E (E x) e = refl
own-channel v u e = absurd cc

-- ---- histories

-- what is unfinished of the kept beats with one more, which is on the channel or isn't, and is kept or isn't
pub kept-step : {w : ℕ} (ch : Channel) (x : Beat w) (r : History w) (kept : Bool)
    → unfinished ch (if kept then x ∷ r else r)
    ≡ (if on ch x then (if kept then grown x (unfinished ch r) else unfinished ch r) else unfinished ch r)
unfolding unfinished
kept-step ch x r true = refl
kept-step ch x r false = same (on ch x)
  where
    same : (b : Bool) → unfinished ch r ≡ (if b then unfinished ch r else unfinished ch r)
    same true = refl
    same false = refl

module _ {w : ℕ} (n : Name) where
  pub whole-or-none : (ch : Channel) (t : History w)
      → (unfinished ch (restricted n t) ≡ unfinished ch t) ⊎ (unfinished ch (restricted n t) ≡ [])
  unfolding unfinished restricted
  whole-or-none ch [] = inl refl
  whole-or-none ch (x ∷ t) = go (whole-or-none ch t) (on ch x) refl
    where
      r : History w
      r = restricted n t

      kept : Bool
      kept = is_kept n x t r

      go : (unfinished ch r ≡ unfinished ch t) ⊎ (unfinished ch r ≡ []) → (b : Bool) → on ch x ≡ b
          → (unfinished ch (if kept then x ∷ r else r) ≡
          (if on ch x then grown x (unfinished ch t) else unfinished ch t))
          ⊎ (unfinished ch (if kept then x ∷ r else r) ≡ [])
      go before false e = rw (kept-step ch x r kept, e) before
      go before true e =
          rw (kept-step ch x r kept, e) (burst-step x (unfinished ch t) (unfinished ch r) (names n x t) kept before
          (subst (λ (c : Channel). kept ≡ (if is_empty (unfinished c t) then names n x t else not
          (is_empty (unfinished c r)))) (own-channel ch x e) refl))

  -- a beat that is kept begins, and ends, a message of the kept beats exactly if it does of all
  pub same-burst : (x : Beat w) (t : History w) → is_kept n x t (restricted n t) ≡ true
      → unfinished (channel_of x) (restricted n t) ≡ unfinished (channel_of x) t
  same-burst x t kept = whole-before (unfinished (channel_of x) t) (unfinished (channel_of x) (restricted n t))
      (names n x t) (whole-or-none (channel_of x) t) kept

  -- of one that isn't kept, no beat of its burst is
  pub dropped : (x : Beat w) (t : History w) → is_kept n x t (restricted n t) ≡ false
      → unfinished (channel_of x) (restricted n t) ≡ []
  dropped x t out = none-kept (unfinished (channel_of x) t) (unfinished (channel_of x) (restricted n t)) (names n x t)
      (whole-or-none (channel_of x) t) out

  pub same-begins : (x : Beat w) (t : History w) → is_kept n x t (restricted n t) ≡ true
      → begins x (restricted n t) ≡ begins x t
  same-begins x t kept = ap is_empty (same-burst x t kept)

  pub same-ends : (x : Beat w) (t : History w) → is_kept n x t (restricted n t) ≡ true
      → ends x (restricted n t) ≡ ends x t
  same-ends x t kept = ap (completes x) (same-burst x t kept)
