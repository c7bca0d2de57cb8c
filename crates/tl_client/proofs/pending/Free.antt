-- The least source that is free, step by step.
use Rattle.std.proofs.Common.{◌≡◌, ℕ, zero, suc, ◌+◌, ◌<◌, Bool, true, false, cond, Some, None, refl, arith}
use Rattle.std.specs.Prelude.{is_none}
use Rattle.tl_client.specs.statement.Ask.{least_free, source_or_0}

pub free_later : (taken : ℕ → Bool) (s n k : ℕ) → n ≡ suc k → taken s ≡ true
    → least_free taken s n ≡ least_free taken (s + 1) k
unfolding least_free
free_later taken s n k e t = rw (e, t) refl

pub free_here : (taken : ℕ → Bool) (s n k : ℕ) → n ≡ suc k → taken s ≡ false → least_free taken s n ≡ Some s
unfolding least_free
free_here taken s n k e t = rw (e, t) refl

pub free_nowhere : (taken : ℕ → Bool) (s n : ℕ) → n ≡ 0 → least_free taken s n ≡ None
unfolding least_free
free_nowhere taken s n e = rw e refl

-- it is one of the numbers, and it is free
pub least_free-some : (taken : ℕ → Bool) (s n : ℕ) → is_none (least_free taken s n) ≡ false
    → (taken (source_or_0 (least_free taken s n)) ≡ false) × (source_or_0 (least_free taken s n) < s + n)
unfolding least_free
least_free-some taken s zero e = absurd cc
least_free-some taken s (suc n) e = go (taken s) refl (least_free-some taken (s + 1) n) e
  where
    go : (b : Bool) → taken s ≡ b
        → (is_none (least_free taken (s + 1) n) ≡ false → (taken (source_or_0 (least_free taken (s + 1) n)) ≡ false)
        × (source_or_0 (least_free taken (s + 1) n) < s + 1 + n))
        → is_none (cond b (least_free taken (s + 1) n) (Some s)) ≡ false
        → (taken (source_or_0 (cond b (least_free taken (s + 1) n) (Some s))) ≡ false)
        × (source_or_0 (cond b (least_free taken (s + 1) n) (Some s)) < s + suc n)
    go true is later some = let p = later some in (p.0, let q = p.1 in omega arith)
    go false is later some = (is, omega arith)
