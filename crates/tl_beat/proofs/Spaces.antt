-- The first place that passes a test, as `position` gives it.
use Rattle.std.proofs.Common.{◌≡◌, ℕ, ◌+◌, Bool, true, false, cond, ltb, List, [], length, sym, arith, inl, inr}
use Rattle.std.specs.Prelude.{Some, None, position}
use Rattle.std.specs.List.{position_or_len, after_first}
use Rattle.std.proofs.lemmas.Bool.{cases_lt, lt-ltb}
use Rattle.std.proofs.lemmas.List.{drop_all}

module _ (p : ℕ → Bool) where
  some_place : (b : Bool) (n i : ℕ) → cond b (Some n) None ≡ Some i → i ≡ n
  some_place true n i e = cc
  some_place false n i e = absurd cc

  pub position_some : (xs : List ℕ) (i : ℕ) → position p xs ≡ Some i → i ≡ position_or_len p xs
  position_some xs i e = some_place (ltb (position_or_len p xs) (length xs)) (position_or_len p xs) i e

  pub nothing_after : (xs : List ℕ) → position p xs ≡ None → [] ≡ after_first p xs
  nothing_after xs e = elim (cases_lt (position_or_len p xs) (length xs)) [
    | inl lt ↦ absurd (let none = rw (lt-ltb (position_or_len p xs) (length xs) lt) at e in cc)
    | inr past ↦ sym (drop_all (position_or_len p xs + 1) xs (omega arith))
  ]
