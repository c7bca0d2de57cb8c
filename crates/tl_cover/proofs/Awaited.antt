-- Whether the GrantAck of a block is pending, with whichever sink.
use Rattle.std.proofs.Common.{◌≡◌, ℕ, Bool, true, false, ◌==◌, ◌&&◌, List, [], ◌∷◌, refl, sym, ◌∙◌, arith, inl, inr}
use Rattle.std.specs.Prelude.{Option, Some, None}
use Rattle.std.proofs.lemmas.Bool.{cases_Bool}
use Rattle.tl_burst.specs.statement.Messages.{History}
use Rattle.tl_cover.proofs.Lists.{first_half}
use Rattle.tl_cover.specs.code.Past.{awaits, awaits_any}
use Rattle.tl_cover.specs.declared.acknowledged.Awaited.{Awaited}
use Rattle.tl_params.specs.declared.key.Key.TheVariants.{GrantAckOf}
use Rattle.tl_rules.proofs.Tables.{grant-begun}
use Rattle.tl_rules.specs.statement.History.{grant_sink, is_sink, pending}

same_number : (n : ℕ) → (n == n) ≡ true
same_number n = grind arith

any_found : (k : ℕ) (all : List Awaited) → awaits_any k all ≡ true → (s : ℕ) × (awaits k s all ≡ true)
any_found k [] e = absurd cc
any_found k (a ∷ all) e = elim (cases_Bool (a.block == k)) [
  | inl here ↦ (a.sink, rw (here, same_number a.sink) refl)
  | inr other ↦ let found = any_found k all (rw other at e) in (found.0, rw other found.1)
]

found_any : (k s : ℕ) (all : List Awaited) → awaits k s all ≡ true → awaits_any k all ≡ true
found_any k s [] e = absurd cc
found_any k s (a ∷ all) e = elim (cases_Bool (a.block == k)) [
  | inl here ↦ rw here refl
  | inr other ↦ rw other (found_any k s all (rw other at e))
]

same_bool : (p q : Bool) → (p ≡ true → q ≡ true) → (q ≡ true → p ≡ true) → p ≡ q
same_bool true true to from = refl
same_bool true false to from = sym (to refl)
same_bool false true to from = from refl
same_bool false false to from = refl

-- a block is among those that are awaited exactly if its GrantAck is pending
pub awaited_any : {w : ℕ} (k : ℕ) (all : List Awaited) (h : History w)
    → ((s : ℕ) → awaits k s all ≡ (pending (GrantAckOf k) h && is_sink s (grant_sink k h)))
    → awaits_any k all ≡ pending (GrantAckOf k) h
awaited_any k all h is =
    same_bool (awaits_any k all) (pending (GrantAckOf k) h)
    (λ e. let found = any_found k all e in first_half (pending (GrantAckOf k) h) (is_sink found.0 (grant_sink k h))
    (sym (is found.0) ∙ found.1))
    (λ p. granted (grant_sink k h) refl p)
  where
    granted : (g : Option ℕ) → grant_sink k h ≡ g → pending (GrantAckOf k) h ≡ true → awaits_any k all ≡ true
    granted None e p = absurd (grant-begun k h p e)
    granted (Some s) e p = found_any k s all (is s ∙ rw (p, e, same_number s) refl)
