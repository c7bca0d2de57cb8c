-- Lists of which each element has a property.
use Rattle.std.proofs.Common.{◌≡◌, ℕ, zero, suc, ◌+◌, Bool, true, false, cond, List, [], ◌∷◌, ◌++◌, map, refl}
use Rattle.std.specs.Prelude.{filter}
use Rattle.tl_manager.{specs.statement.Holders.clients_from, specs.code.Kept.Each}

pub each_filter : {X : Type 0} (P : X → Type 0) (test : X → Bool) (xs : List X) → Each P xs → Each P (filter test xs)
each_filter P test [] each = tt
each_filter {X} P test (x ∷ xs) each = go (test x) each.0 (each_filter P test xs each.1)
  where
    go : (b : Bool) → P x → Each P (filter test xs) → Each P (cond b (x ∷ filter test xs) (filter test xs))
    go true p rest = (p, rest)
    go false p rest = rest

pub each_append : {X : Type 0} (P : X → Type 0) (xs ys : List X) → Each P xs → Each P ys → Each P (xs ++ ys)
each_append P [] ys each others = others
each_append P (x ∷ xs) ys each others = (each.0, each_append P xs ys each.1 others)

pub each_map : {X Y : Type 0} (P : X → Type 0) (Q : Y → Type 0) (f : X → Y) (xs : List X) → ((x : X) → P x → Q (f x))
    → Each P xs → Each Q (map f xs)
each_map P Q f [] step each = tt
each_map P Q f (x ∷ xs) step each = (step x each.0, each_map P Q f xs step each.1)

-- the clients that pass a test
pub each_client : (n first : ℕ) (test : ℕ → Bool) → Each (λ client. test client ≡ true) (clients_from first n test)
unfolding clients_from
each_client zero first test = tt
each_client (suc n) first test = go (test first) refl (each_client n (first + 1) test)
  where
    go : (b : Bool) → test first ≡ b → Each (λ client. test client ≡ true) (clients_from (first + 1) n test)
        → Each (λ client. test client ≡ true)
        (cond b (first ∷ clients_from (first + 1) n test) (clients_from (first + 1) n test))
    go true e rest = (e, rest)
    go false e rest = rest

pub each_weaker : {X : Type 0} (P Q : X → Type 0) (xs : List X) → ((x : X) → P x → Q x) → Each P xs → Each Q xs
each_weaker P Q [] step each = tt
each_weaker P Q (x ∷ xs) step each = (step x each.0, each_weaker P Q xs step each.1)

-- ---- tests
