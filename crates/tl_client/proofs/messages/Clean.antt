-- A clean message is one that says nothing where no beat carries it.
use Rattle.tl_client.proofs.Imports.{MessageA, A, beats_of, is_clean}
use Rattle.std.proofs.Common.{◌≡◌, ℕ, ◌-◌, ◌*◌, ◌^◌, Bool, true, false, eqb, ◌↔◌, List, [], ◌∷◌, drop, replicate, refl}
use Rattle.std.proofs.Common.{sym}
use Rattle.std.specs.Bool.{IsTrue}
use Rattle.std.proofs.lemmas.Bool.{and_parts, and_from, eqb-true, eq-eqb, ltb-true, lt-ltb, false_from_ne_true}
use Rattle.std.proofs.lemmas.Bool.{both_ways}
use Rattle.std.proofs.lemmas.Nat.{pow_pos}
use Rattle.tl_burst.specs.statement.Burst.{carried, IsBlankAfter}
use Rattle.tl_client.specs.statement.Ask.{same_bytes}

same_true : (xs ys : List ℕ) → same_bytes xs ys ≡ true → xs ≡ ys
same_true [] [] e = refl
same_true [] (y ∷ ys) e = absurd cc
same_true (x ∷ xs) [] e = absurd cc
same_true (x ∷ xs) (y ∷ ys) e =
    let parts = and_parts (eqb x y) (same_bytes xs ys) e in
    let first : x ≡ y = eqb-true x y parts.0 in
    let rest : xs ≡ ys = same_true xs ys parts.1 in
    cc

same_self : (xs : List ℕ) → same_bytes xs xs ≡ true
same_self [] = refl
same_self (x ∷ xs) = and_from (eqb x x) (same_bytes xs xs) (eq-eqb x x refl) (same_self xs)

from_blank : {w : ℕ} (m : MessageA w) → m.corrupt ≡ 0 → IsBlankAfter (beats_of (A m)) (A m) → is_clean m ≡ true
from_blank {w} m none blank =
    and_from (eqb m.corrupt 0) _ (eq-eqb m.corrupt 0 none)
    (and_from (same_bytes (drop (carried (A m)) m.payload) (replicate (64 - carried (A m)) 0)) _
    (rw blank.0 (same_self (replicate (64 - carried (A m)) 0)))
    (lt-ltb m.mask (2 ^ (w * beats_of (A m))) blank.1))

pub to_blank : {w : ℕ} (m : MessageA w) → m.corrupt ≡ 0 → is_clean m ≡ true → IsBlankAfter (beats_of (A m)) (A m)
to_blank {w} m none clean =
    let parts = and_parts (eqb m.corrupt 0) _ clean in
    let others = and_parts (same_bytes (drop (carried (A m)) m.payload) (replicate (64 - carried (A m)) 0)) _ parts.1 in
    (same_true _ _ others.0, ltb-true m.mask (2 ^ (w * beats_of (A m))) others.1, rw none (pow_pos (beats_of (A m))))

pub is_clean-from_blank : {w : ℕ} (m : MessageA w) (b : Bool) → m.corrupt ≡ 0
    → (IsTrue b ↔ IsBlankAfter (beats_of (A m)) (A m)) → b ≡ is_clean m
is_clean-from_blank m true none blank = sym (from_blank m none (blank.0 refl))
is_clean-from_blank m false none blank =
    sym (false_from_ne_true (is_clean m) (λ clean. both_ways false refl (blank.1 (to_blank m none clean))))
