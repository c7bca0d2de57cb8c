-- Choices and tests that are the same on two sides, and what passes tests in lists.
use Rattle.std.proofs.Common.{◌≡◌, Bool, true, false, ◌&&◌, List, [], ◌∷◌, map, refl, ap, ◌∙◌}
use Rattle.std.specs.Prelude.{filter, find, if◌then◌else◌, is_some, Option, Some, option_map}

pub both-chosen : {X : Type 0} {b c : Bool} {u v y z : X} → b ≡ c → u ≡ v → y ≡ z
    → (if b then u else y) ≡ (if c then v else z)
both-chosen {X} {b} {c} {u} {v} {y} {z} e f g = ap (λ t. if t then u else y) e ∙ go c
  where
    go : (t : Bool) → (if t then u else y) ≡ (if t then v else z)
    go true = f
    go false = g

-- where the second test counts only if the first holds
pub both-hold : (a b c d : Bool) → a ≡ b → (b ≡ true → c ≡ d) → (a && c) ≡ (b && d)
both-hold a true c d e f = rw e (f refl)
both-hold a false c d e f = rw e refl

pub one-found : {X Y : Type 0} (b c : Bool) (x : X) (y : Y) (rest : Option X) (others : Option Y) → b ≡ c
    → is_some rest ≡ is_some others → is_some (if b then Some x else rest) ≡ is_some (if c then Some y else others)
one-found b true x y rest others e f = rw e refl
one-found b false x y rest others e f = rw e f

-- ---- lists

module _ {X Y : Type 0} (f : X → Y) (p : X → Bool) (q : Y → Bool) (same : (x : X) → q (f x) ≡ p x) where
  pub filter-kept : (xs : List X) → filter q (map f xs) ≡ map f (filter p xs)
  filter-kept [] = refl
  filter-kept (x ∷ xs) = rw (same x, filter-kept xs) (go (p x))
    where
      go : (b : Bool) → (if b then f x ∷ map f (filter p xs) else map f (filter p xs))
          ≡ map f (if b then x ∷ filter p xs else filter p xs)
      go true = refl
      go false = refl

  pub find-kept : (xs : List X) → find q (map f xs) ≡ option_map f (find p xs)
  find-kept [] = refl
  find-kept (x ∷ xs) = rw (same x, find-kept xs) (go (p x))
    where
      go : (b : Bool) → (if b then Some (f x) else option_map f (find p xs))
          ≡ option_map f (if b then Some x else find p xs)
      go true = refl
      go false = refl
