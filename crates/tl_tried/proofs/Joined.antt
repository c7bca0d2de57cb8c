-- Texts that are appended one after another.
use Rattle.std.proofs.Common.{◌≡◌, List, ◌++◌, append_assoc, refl, ap, ◌∙◌}

module _ {X : Type 0} (o a b c p q r : List X) where
  pub joined : p ≡ o ++ a → q ≡ p ++ b → r ≡ q ++ c → r ≡ o ++ (a ++ (b ++ c))
  joined first second third = rw (third, second, first, append_assoc (o ++ a) b c, append_assoc o a (b ++ c)) refl

-- the second of them has two parts
pub joined_four : {X : Type 0} (o a b c d p q r : List X) → p ≡ o ++ a → q ≡ p ++ (b ++ c) → r ≡ q ++ d
    → r ≡ o ++ (a ++ (b ++ (c ++ d)))
joined_four o a b c d p q r first second third =
    joined o a (b ++ c) d p q r first second third ∙ ap (λ (x : List _). o ++ (a ++ x)) (append_assoc b c d)
