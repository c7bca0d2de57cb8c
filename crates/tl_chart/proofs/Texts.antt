-- Texts that are appended one behind another.
use Rattle.std.proofs.Common.{◌≡◌, ℕ, List, ◌++◌, append_assoc, ap, sym, ◌∙◌}

-- two numbers, each behind a word, behind another text
pub two_joined : (o one two a b c d : List ℕ) → one ≡ o ++ (a ++ b) → two ≡ one ++ (c ++ d)
    → two ≡ o ++ (((a ++ b) ++ c) ++ d)
two_joined o one two a b c d first second =
    second ∙ ap (λ (z : List ℕ). z ++ (c ++ d)) first ∙ append_assoc o (a ++ b) (c ++ d)
    ∙ ap (λ (z : List ℕ). o ++ z) (sym (append_assoc (a ++ b) c d))
