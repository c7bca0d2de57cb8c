-- Texts of numbered things, one after another.
use Rattle.std.specs.Prelude.{ℕ, zero, suc, ◌+◌, ◌++◌, List, [], ◌∷◌}

-- the texts of these elements one after another, by number and element; the first has this number
unfoldable pub numbered : {X : Type 0} → (ℕ → X → List ℕ) → ℕ → List X → List ℕ
numbered text i [] = []
numbered text i (x ∷ xs) = text i x ++ numbered text (i + 1) xs

-- the texts of so many numbers one after another; this is the first
unfoldable pub from_number : (ℕ → List ℕ) → ℕ → ℕ → List ℕ
from_number text i zero = []
from_number text i (suc n) = text i ++ from_number text (i + 1) n
