-- Bytes replaced if a mask says so.
use Rattle.std.specs.Prelude.{ℕ, ◌+◌, List, [], ◌∷◌, if◌then◌else◌}
use Rattle.tl_burst.specs.statement.Burst.{bit}

-- the old bytes from place i on, with the new one if the mask has the bit of its place
abbrev pub merged : ℕ → ℕ → List ℕ → List ℕ → List ℕ
merged mask i [] news = []
merged mask i (old ∷ olds) [] = old ∷ olds
merged mask i (old ∷ olds) (new ∷ news) = (if bit mask i then new else old) ∷ merged mask (i + 1) olds news
