-- The front of a header read from left to right, as the code goes; only private clauses cite this.
use Rattle.std.specs.Prelude.{ℕ, List, codes, Option, Some, None}
use Rattle.tl_params.specs.code.HeaderReading.{after_word}
use Rattle.tl_params.specs.declared.width.Width.{Width}
use Rattle.tl_params.specs.declared.width.Width.TheVariants.{Four, Eight, Sixteen}

abbrev pub with_sixteen : Option (List ℕ) → Option (Width × List ℕ)
with_sixteen None = None
with_sixteen (Some rest) = Some (Sixteen, rest)

abbrev pub with_eight : List ℕ → Option (List ℕ) → Option (Width × List ℕ)
with_eight line None = with_sixteen (after_word (codes "tltrace 4 16 ") line)
with_eight line (Some rest) = Some (Eight, rest)

abbrev pub with_four : List ℕ → Option (List ℕ) → Option (Width × List ℕ)
with_four line None = with_eight line (after_word (codes "tltrace 4 8 ") line)
with_four line (Some rest) = Some (Four, rest)

-- the front of a header of the fourth version
abbrev pub front_at : List ℕ → Option (Width × List ℕ)
front_at line = with_four line (after_word (codes "tltrace 4 4 ") line)
