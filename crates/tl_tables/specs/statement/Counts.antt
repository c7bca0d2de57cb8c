-- Counts of bins, each of which may be missing.
use Rattle.std.specs.Prelude.{ℕ, ◌+◌, List, [], ◌∷◌, if◌then◌else◌, Option, Some, None, length, slice_get, unwrap_or}
use Rattle.std.specs.Str.{bytes_eq}
use Rattle.tl_cover.specs.declared.situation.Situation.{Situation}
use Rattle.tl_cover.specs.statement.Bins.{all_bins}
use Rattle.tl_cover.specs.statement.Names.{name}

-- the sum of two counts; a count that is missing adds nothing
abbrev pub cell_sum : Option ℕ → Option ℕ → Option ℕ
cell_sum None other = other
cell_sum (Some n) None = Some n
cell_sum (Some n) (Some m) = Some (n + m)

-- the number of all bins
unfoldable pub bin_count : ℕ
bin_count = length all_bins

-- the count at this place, if there is one
abbrev pub cell_at : List (Option ℕ) → ℕ → Option ℕ
cell_at counts place = unwrap_or (slice_get counts place) None

-- the place of the bin of this name among these, the first of which has this place; None if no bin has the name
abbrev pub place_from : ℕ → List ℕ → List Situation → Option ℕ
place_from i named [] = None
place_from i named (bin ∷ bins) = if bytes_eq (name bin) named then Some i else place_from (i + 1) named bins

-- the place of a bin among all bins, by its name
abbrev pub place_of : Situation → Option ℕ
place_of s = place_from 0 (name s) all_bins

-- a sum with the count at a place, if there is a place
abbrev pub with_count : List (Option ℕ) → Option ℕ → Option ℕ → Option ℕ
with_count counts sum None = sum
with_count counts sum (Some place) = cell_sum sum (cell_at counts place)

-- a sum with the counts of these bins, by those of all bins; a situation that isn't a bin adds nothing
abbrev pub sum_of : List (Option ℕ) → Option ℕ → List Situation → Option ℕ
sum_of counts sum [] = sum
sum_of counts sum (s ∷ bins) = sum_of counts (with_count counts sum (place_of s)) bins
