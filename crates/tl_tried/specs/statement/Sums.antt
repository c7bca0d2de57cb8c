-- The counts of each situation over several traces, and its first place.
use Rattle.std.specs.Prelude.{ℕ, ◌+◌, List, [], ◌∷◌, map, Option, option_map}
use Rattle.std.specs.Option.{option_or}
use Rattle.tl_cover.specs.declared.row.Row.{Row}
use Rattle.tl_tried.specs.declared.sum.Place.{Place}
use Rattle.tl_tried.specs.declared.sum.Sum.{Sum}
use Rattle.tl_tables.specs.statement.Counts.{cell_sum}
use Rattle.tl_tried.specs.declared.tried.Tried.{Tried}

-- the first place of a situation in the trace with this number
abbrev pub place_of : ℕ → Row → Option Place
place_of i r = option_map (λ line. record { trace = i; line = line }) r.first

-- the sum of a situation after its first trace, which has this number
abbrev pub sum_of : ℕ → Row → Sum
sum_of i r = record { situation = r.situation; count = r.count; first = place_of i r }

-- the sum of a situation with its count in the trace with this number
abbrev pub added : ℕ → Sum → Row → Sum
added i s r = record { situation = s.situation; count = s.count + r.count; first = option_or s.first (place_of i r) }

-- each of xs with the one of ys at its place; those of ys beyond the end of xs are new, and those of xs beyond the end
-- of ys stay
abbrev pub with_each : {X Y : Type 0} → (X → Y → X) → (Y → X) → List X → List Y → List X
with_each add new [] ys = map new ys
with_each add new (x ∷ xs) [] = x ∷ xs
with_each add new (x ∷ xs) (y ∷ ys) = add x y ∷ with_each add new xs ys

-- the sums of earlier traces with the counts of the trace with this number
abbrev pub with_trace : ℕ → List Sum → List Row → List Sum
with_trace i = with_each (added i) (sum_of i)

-- the counts of all bins on all links over earlier traces with those of one more
abbrev pub with_cells : List (Option ℕ) → List (Option ℕ) → List (Option ℕ)
with_cells = with_each cell_sum (λ cell. cell)

-- the same with these traces
unfoldable pub cells_from : List (Option ℕ) → List Tried → List (Option ℕ)
cells_from sums [] = sums
cells_from sums (tried ∷ all) = cells_from (with_cells sums tried.cells.items) all

-- the counts of all bins on all links over all these traces
abbrev pub cells_of : List Tried → List (Option ℕ)
cells_of all = cells_from [] all

-- the same with these traces, the first of which has this number
unfoldable pub sums_from : ℕ → List Sum → List Tried → List Sum
sums_from i sums [] = sums
sums_from i sums (tried ∷ all) = sums_from (i + 1) (with_trace i sums tried.rows.items) all

-- the sums of all these traces, numbered from 0
abbrev pub sums_of : List Tried → List Sum
sums_of all = sums_from 0 [] all
