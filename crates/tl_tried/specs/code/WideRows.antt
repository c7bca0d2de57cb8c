-- The rows of a wide trace, as they follow those of its parts.
use Rattle.std.specs.Option.{option_and, option_or}
use Rattle.std.specs.Prelude.{ℕ, Some}
use Rattle.tl_cover.specs.declared.row.Row.{Row}

-- a row that came first in this line, if it came
abbrev pub first_in : ℕ → Row → Row
first_in line r = record { situation = r.situation; count = r.count; first = option_and r.first (Some line) }

-- a row with the count of another; if it hasn't come before and the other has, it came first in this line
abbrev pub followed : ℕ → Row → Row → Row
followed line seen r = record {
  situation = seen.situation;
  count = r.count;
  first = option_or seen.first (option_and r.first (Some line));
}
