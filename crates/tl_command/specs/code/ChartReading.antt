-- The parts of a word that names lines; only private clauses cite this.
use Rattle.std.specs.Prelude.{◌≡◌, ◌≤◌, ◌<◌, ◌==◌, ℕ, List, length}
use Rattle.std.specs.List.{after_first, before_first, position_or_len}

-- the parts of a word before its first dash and after it
pub record AreParts (word front back : List ℕ) : Type 0 where
  pub dash : position_or_len (λ c. c == 45) word < length word
  pub front_is : front ≡ before_first (λ c. c == 45) word
  pub back_is : back ≡ after_first (λ c. c == 45) word

-- the one is from 1 on and not above the other
pub record AreOrdered (first last : ℕ) : Type 0 where
  pub from_one : 1 ≤ first
  pub in_order : first ≤ last
