-- The state of a table of numbers.
use Rattle.std.specs.Prelude.{ℕ, ◌≡◌, ◌==◌, ◌&&◌, Bool, true, false}
use Rattle.std.specs.Prelude.{if◌then◌else◌, List, length, Option, Some, None, Result, Ok, Err, nat_lt, slice_index_or, bit_and, [], map}
use Rattle.std.specs.BTreeMap.{BTreeMap, is_at}
use Rattle.std.specs.Map.{lookup}
use Rattle.std.specs.Ordering.{nat_cmp}
use Rattle.tl_rules.specs.statement.Legality.{is_one_of}
use Rattle.tl_wide.specs.declared.numbers.Numbers.{Numbers}
use Rattle.tl_wide.specs.declared.places.Places.{Places}
use Rattle.tl_wide.specs.statement.Naming.{place_in, with_number}

-- the number under a name in these entries
abbrev pub place_found : List (ℕ × ℕ) → ℕ → Option ℕ
place_found entries k = lookup (is_at (nat_cmp k)) entries

-- the entries of one of some trees, none if there is no such tree
abbrev pub tree_at : List (BTreeMap ℕ ℕ) → ℕ → List (ℕ × ℕ)
tree_at trees i = slice_index_or (map (λ m. m.entries) trees) i []

-- the number under a name, in the tree of its low bits
abbrev pub place_under : Places → ℕ → Option ℕ
place_under places k = place_found (tree_at places.trees.items (bit_and k places.low)) k

-- the number of a name in the table
abbrev pub found_in : Numbers → ℕ → Option ℕ
found_in numbers k = if numbers.has_zero && (k == 0) then Some 0 else place_under numbers.places k

-- the number of a name that is among these
abbrev pub place_among : List ℕ → ℕ → Option ℕ
place_among names k = if is_one_of k names then Some (place_in names k) else None

-- the name in a slot, and its number
abbrev pub slot_in : Numbers → ℕ → Option (ℕ × ℕ)
slot_in numbers i = slice_index_or numbers.recent.items i None

-- the table has the numbers of these names, which are in the order of their first appearance
pub record KnowsNumbers (numbers : Numbers) (names : List ℕ) : Type 0 where
  pub count_is : numbers.count ≡ length names
  pub places_are : (k : ℕ) → found_in numbers k ≡ place_among names k
  pub recent_is : (i k place : ℕ) → slot_in numbers i ≡ Some (k, place) → place_among names k ≡ Some place

-- more names than the limit, with this one among them
abbrev pub is_past : ℕ → List ℕ → ℕ → Bool
is_past limit names name = nat_lt limit (length (with_number (Some name) names))

-- The answer to a name after these, and the table then: its number, or none if too many names have one. On an error no
-- number changes.
abbrev pub IsNumbered : {E : Type 0} → ℕ → List ℕ → ℕ → Result (Option ℕ) E → Numbers → Type 0
IsNumbered limit names name (Ok (Some n)) after =
    (is_past limit names name ≡ false) × (n ≡ place_in (with_number (Some name) names) name)
    × KnowsNumbers after (with_number (Some name) names)
IsNumbered limit names name (Ok None) after = (is_past limit names name ≡ true) × KnowsNumbers after names
IsNumbered limit names name (Err e) after = KnowsNumbers after names
