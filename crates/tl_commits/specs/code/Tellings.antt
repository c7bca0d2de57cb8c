-- Lists of possible values, as they are made.
use Rattle.std.specs.Prelude.{ℕ, zero, suc, Bool, false, not, None, [], ◌∷◌, ◌++◌, ◌<◌, ◌≡◌, if◌then◌else◌, List, length}
use Rattle.std.specs.Prelude.{slice_index_or}
use Rattle.tl_bytes.specs.code.Tellings.{value_at}
use Rattle.tl_bytes.specs.declared.telling.Telling.{Telling}
use Rattle.tl_bytes.specs.declared.telling.Told.{Told}
use Rattle.tl_bytes.specs.declared.write.Write.{Write}

-- the place is one of these
abbrev pub is_in : List Bool → ℕ → Bool
is_in places place = slice_index_or places place false

-- the value that is written to a place, from this moment on
abbrev pub written_there : Write → ℕ → ℕ → Told
written_there write moment place = record {
  place = place;
  telling = record { value = value_at write place; moment = moment };
}

-- those of these places, among the first k
unfoldable pub written : ℕ → List Bool → Write → ℕ → List Told
written zero places write moment = []
written (suc k) places write moment =
    if is_in places k then written k places write moment ++ written_there write moment k ∷ []
    else written k places write moment

-- the booleans are the same
abbrev pub same : Bool → Bool → Bool
same a b = if a then b else not b

-- the value's place is one of these, or isn't
abbrev pub stands : List Bool → Bool → Told → Bool
stands places there x = same (is_in places x.place) there

-- the value at a place of a list that hasn't so many
abbrev pub no_told : Told
no_told = record { place = 0; telling = record { value = None; moment = 0 } }

-- one value of each place, in the order of the places
abbrev pub IsPlain : List Told → Type 0
IsPlain told = (length told ≡ 64) × ((p : ℕ) → p < 64 → (slice_index_or told p no_told).place ≡ p)

-- the values with a write that sets them, if it sets some
abbrev pub with_set : Bool → Write → ℕ → ℕ → List Telling → List Telling
with_set sets write moment place before =
    if sets then record { value = value_at write place; moment = moment } ∷ [] else before
