-- The readable line, from the places of the fields in the beat line. A field before the data stands at
-- a fixed place.
use Rattle.std.specs.Prelude.{⊤, ℕ, ◌≡◌, ◌⊎◌, ◌*◌, ◌+◌, ◌-◌, List, [], ◌∷◌, ◌++◌, length, take, drop, codes}
use Rattle.std.specs.Prelude.{unwrap_or, slice_index, slice_range, ◌≤◌, Option, None, Some}
use Rattle.tl_explain.specs.declared.columns.TheConstants.{FIRST_FIELD, PARAM, SIZE, SOURCE, ADDRESS, BEHIND_ADDRESS}
use Rattle.tl_explain.specs.declared.columns.TheConstants.{SINK, DENIED, BEHIND_DENIED, CORRUPT, DATA_END}

-- 2 to 13 bytes, if there are some
abbrev pub IsShort : Option (List ℕ) → Type 0
IsShort None = ⊤
IsShort (Some name) = (2 ≤ length name) × (length name ≤ 13)

-- how many bytes the data of a beat of w bytes has: those of the dash, or two digits for each byte
abbrev pub HasData : ℕ → ℕ → Type 0
HasData w n = (n ≡ 1) ⊎ (n ≡ 2 * w)

-- n bytes of a line, from a place on
abbrev pub part : List ℕ → ℕ → ℕ → List ℕ
part line at n = take n (drop at line)

-- the link and the letter, and a name
unfoldable pub head_text : List ℕ → List ℕ → List ℕ
head_text line name = take FIRST_FIELD line ++ name ++ 32 ∷ []

-- a param by its name, or by its digit
abbrev pub param_part : List ℕ → Option (List ℕ) → List ℕ
param_part line param = unwrap_or param (slice_index line PARAM ∷ [])

-- size and source
unfoldable pub size_and_source : List ℕ → List ℕ
size_and_source line = codes " size=" ++ part line SIZE 1 ++ codes " source=" ++ part line SOURCE 2

-- size, source and the eight digits of the address
unfoldable pub address_text : List ℕ → List ℕ
address_text line = size_and_source line ++ codes " address=" ++ part line ADDRESS 8

-- size, source, sink and denied
unfoldable pub sink_text : List ℕ → List ℕ
sink_text line =
    size_and_source line ++ codes " sink=" ++ part line SINK 2 ++ codes " denied="
    ++ part line DENIED 1

-- data and corrupt, which end a line
unfoldable pub tail_text : List ℕ → List ℕ
tail_text tail = codes " data=" ++ take (length tail - DATA_END)
    tail ++ (codes " corrupt=" ++ part tail (length tail - CORRUPT) CORRUPT)

unfoldable pub request_text : ℕ → List ℕ → List ℕ → Option (List ℕ) → List ℕ
request_text mask line head param =
    head ++ param_part line param ++ address_text line ++ codes " mask="
    ++ part line BEHIND_ADDRESS mask
    ++ tail_text (slice_range line (BEHIND_ADDRESS + mask + 1) (length line))

unfoldable pub release_text : List ℕ → List ℕ → Option (List ℕ) → List ℕ
release_text line head param =
    head ++ param_part line param ++ address_text line ++ tail_text (slice_range line BEHIND_ADDRESS (length line))

unfoldable pub response_text : List ℕ → List ℕ → Option (List ℕ) → List ℕ
response_text line head param =
    head ++ param_part line param ++ sink_text line ++ tail_text (slice_range line BEHIND_DENIED (length line))

unfoldable pub acknowledgement_text : List ℕ → List ℕ
acknowledgement_text line = take FIRST_FIELD line ++ codes "GrantAck sink=" ++ part line FIRST_FIELD 3
