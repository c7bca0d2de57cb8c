-- The fields of a line, read one after another as the code goes; only private clauses cite this.
use denote.Ref.{Bor}
use Rattle.std.specs.Prelude.{◌≡◌, ℕ, zero, suc, ◌+◌, ◌*◌, Bool, true, false, List, [], ◌∷◌, Option, Some, None, nat_le}
use Rattle.std.specs.Prelude.{if◌then◌else◌}
use Rattle.tl_beat.specs.code.FromLeft.{digit_of}
use Rattle.tl_beat.specs.statement.Line.{pieces}
use Rattle.tl_schedule.specs.code.Then.{◌>>=◌}

-- ---- digits

abbrev pub with_rest : {A : Type 0} → List ℕ → A → Option (A × List ℕ)
with_rest rest a = Some (a, rest)

abbrev pub hex_at : List ℕ → Option (ℕ × List ℕ)
hex_at [] = None
hex_at (c ∷ cs) = digit_of c >>= with_rest cs

-- n digits after a number, and nothing after them
unfoldable pub number_in : ℕ → ℕ → List ℕ → Option ℕ
number_in number zero [] = Some number
number_in number zero (c ∷ cs) = None
number_in number (suc n) bytes = hex_at bytes >>= λ d. number_in (16 * number + d.0) n d.1

abbrev pub byte_of : List ℕ → ℕ → ℕ → Option (ℕ × List ℕ)
byte_of rest high low = Some (16 * high + low, rest)

abbrev pub pair_at : List ℕ → Option (ℕ × List ℕ)
pair_at [] = None
pair_at (c ∷ []) = None
pair_at (c ∷ d ∷ cs) = digit_of c >>= λ high. digit_of d >>= λ low. byte_of cs high low

-- n bytes before others, the last byte first, and nothing after them
unfoldable pub pairs_in : List ℕ → ℕ → List ℕ → Option (List ℕ)
pairs_in bytes zero [] = Some bytes
pairs_in bytes zero (c ∷ cs) = None
pairs_in bytes (suc n) text = pair_at text >>= λ b. pairs_in (b.0 ∷ bytes) n b.1

abbrev pub bytes_in : ℕ → List ℕ → Option (List ℕ)
bytes_in n field = pairs_in [] n field

abbrev pub at_most : ℕ → ℕ → Option ℕ
at_most limit n = if nat_le n limit then Some n else None

abbrev pub size_in : ℕ → List ℕ → Option ℕ
size_in limit field = number_in 0 1 field >>= at_most limit

-- ---- fields

-- the fields after a space, or none at the end
abbrev pub fields_behind : List ℕ → List (List ℕ)
fields_behind [] = []
fields_behind (c ∷ cs) = pieces cs

abbrev pub before_fields : {A : Type 0} → List (List ℕ) → A → Option (A × List (List ℕ))
before_fields fields a = Some (a, fields)

-- what the next field says
abbrev pub front : {A : Type 0} → (List ℕ → Option A) → List (List ℕ) → Option (A × List (List ℕ))
front read [] = None
front read (field ∷ fields) = read field >>= before_fields fields

abbrev pub is_none_left : List (List ℕ) → Bool
is_none_left [] = true
is_none_left (field ∷ fields) = false

-- nothing is left
abbrev pub at_end : {A : Type 0} → List (List ℕ) → A → Option A
at_end fields a = if is_none_left fields then Some a else None

-- what the last field says
abbrev pub last : {A : Type 0} → (List ℕ → Option A) → List (List ℕ) → Option A
last read fields = front read fields >>= λ a. at_end a.1 a.0

-- ---- what a function returned is what reading gives

abbrev pub Gives : {X : Type 0} → Option (X × Bor (List ℕ)) → Option (X × List (List ℕ)) → Type 0
Gives None read = read ≡ None
Gives (Some x) read = read ≡ Some (x.0, fields_behind x.1.now)
