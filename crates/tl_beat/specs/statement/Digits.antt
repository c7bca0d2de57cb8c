-- Hexadecimal digits, lower-case, the highest first.
use Rattle.std.specs.Prelude.{ℕ, zero, suc, ◌+◌, ◌-◌, ◌*◌, ◌/◌, ◌%◌, ◌^◌, Bool, true, false, ◌&&◌, ◌||◌, List, [], ◌∷◌}
use Rattle.std.specs.Prelude.{◌++◌, Option, Some, None, ◌==◌, nat_le, nat_lt, if◌then◌else◌}

-- ---- from numbers to text

-- the character of a digit below 16: 0 to 9, a to f
abbrev pub digit_char : ℕ → ℕ
digit_char d = if nat_lt d 10 then 48 + d else 87 + d

-- the lowest n hexadecimal digits of a number, the highest of them first
unfoldable pub digits : ℕ → ℕ → List ℕ
digits zero number = []
digits (suc n) number = digit_char (number / 2 ^ (4 * n) % 16) ∷ digits n number

-- two digits for each lane, the last lane first
unfoldable pub lane_digits : List ℕ → List ℕ
lane_digits [] = []
lane_digits (lane ∷ lanes) = lane_digits lanes ++ digits 2 lane

-- the data of a beat: the digits of its lanes, or a dash if it has none
abbrev pub lanes_text : Option (List ℕ) → List ℕ
lanes_text None = 45 ∷ []
lanes_text (Some lanes) = lane_digits lanes

-- 0 or 1
abbrev pub bit_text : Bool → List ℕ
bit_text false = 48 ∷ []
bit_text true = 49 ∷ []

-- ---- from text to numbers

-- the character is a lower-case hexadecimal digit
abbrev pub is_digit : ℕ → Bool
is_digit c = (nat_le 48 c && nat_le c 57) || (nat_le 97 c && nat_le c 102)

-- the value of a digit
abbrev pub digit_value : ℕ → ℕ
digit_value c = if nat_le c 57 then c - 48 else c - 87

-- the field is n digits
unfoldable pub is_digits : ℕ → List ℕ → Bool
is_digits zero [] = true
is_digits zero (c ∷ cs) = false
is_digits (suc n) [] = false
is_digits (suc n) (c ∷ cs) = is_digit c && is_digits n cs

-- the number that digits spell after the digits that spell `number`
unfoldable pub value_from : ℕ → List ℕ → ℕ
value_from number [] = number
value_from number (c ∷ cs) = value_from (16 * number + digit_value c) cs

-- the number that a field's digits spell, the highest first
abbrev pub value_of : List ℕ → ℕ
value_of field = value_from 0 field

-- the field is n pairs of digits
unfoldable pub is_pairs : ℕ → List ℕ → Bool
is_pairs zero [] = true
is_pairs zero (c ∷ cs) = false
is_pairs (suc n) [] = false
is_pairs (suc n) (c ∷ []) = false
is_pairs (suc n) (c ∷ d ∷ cs) = (is_digit c && is_digit d) && is_pairs n cs

-- the lanes that pairs of digits spell, the last lane first, before these lanes
unfoldable pub lanes_before : List ℕ → List ℕ → List ℕ
lanes_before lanes [] = lanes
lanes_before lanes (c ∷ []) = lanes
lanes_before lanes (c ∷ d ∷ cs) = lanes_before ((16 * digit_value c + digit_value d) ∷ lanes) cs

-- the field is the one character -, for a beat without data
abbrev pub is_dash : List ℕ → Bool
is_dash [] = false
is_dash (c ∷ []) = c == 45
is_dash (c ∷ d ∷ cs) = false

-- the field is a dash, or the digits of w lanes
abbrev pub is_data : ℕ → List ℕ → Bool
is_data w field = is_dash field || is_pairs w field

-- the lanes that a field of data spells; a dash spells none
abbrev pub data_of : List ℕ → Option (List ℕ)
data_of field = if is_dash field then None else Some (lanes_before [] field)

-- the field is 0 or 1
abbrev pub is_bit : List ℕ → Bool
is_bit [] = false
is_bit (c ∷ []) = (c == 48) || (c == 49)
is_bit (c ∷ d ∷ cs) = false

-- the bit that a field spells: set if the field begins with 1
abbrev pub bit_of : List ℕ → Bool
bit_of [] = false
bit_of (c ∷ cs) = c == 49
