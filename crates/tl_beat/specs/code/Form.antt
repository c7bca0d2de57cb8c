-- A line of which each byte is at its place; only private clauses cite this.
use Rattle.std.specs.Prelude.{◌≡◌, ◌<◌, ◌==◌, ◌||◌, ◌+◌, ◌-◌, ◌*◌, ◌%◌, ◌/◌, ℕ, Bool, true, List, [], ◌∷◌, length, slice_index}
use Rattle.std.specs.Prelude.{if◌then◌else◌, nat_lt, Ok, Option}
use Rattle.tl_beat.specs.declared.read.line.Head.{Head}
use Rattle.tl_beat.specs.statement.Digits.{is_digit}
use Rattle.tl_beat.specs.code.FromLeft.{value_or_16, field_at, head_at, tail_at}

-- whether a byte fits a byte of a form: a digit fits #, 0 or 1 fits ?, any byte fits a dot, and otherwise only the
-- same byte fits
abbrev pub may_stand : ℕ → ℕ → Bool
may_stand form c =
    if form == 35 then is_digit c else
    if form == 63 then (c == 48) || (c == 49) else if form == 46 then true else c == form

-- each byte fits the byte of the form at its place
abbrev pub Follow : List ℕ → List ℕ → Type 0
Follow form bytes = (i : ℕ) → i < length form → may_stand (slice_index form i) (slice_index bytes i) ≡ true

-- how far a byte is beyond a range
abbrev pub beyond : ℕ → ℕ → ℕ → ℕ
beyond low more c = (c + (256 - low)) % 256 - more

-- the same of the bytes that fit a byte of a form, with the digits of one range alone
abbrev pub beyond_form : ℕ → ℕ → ℕ → ℕ → ℕ
beyond_form first more form c =
    if form == 35 then beyond first more c else
    if form == 63 then beyond 48 1 c else if form == 46 then beyond form 255 c else beyond form 0 c

abbrev pub each_beyond : ℕ → ℕ → List ℕ → List ℕ → List ℕ
each_beyond first more [] bytes = []
each_beyond first more (form ∷ forms) [] = []
each_beyond first more (form ∷ forms) (c ∷ cs) = beyond_form first more form c ∷ each_beyond first more forms cs

-- two values as the number of a byte
abbrev pub paired : ℕ → ℕ → ℕ
paired high low = (high * 16 % 256 + low) % 256

-- the number of two digits
abbrev pub two_digits : List ℕ → ℕ → ℕ
two_digits line i = paired (value_or_16 (slice_index line i)) (value_or_16 (slice_index line (i + 1)))

-- the value of a byte that is a digit, as a vector computes it
abbrev pub lane_value : ℕ → ℕ
lane_value c = ((c + 208) % 256 + (256 - (if nat_lt 57 c then 39 else 0))) % 256

-- the number of two digits at these places, and of one
abbrev pub lanes_two : List ℕ → ℕ → ℕ → ℕ
lanes_two line i j = paired (lane_value (slice_index line i)) (lane_value (slice_index line j))

abbrev pub lanes_one : List ℕ → ℕ → ℕ
lanes_one line i = paired 0 (lane_value (slice_index line i))

-- the numbers of the first fields of a line, and of the two digits after them
abbrev pub front_numbers : List ℕ → List ℕ
front_numbers line =
    lanes_two line 0 1 ∷ lanes_one line 5 ∷ lanes_one line 7 ∷ lanes_one line 9 ∷ lanes_two line 11 12 ∷ lanes_two line
    14
    15 ∷ paired 0 0 ∷ paired 0 0 ∷ []

-- the first fields of a line
abbrev pub head_in : List ℕ → Head
head_in line = record {
  link = lanes_two line 0 1;
  opcode = lanes_one line 5;
  param = lanes_one line 7;
  size = lanes_one line 9;
  source = lanes_two line 11 12;
}

-- the fields of a line of channel A or B, without its line feed
pub record IsMasked (w : ℕ) (body : List ℕ) (letter : ℕ) (head : Head) (address mask : ℕ) (lanes : Option (List ℕ))
    (corrupt : Bool) : Type 0
  where
    pub left : List ℕ
    pub middle : List ℕ
    pub end : List ℕ
    pub named : slice_index body 3 ≡ letter
    pub spaced : slice_index body 4 ≡ 32
    pub begins : head_at body ≡ Ok (head, left)
    pub addressed : field_at 8 left ≡ Ok (address, middle)
    pub masked : field_at (w / 4) middle ≡ Ok (mask, end)
    pub ends : tail_at w end ≡ Ok (lanes, corrupt)
