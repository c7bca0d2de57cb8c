-- A line written from left to right, as the code goes; only private clauses cite this.
use Rattle.std.specs.Prelude.{ℕ, Bool, List, ◌∷◌, ◌++◌, Option}
use Rattle.tl_beat.specs.statement.Digits.{digits, lanes_text, bit_text}

-- a space, and a number of n digits
abbrev pub next_number : ℕ → ℕ → List ℕ
next_number n number = 32 ∷ digits n number

-- a space, and a bit
abbrev pub next_bit : Bool → List ℕ
next_bit bit = 32 ∷ bit_text bit

-- the fields that lines of channels A to D begin with
abbrev pub head_text : ℕ → ℕ → ℕ → ℕ → ℕ → ℕ → List ℕ
head_text link letter opcode param size source =
    digits 2 link ++ 32 ∷ letter ∷ 32
    ∷ (digits 1 opcode ++ 32 ∷ (digits 1 param ++ 32 ∷ (digits 1 size ++ 32 ∷ digits 2 source)))

-- the last two fields
abbrev pub tail_text : Option (List ℕ) → Bool → List ℕ
tail_text lanes corrupt = 32 ∷ (lanes_text lanes ++ next_bit corrupt)
