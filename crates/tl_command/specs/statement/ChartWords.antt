-- The meaning of the words of the options of `chart`.
use Rattle.std.specs.Prelude.{◌≡◌, ◌≤◌, ◌<◌, ◌+◌, ◌-◌, ◌*◌, ◌^◌, ℕ, [], ◌∷◌, length, Option, Some, None, ◌==◌}
use Rattle.std.specs.Prelude.{◌&&◌, if◌then◌else◌, nat_le, option_and_then, option_map}
use Rattle.std.specs.List.{after_first, before_first, position_or_len}
use Rattle.std.specs.Fmt.{decimal}
use Rattle.tl_command.specs.declared.chart.Range.{Range}
use Rattle.tl_command.specs.statement.Words.{Text}

-- ---- lines

-- The word has a dash. Before the first dash is a decimal number from 1 on. After it is another, not below the first
-- and below 2^64.
pub record SpellsLines (word : Text) (lines : ℕ × ℕ) : Type 0 where
  pub dash : position_or_len (λ c. c == 45) word < length word
  pub first : before_first (λ c. c == 45) word ≡ decimal lines.0
  pub last : after_first (λ c. c == 45) word ≡ decimal lines.1
  pub from_one : 1 ≤ lines.0
  pub in_order : lines.0 ≤ lines.1
  pub fits : lines.1 < 2 ^ 64

-- the lines of the word; none without a word
abbrev pub AreLines : Option Text → Option (ℕ × ℕ) → Type 0
AreLines None lines = lines ≡ None
AreLines (Some word) None = ⊥
AreLines (Some word) (Some lines) = SpellsLines word lines

-- ---- a block

-- the value of a hexadecimal digit
abbrev pub digit_named : ℕ → Option ℕ
digit_named c =
    if nat_le 48 c && nat_le c 57 then Some (c - 48) else if nat_le 97 c && nat_le c 102 then Some (c - 97 + 10) else
    None

-- the number of three digits
abbrev pub three_named : ℕ → ℕ → ℕ → Option ℕ
three_named a b c =
    option_and_then (λ high. option_and_then (λ middle. option_map (λ low. 256 * high + 16 * middle + low)
    (digit_named c)) (digit_named b)) (digit_named a)

-- the number of seven digits, from the values of the first three, the fourth, and the last three
abbrev pub seven_named : ℕ → ℕ → ℕ → ℕ
seven_named high middle low = 65536 * high + 4096 * middle + low

-- the block of a word of three or seven digits
abbrev pub block_named : Text → Option ℕ
block_named (a ∷ b ∷ c ∷ []) = three_named a b c
block_named (a ∷ b ∷ c ∷ d ∷ e ∷ f ∷ g ∷ []) =
    option_and_then (λ high. option_and_then (λ middle. option_map (seven_named high middle) (three_named e f g))
    (digit_named d)) (three_named a b c)
block_named _ = None

-- the block of the word; none without a word
abbrev pub IsBlock : Option Text → Option ℕ → Type 0
IsBlock None block = block ≡ None
IsBlock (Some word) None = ⊥
IsBlock (Some word) (Some block) = block_named word ≡ Some block

-- the lines and the block of these words
abbrev pub IsRange : Option Text → Option Text → Range → Type 0
IsRange lines block range = AreLines lines range.lines × IsBlock block range.block
