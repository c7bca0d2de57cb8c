-- A line written from left to right, as the code goes; only private clauses cite this.
use Rattle.std.specs.Prelude.{ℕ, List, ◌∷◌, ◌++◌}
use Rattle.tl_beat.specs.statement.Digits.{digits}

-- the fields that lines of channels A to D begin with
abbrev pub wide_head_text : ℕ → ℕ → ℕ → ℕ → ℕ → ℕ → List ℕ
wide_head_text link letter opcode param size source =
    digits 2 link ++ 32 ∷ letter ∷ 32
    ∷ (digits 1 opcode ++ 32 ∷ (digits 1 param ++ 32 ∷ (digits 1 size ++ 32 ∷ digits 4 source)))
