-- What a decoder of wide beats knows, and the end of a readable line; only private clauses cite this.
use Rattle.std.specs.Prelude.{◌≡◌, ◌==◌, ◌||◌, ℕ, Bool, List, [], ◌∷◌, ◌++◌, length, codes, Option}
use Rattle.tl_beat.specs.statement.Digits.{bit_text, lanes_text}
use Rattle.tl_wide.specs.statement.Naming.{WideTrace}
use Rattle.tl_wide_lines.specs.statement.JudgedTrace.{BeginWith}
use Rattle.tl_wide_lines.specs.statement.WideDecoded.{wide_texts}

-- data and the corrupt bit, which end a line
abbrev pub tail_said : Option (List ℕ) → Bool → List ℕ
tail_said lanes corrupt = codes " data=" ++ lanes_text lanes ++ codes " corrupt=" ++ bit_text corrupt ++ 10 ∷ []

-- a wide beat has 4, 8, 16, 32 or 64 bytes
abbrev pub is_wide_width : ℕ → Bool
is_wide_width w = (w == 4) || ((w == 8) || ((w == 16) || ((w == 32) || (w == 64))))

-- these lines spell wide beats, and this is their text
pub record KnowsDecoded (w : ℕ) (lines : List (List ℕ)) (text : List ℕ) : Type 0 where
  pub trace : WideTrace w
  pub begins : (more : List (List ℕ)) → BeginWith trace (lines ++ more) more
  pub counted : length lines ≡ length trace
  pub said : text ≡ wide_texts trace
