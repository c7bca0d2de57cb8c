-- The front of a header of wide beats read from left to right, as the code goes; only private clauses cite this.
use Rattle.std.specs.Prelude.{ℕ, List, Option, Some, None}
use Rattle.tl_params.specs.code.HeaderReading.{after_word}
use Rattle.tl_params.specs.declared.level.Level.{Level}
use Rattle.tl_params.specs.declared.liberties.Liberties.{Liberties}
use Rattle.tl_wide.specs.declared.width.WideWidth.{WideWidth}
use Rattle.tl_wide.specs.declared.width.WideWidth.TheVariants.{Four, Eight, Sixteen, ThirtyTwo, SixtyFour}
use Rattle.tl_wide_lines.specs.declared.header.WideHeader.{WideHeader}
use Rattle.tl_wide_lines.specs.statement.WideHeader.{NamesWide, fifth_front}

-- this width with the text after its front, if the front is there, or else the other result
abbrev pub or_front : WideWidth → Option (List ℕ) → Option (WideWidth × List ℕ) → Option (WideWidth × List ℕ)
or_front width (Some rest) other = Some (width, rest)
or_front width None other = other

abbrev pub at_front : WideWidth → List ℕ → Option (WideWidth × List ℕ) → Option (WideWidth × List ℕ)
at_front width line other = or_front width (after_word (fifth_front width) line) other

-- the front of a header of the fifth version
abbrev pub wide_front_at : List ℕ → Option (WideWidth × List ℕ)
wide_front_at line =
    at_front Four line
    (at_front Eight line (at_front Sixteen line (at_front ThirtyTwo line (at_front SixtyFour line None))))

-- the header of a wide trace that is judged so, or there is none
abbrev pub ReadsWide : Liberties → List ℕ → Option WideHeader → Type 0
ReadsWide allow line None =
    (width : WideWidth) (may : Liberties) (levels : List Level) → ¬ NamesWide allow line width may levels
ReadsWide allow line (Some h) =
    NamesWide allow line h.width h.links.may h.links.levels.items
