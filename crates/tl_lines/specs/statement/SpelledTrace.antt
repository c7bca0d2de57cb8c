-- The lines that spell a trace.
use Rattle.std.specs.Prelude.{◌≡◌, ℕ, ◌+◌, List, [], ◌∷◌, ◌++◌}
use Rattle.tl_beat.specs.statement.Line.{Spells}
use Rattle.tl_params.specs.declared.level.Level.{Level}
use Rattle.tl_params.specs.declared.liberties.Liberties.{Liberties}
use Rattle.tl_params.specs.declared.width.Width.{Width}
use Rattle.tl_rules.specs.statement.Conformance.{Trace}
use Rattle.tl_lines.specs.statement.LinksHeader.{NamesAllowed}
use Rattle.tl_lines.specs.statement.Width.{bytes_of}

-- the lines spell the beats of t in the order of time; the first beat of t is the newest, and its line the last
unfoldable pub AreLinesOf : {w : ℕ} → Trace w → List (List ℕ) → Type 0
AreLinesOf [] lines = lines ≡ []
AreLinesOf (x ∷ t) lines =
    (front : List (List ℕ)) × (line : List ℕ) × (lines ≡ front ++ line ∷ []) × Spells line x.0 x.1 × AreLinesOf t front

-- The lines are a header and the beats of t. The header has beats of w bytes and these links, whose liberties are those
-- that it names and those that are allowed.
pub record SpellsTrace {w : ℕ} (allow : Liberties) (lines : List (List ℕ)) (levels : List Level) (may : Liberties)
    (t : Trace w) : Type 0 where
  pub width : Width
  pub of_width : bytes_of width ≡ w
  pub header : List ℕ
  pub names : NamesAllowed allow header width may levels
  pub beats : List (List ℕ)
  pub lines_are : lines ≡ header ∷ beats
  pub beats_are : AreLinesOf t beats
