-- The situations of small traces, added by the definition.
use Rattle.std.proofs.Common.{◌≡◌, ℕ, List, [], ◌∷◌, refl}
use Rattle.std.specs.Prelude.{map, Option, Some, None}
use Rattle.tl_beat.specs.declared.beat.Beat.{Beat}
use Rattle.tl_beat.specs.declared.beat.Link.{Link}
use Rattle.tl_cover.specs.declared.row.Row.{Row}
use Rattle.tl_cover.specs.declared.situation.Situation.{Situation}
use Rattle.tl_cover.specs.declared.situation.Situation.TheVariants.{FourGrants, TwoGrants}
use Rattle.tl_tried.specs.declared.sum.Place.{Place}
use Rattle.tl_tried.specs.declared.sum.Sum.{Sum}
use Rattle.tl_tried.specs.statement.Sums.{with_trace}
use Rattle.tl_tried.specs.statement.WideCovered.{wide_line}
use Rattle.tl_wide.specs.statement.Verdict.{owner}

abbrev row : Situation → ℕ → Option ℕ → Row
row situation count first = record { situation = situation; count = count; first = first }

abbrev sum : Situation → ℕ → Place → Sum
sum situation count first = record { situation = situation; count = count; first = Some first }

abbrev line_of : ℕ → ℕ → Place
line_of trace line = record { trace = trace; line = line }

abbrev one_trace : List Row
one_trace = row TwoGrants 2 (Some 5) ∷ row FourGrants 0 None ∷ []

abbrev another_trace : List Row
another_trace = row TwoGrants 1 (Some 3) ∷ row FourGrants 1 (Some 9) ∷ []

-- counts add, and the first place is that of the first trace in which the situation came
two_traces : with_trace 1 (with_trace 0 [] one_trace) another_trace
    ≡ sum TwoGrants 3 (line_of 0 5) ∷ sum FourGrants 1 (line_of 1 9) ∷ []
two_traces = refl

-- a trace without a header adds nothing, wherever it comes
no_header_first : with_trace 1 (with_trace 0 [] []) another_trace
    ≡ sum TwoGrants 1 (line_of 1 3) ∷ sum FourGrants 1 (line_of 1 9) ∷ []
no_header_first = refl

no_header_later : with_trace 1 (with_trace 0 [] another_trace) []
    ≡ sum TwoGrants 1 (line_of 0 3) ∷ sum FourGrants 1 (line_of 0 9) ∷ []
no_header_later = refl

-- the second wide beat has two parts, so the lines of both are its line
module _ {w : ℕ} (x y z u : Link × Beat w) where
  lines_of_parts : map (wide_line ((x ∷ []) ∷ (y ∷ z ∷ []) ∷ (u ∷ []) ∷ [])) (2 ∷ 3 ∷ 4 ∷ 5 ∷ [])
      ≡ 2 ∷ 3 ∷ 3 ∷ 4 ∷ []
  unfolding owner
  lines_of_parts = refl
