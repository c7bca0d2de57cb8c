use Rattle.std.proofs.Common.{◌≡◌, ◌++◌, drop, map}
use Rattle.tl_chart.specs.declared.arrow.Arrow.{Arrow}
use Rattle.tl_chart.specs.declared.note.Note.{Note}
use Rattle.tl_chart.proofs.chart.rows_of.Given as goal

abbrev pub invariant-loop-arrow : goal.invariant-loop-arrow
invariant-loop-arrow l =
    l.rows.items ++ map (λ (m : Arrow). m.first) (drop l.arrow-index l.arrows) ≡ map (λ (m : Arrow). m.first) l.arrows

abbrev pub invariant-loop-note : goal.invariant-loop-note
invariant-loop-note l =
    l.rows.items ++ map (λ (n : Note). n.line) (drop l.note-index l.notes)
    ≡ map (λ (m : Arrow). m.first) l.arrows ++ map (λ (n : Note). n.line) l.notes
