use Rattle.std.proofs.Common.{◌≡◌, ◌≤◌, List, length}
use Rattle.tl_cover.specs.code.Covering.{noted_to}
use Rattle.tl_cover.specs.declared.row.Row.{Row}
use Rattle.tl_cover.proofs.counts.note_part.Given as goal

abbrev pub invariant-loop-i : goal.invariant-loop-i
invariant-loop-i g l = (all : List Row) → l.from ≤ l.to → l.to ≤ length all
    → l.fn.rows.items ≡ noted_to l.line l.beat l.scene l.from all
    → (l.i ≤ l.to) × (l.rows.items ≡ noted_to l.line l.beat l.scene l.i all)
