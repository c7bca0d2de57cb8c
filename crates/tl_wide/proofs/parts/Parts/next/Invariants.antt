use Rattle.std.proofs.Common.{◌≡◌, ◌-◌, ◌/◌}
use Rattle.std.specs.Prelude.{filter}
use Rattle.tl_wide.specs.statement.Pieces.{from}
use Rattle.tl_wide.specs.statement.Parts.{reaches_part}
use Rattle.tl_wide.proofs.parts.Parts.next.Given as goal

abbrev pub invariant-loop-part : goal.invariant-loop-part
invariant-loop-part g l = record {
  named : l.self.named ≡ l.fn.self.named;
  stray : l.self.stray ≡ l.fn.self.stray;
  left : filter (reaches_part g.row.W l.reach.size l.reach.address)
      (from l.fn.self.next (g.row.W / g.row.P - l.fn.self.next))
      ≡ filter (reaches_part g.row.W l.reach.size l.reach.address) (from l.part (g.row.W / g.row.P - l.part));
}
