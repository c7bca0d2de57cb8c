use Rattle.std.proofs.Common.{◌≡◌, ◌*◌, ◌/◌, not}
use Rattle.std.specs.Prelude.{◌||◌}
use Rattle.tl_burst.specs.statement.Burst.{bit}
use Rattle.tl_rules.specs.statement.Legality.{each_below, is_one_of}
use Rattle.tl_wide.specs.statement.Parts.{parts_of}
use Rattle.tl_wide.proofs.parts.has_stray.Given as goal

abbrev pub invariant-loop-part : goal.invariant-loop-part
invariant-loop-part g l =
    l.clear ≡ each_below (g.row.P * l.part) (λ lane. not (bit l.reach.mask lane)
    || is_one_of (lane / g.row.P) (parts_of g.row.W l.reach.size l.reach.address))
