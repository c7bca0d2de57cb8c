use Rattle.std.proofs.Common.{Bool, List, ◌≡◌, ◌≤◌}
use Rattle.tl_cover.specs.statement.Covers.{Covers}
use Rattle.tl_cover.specs.statement.Scene.{granting}
use Rattle.tl_params.specs.declared.level.Level.{Level}
use Rattle.tl_params.specs.declared.liberties.Liberties.{Liberties}
use Rattle.tl_rules.specs.statement.Conformance.{Trace}
use Rattle.tl_cover.proofs.covering.Covering.granting.Given as goal

abbrev pub invariant-loop-m : goal.invariant-loop-m
invariant-loop-m g l = record {
  few : l.number ≤ l.m;
  counted : (levels : List Level) (b : Liberties) (t : Trace g.row.W) (closed : Bool) → Covers l.self levels b t closed
      → l.number ≡ granting l.m l.link.0 t;
}
