use Rattle.std.proofs.Common.{◌≡◌, ◌≤◌, ◌++◌, ◌+◌, ◌-◌, ◌*◌, List, length}
use Rattle.tl_commits.specs.statement.Completeness.{Completeness}
use Rattle.tl_commits.specs.statement.Events.{Events}
use Rattle.tl_params.specs.declared.level.Level.{Level}
use Rattle.tl_params.specs.declared.liberties.Liberties.{Liberties}
use Rattle.tl_evidence.specs.code.Following.{KnowsCopy}
use Rattle.tl_evidence.specs.statement.CopyLines.{lost_from, lost_lines}
use Rattle.tl_evidence.proofs.copy_record.CopyRecord.tell_lost.Given as goal

abbrev pub invariant-loop-place : goal.invariant-loop-place
invariant-loop-place g l = record {
  few : l.count ≤ l.place;
  told : (may : Liberties) (levels : List Level) (complete : Completeness) (e : Events g.row.W)
      → KnowsCopy l.self may levels complete e
      → l.out.items ++ lost_from (g.X.Places.names l.places) complete (length levels) l.self.link.0 l.count (64 * l.self.block + l.place)
      (64 - l.place) e
      ≡ l.initial.out.items ++ lost_lines (g.X.Places.names l.places) complete (length levels) l.self.link.0 l.self.block e;
}
