use Rattle.std.proofs.Common.{◌∷◌, length, rules, sym, ap, subst, false, ◌∙◌}
use Rattle.std.specs.Prelude.{find}
use Rattle.tl_beat.specs.declared.beat.Link.{Link}
use Rattle.tl_together.specs.statement.Knows.{Knows}
use Rattle.tl_commits.specs.code.Loading.{is_of, IsBegun}
use Rattle.tl_commits.specs.code.ValueTable.{KnowsTable}
use Rattle.tl_events.specs.declared.commit.Commit.TheVariants as commit
use Rattle.tl_events.specs.declared.commit.Event.{Event}
use Rattle.tl_events.specs.declared.commit.Event.TheVariants as event
use Rattle.tl_commits.specs.statement.Events.{beats_of}
use Rattle.tl_commits.proofs.GrantsKept.{grants-commit}
use Rattle.tl_commits.proofs.Loads.{all-renewed}
use Rattle.tl_commits.proofs.PendingReads.{readings-commit}
use Rattle.tl_commits.proofs.LoadsNext.{loads-begun, pieces-begun}
use Rattle.tl_commits.proofs.TableJudged.{table-begun}
use Rattle.tl_commits.proofs.judge.CommitJudge.take_begin.Goals as goal

pub returns-clause-knows : goal.returns-clause-knows
unfolding beats_of
returns-clause-knows g c = λ levels complete l e k lt is.
    let x : Link × Event g.row.W = (c.args.link, event.Commit (commit.Begin c.args.piece)) in
    let old = c.args.self.now.loads.items in
    let mid = c.begin.new.loads.items in
    let r = c.record.ensures in
    let n = length levels in
    let begun : IsBegun c.args.link c.args.piece (find (is_of c.args.link.0 c.args.piece) old) old mid = search rules in
    let table : KnowsTable c.record.new.self.values complete n (x ∷ e) =
    rw (r.values_are) (table-begun c.args.self.now.values complete n c.args.link c.args.piece e k.values_are) in
    record {
      judge_is = subst (λ j. Knows j levels l (beats_of e) false) (sym r.judge_is) k.judge_is;
      levels_are = ap (λ v. v.items) r.levels_are ∙ k.levels_are;
      complete_are = ap (λ v. v.items) r.complete_are ∙ k.complete_are;
      loads_are = loads-begun complete n c.args.link c.args.piece e old mid c.record.new.self.loads.items k.loads_are
          begun lt is
          (all-renewed c.args.self.now.judge c.record.new.self.values complete levels l (x ∷ e) mid
          c.record.new.self.loads.items (rw k.complete_are at r.loads_are) k.judge_is table
          (pieces-begun n c.args.link c.args.piece (find (is_of c.args.link.0 c.args.piece) old) old mid begun lt is
          k.loads_are.pieces));
      values_are = table;
      grants_are = rw r.grants_are (grants-commit c.args.self.now.grants.items complete n c.args.link (commit.Begin c.args.piece) e
          k.grants_are);
      readings_are = rw r.readings_are (readings-commit c.args.self.now.readings.items complete n c.args.link
          (commit.Begin c.args.piece) e k.readings_are);
    }
