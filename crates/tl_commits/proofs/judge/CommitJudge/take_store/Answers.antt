use Rattle.std.proofs.Common.{◌∷◌, length, refl, sym, ap, subst, false, ◌∙◌}
use Rattle.std.specs.Prelude.{None}
use Rattle.tl_beat.specs.declared.beat.Link.{Link}
use Rattle.tl_together.specs.statement.Knows.{Knows}
use Rattle.tl_events.specs.declared.commit.Commit.TheVariants as commit
use Rattle.tl_events.specs.declared.commit.Event.{Event}
use Rattle.tl_events.specs.declared.commit.Event.TheVariants as event
use Rattle.tl_commits.specs.statement.Events.{beats_of}
use Rattle.tl_commits.proofs.CommitsJudged.{commit-refused}
use Rattle.tl_commits.proofs.GrantsKept.{grants-commit}
use Rattle.tl_commits.proofs.Loads.{all-renewed}
use Rattle.tl_commits.proofs.PendingReads.{readings-commit}
use Rattle.tl_commits.proofs.LoadsNext.{loads-other}
use Rattle.tl_commits.proofs.TableJudged.{table-recorded}
use Rattle.tl_commits.proofs.judge.CommitJudge.take_store.Goals as goal

pub returns-in-Some-clause-answer : goal.returns-in-Some-clause-answer
returns-in-Some-clause-answer g c = λ levels complete l e k lt.
    commit-refused _ c.broken_store.result c.in-Some.rule c.of_rule.result (c.broken_store.ensures levels l e k.judge_is lt)
    c.in-Some.is c.of_rule.ensures

pub returns-clause-answer : goal.returns-clause-answer
returns-clause-answer g c = λ levels complete l e k lt.
    rw (← c.broken_store.ensures levels l e k.judge_is lt, c.in_default.is) refl

pub returns-clause-knows : goal.returns-clause-knows
unfolding beats_of
returns-clause-knows g c = λ levels complete l e k lt is.
    let x : Link × Event g.row.W = (c.args.link, event.Commit (commit.Store c.args.piece c.args.value)) in
    let r = c.record.ensures in
    let n = length levels in
    let old = c.args.self.now in
    let table = table-recorded c.store_piece-stored.new.table c.record.new.self.values complete n None x e
    r.values_are (c.in-Ok.ensures.stored levels l complete c.args.link e k.judge_is is k.values_are) in
    record {
      judge_is = subst (λ j. Knows j levels l (beats_of e) false) (sym r.judge_is) k.judge_is;
      levels_are = ap (λ v. v.items) r.levels_are ∙ k.levels_are;
      complete_are = ap (λ v. v.items) r.complete_are ∙ k.complete_are;
      loads_are = loads-other complete n x e old.loads.items c.record.new.self.loads.items k.loads_are
          (all-renewed old.judge c.record.new.self.values complete levels l (x ∷ e) old.loads.items
          c.record.new.self.loads.items (rw k.complete_are at r.loads_are) k.judge_is table k.loads_are.pieces)
          (λ link piece. refl) (λ link piece. refl);
      values_are = table;
      grants_are = rw r.grants_are (grants-commit c.args.self.now.grants.items complete n c.args.link (commit.Store c.args.piece c.args.value) e
          k.grants_are);
      readings_are = rw r.readings_are (readings-commit c.args.self.now.readings.items complete n c.args.link
          (commit.Store c.args.piece c.args.value) e k.readings_are);
    }
