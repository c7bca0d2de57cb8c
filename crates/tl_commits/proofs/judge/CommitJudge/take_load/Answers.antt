use Rattle.std.proofs.Common.{◌∷◌, length, sym, ap, subst, false, ◌∙◌}
use Rattle.std.specs.Prelude.{filter, not, None}
use Rattle.tl_beat.specs.declared.beat.Link.{Link}
use Rattle.tl_together.specs.statement.Knows.{Knows}
use Rattle.tl_commits.specs.code.Loading.{is_of}
use Rattle.tl_events.specs.declared.commit.Commit.TheVariants as commit
use Rattle.tl_events.specs.declared.commit.Event.{Event}
use Rattle.tl_events.specs.declared.commit.Event.TheVariants as event
use Rattle.tl_commits.specs.statement.Events.{beats_of}
use Rattle.tl_commits.specs.statement.Breaches.{breach_of}
use Rattle.tl_commits.proofs.CommitsJudged.{commit-refused}
use Rattle.tl_commits.proofs.GrantsKept.{grants-commit}
use Rattle.tl_commits.proofs.Loads.{all-renewed, pieces-filter}
use Rattle.tl_commits.proofs.PendingReads.{readings-commit}
use Rattle.tl_commits.proofs.LoadsNext.{loads-load}
use Rattle.tl_commits.proofs.TableJudged.{table-recorded}
use Rattle.tl_commits.proofs.judge.CommitJudge.take_load.Goals as goal

pub returns-in-Some-clause-answer : goal.returns-in-Some-clause-answer
returns-in-Some-clause-answer g c = λ levels complete l e k lt is.
    commit-refused _ c.broken_load.result c.in-Some.rule c.of_rule.result
    (c.broken_load.ensures levels complete l e k lt is) c.in-Some.is c.of_rule.ensures

pub returns-clause-answer : goal.returns-clause-answer
returns-clause-answer g c = λ levels complete l e k lt is.
    ap (breach_of None) (sym (c.broken_load.ensures levels complete l e k lt is) ∙ c.in_default.is)

pub returns-clause-knows : goal.returns-clause-knows
unfolding beats_of
returns-clause-knows g c = λ levels complete l e k lt is.
    let x : Link × Event g.row.W = (c.args.link, event.Commit (commit.Load c.args.piece c.args.value)) in
    let r = c.record.ensures in
    let s = c.in-Ok.ensures.same in
    let n = length levels in
    let old = c.args.self.now in
    let mid = c.forget.new.loads.items in
    let judge = subst (λ j. Knows j levels l (beats_of e) false) (sym s.judge_is) k.judge_is in
    let forgot = c.forget.ensures ∙ ap (λ v. filter (λ y. not (is_of c.args.link.0 c.args.piece y)) v.items) s.loads_are in
    let complete_is = ap (λ v. v.items) s.complete_are ∙ k.complete_are in
    let table = table-recorded c.load_values.new.self.values c.record.new.self.values complete n None x e
    r.values_are (c.in-Ok.ensures.loaded levels complete l e k lt is) in
    record {
      judge_is = subst (λ j. Knows j levels l (beats_of e) false) (sym r.judge_is) judge;
      levels_are = ap (λ v. v.items) r.levels_are ∙ ap (λ v. v.items) s.levels_are ∙ k.levels_are;
      complete_are = ap (λ v. v.items) r.complete_are ∙ complete_is;
      loads_are = loads-load complete n c.args.link c.args.piece c.args.value e old.loads.items mid
          c.record.new.self.loads.items k.loads_are forgot
          (all-renewed c.load_values.new.self.judge c.record.new.self.values complete levels l (x ∷ e) mid
          c.record.new.self.loads.items (rw complete_is at r.loads_are) judge table
          (rw forgot (pieces-filter n (λ y. not (is_of c.args.link.0 c.args.piece y)) old.loads.items
          k.loads_are.pieces)));
      values_are = table;
      grants_are = rw (r.grants_are ∙ s.grants_are) (grants-commit c.args.self.now.grants.items complete n c.args.link (commit.Load c.args.piece c.args.value) e
          k.grants_are);
      readings_are = rw (r.readings_are ∙ s.readings_are) (readings-commit c.args.self.now.readings.items complete n
          c.args.link (commit.Load c.args.piece c.args.value) e k.readings_are);
    }
