use Rattle.std.proofs.Common.{rules}
use Rattle.std.proofs.lemmas.Result.{on_ok_weaker}
use Rattle.tl_commits.specs.code.ValueTable.{own_in}
use Rattle.tl_commits.proofs.TableJudged.{kept-there}
use Rattle.tl_commits.proofs.value_table.ValueTable.load.Goals as goal
use Rattle.tl_commits.proofs.value_table.ValueTable.load.Goals.{in-None, in-Some}

pub returns-clause-loaded : goal.returns-clause-loaded
returns-clause-loaded c = elim c.match-get_mut.branch [
  | in-None w ↦ rw w.result-is (λ some. kept-there (own_in c.args.self.now c.args.block) some (search rules))
  | in-Some w ↦ rw (w.result-is, w.self-inside-is) (on_ok_weaker w.load.result (λ changes some. record {
    was = w.in-Some.there.now;
    now = w.load.new.self;
    there = search rules;
    changes = changes;
    others = search rules;
  }) w.load.ensures.loaded)
]
