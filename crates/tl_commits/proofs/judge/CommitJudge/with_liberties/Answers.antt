use Rattle.std.proofs.Common.{length, rules}
use Rattle.tl_commits.specs.statement.Completeness.{Completeness}
use Rattle.tl_commits.specs.statement.Events.{beats_of}
use Rattle.tl_commits.proofs.GrantsKept.{no-grants}
use Rattle.tl_commits.proofs.LoadsNext.{no-loads}
use Rattle.tl_commits.proofs.PendingReads.{no-readings}
use Rattle.tl_commits.proofs.TableJudged.{table-first}
use Rattle.tl_commits.proofs.judge.CommitJudge.with_liberties.Goals as goal

pub returns : goal.returns
unfolding beats_of
returns g c =
    let complete : Completeness = record { stores = c.args.complete.now; zero = c.args.zero } in
    let n = length c.args.levels.now in (
      c.in-Ok.ensures.0,
      record {
        judge_is = c.in-Ok.ensures.1;
        levels_are = c.in-Ok-from_slice.ensures.items;
        complete_are = c.in-Ok-from_slice-2.ensures.items;
        loads_are = rw c.new-2.ensures.items (no-loads complete n);
        values_are = table-first g.row.W c.in-Ok-new.values complete n c.in-Ok-new.ensures;
        grants_are = no-grants c.in-Ok-any_grants.grants.items complete n
            (search (rules, c.in-Ok-from_slice.ensures.items));
        readings_are = no-readings c.new-3.result.items complete n;
      },
    )
