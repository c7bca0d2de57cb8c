use Rattle.std.proofs.Common.{◌≡◌, ◌≤◌, ◌+◌, ◌-◌, ◌++◌}
use Rattle.tl_commit_story.specs.code.Stored.{last_in}
use Rattle.tl_commit_story.specs.statement.Grounds.{stores_from}
use Rattle.tl_commit_story.proofs.stores.Stores.append.Given as goal

abbrev pub invariant-loop-place : goal.invariant-loop-place
invariant-loop-place l = record {
  within : l.place-end ≡ l.first + l.count;
  past : l.place ≤ l.place-end;
  told : l.out.items ++ stores_from (last_in l.self.last) l.place (l.place-end - l.place) l.told
      ≡ l.fn.out.items ++ stores_from (last_in l.self.last) l.first l.count 0;
}
