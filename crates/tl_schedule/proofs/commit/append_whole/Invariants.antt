use Rattle.std.proofs.Common.{◌≡◌, ◌++◌, ◌-◌}
use Rattle.tl_schedule.specs.statement.Commits.{commits_text, word_stores}
use Rattle.tl_schedule.proofs.commit.append_whole.Given as goal

abbrev pub invariant-loop-i : goal.invariant-loop-i
invariant-loop-i l =
    l.out.items ++ commits_text l.link (word_stores l.store l.i (8 - l.i))
    ≡ l.initial.out.items ++ commits_text l.link (word_stores l.store 0 8)
