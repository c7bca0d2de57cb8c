use Rattle.std.proofs.Common.{◌≡◌, ◌+◌, length}
use Rattle.tltool.proofs.cover.try_files.Given as goal

abbrev pub invariant-loop-name : goal.invariant-loop-name
invariant-loop-name l = length l.all.items ≡ length l.initial.all.items + l.name-index
