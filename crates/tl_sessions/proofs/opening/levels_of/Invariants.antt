use Rattle.std.proofs.Common.{◌≡◌, ◌++◌, map, drop}
use Rattle.tl_pictures.specs.statement.Codes.{level_at}
use Rattle.tl_sessions.proofs.opening.levels_of.Given as goal

abbrev pub invariant-loop-code : goal.invariant-loop-code
invariant-loop-code l = l.levels.items ++ map level_at (drop l.code-index l.codes) ≡ map level_at l.codes
