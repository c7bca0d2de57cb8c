use Rattle.std.proofs.Common.{◌≡◌, ◌++◌, map, drop}
use Rattle.tl_pictures.specs.statement.Codes.{flag_at}
use Rattle.tl_sessions.proofs.opening.flags_of.Given as goal

abbrev pub invariant-loop-code : goal.invariant-loop-code
invariant-loop-code l = l.flags.items ++ map flag_at (drop l.code-index l.codes) ≡ map flag_at l.codes
