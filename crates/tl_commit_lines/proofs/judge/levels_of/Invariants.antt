use Rattle.std.proofs.Common.{◌≡◌, ◌++◌, drop, map}
use Rattle.tl_commit_lines.proofs.judge.levels_of.Given as goal

abbrev pub invariant-loop-link : goal.invariant-loop-link
invariant-loop-link l = l.levels.items ++ map (λ x. x.level) (drop l.link-index l.links) ≡ map (λ x. x.level) l.links
