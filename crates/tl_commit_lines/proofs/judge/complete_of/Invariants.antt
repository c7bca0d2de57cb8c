use Rattle.std.proofs.Common.{◌≡◌, ◌++◌, drop, map}
use Rattle.tl_commit_lines.proofs.judge.complete_of.Given as goal

abbrev pub invariant-loop-link : goal.invariant-loop-link
invariant-loop-link l =
    l.complete.items ++ map (λ x. x.complete) (drop l.link-index l.links) ≡ map (λ x. x.complete) l.links
