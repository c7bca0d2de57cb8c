use Rattle.std.proofs.Common.{◌≡◌}
use Rattle.tl_rules.specs.statement.Effect.{byte_of}
use Rattle.tl_rules.specs.statement.Legality.{each_below}
use Rattle.tl_commits.specs.code.Loading.{had}
use Rattle.tl_commits.proofs.loading.Loading.brings.Given as goal

abbrev pub invariant-loop-i : goal.invariant-loop-i
invariant-loop-i l = l.all ≡ each_below l.i (λ i. had l.self i (byte_of l.value i))
