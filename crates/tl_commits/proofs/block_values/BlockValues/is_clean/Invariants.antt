use Rattle.std.proofs.Common.{◌≡◌, ◌+◌, ◌*◌, ℕ}
use Rattle.tl_rules.specs.statement.Legality.{each_below}
use Rattle.tl_commits.specs.code.BlockValues.{KnowsValues}
use Rattle.tl_commits.specs.statement.Completeness.{Completeness}
use Rattle.tl_commits.specs.statement.Commits.{is_kept}
use Rattle.tl_commits.specs.statement.Events.{Events}
use Rattle.tl_commits.proofs.block_values.BlockValues.is_clean.Given as goal

abbrev pub invariant-loop-place : goal.invariant-loop-place
invariant-loop-place l = (w : ℕ) (complete : Completeness) (n block : ℕ) (e : Events w)
    → KnowsValues l.self complete n block e
    → l.all ≡ each_below l.place (λ place. is_kept complete n (64 * block + place) e)
