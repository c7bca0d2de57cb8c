use Rattle.std.proofs.Common.{◌+◌, ◌*◌, ◌∙◌, arith, ap}
use Rattle.tl_rules.specs.statement.Legality.{each_below}
use Rattle.tl_commits.specs.statement.Commits.{is_kept}
use Rattle.tl_commits.proofs.Pieces.{below-more, below-none}
use Rattle.tl_commits.proofs.block_values.BlockValues.is_clean.Goals as goal

pub loop-place-init : goal.loop-place-init
loop-place-init c = λ w complete n block e k. below-none (λ place. is_kept complete n (64 * block + place) e)

pub loop-place-preserved : goal.loop-place-preserved
loop-place-preserved c = λ w complete n block e k.
    below-more c.loop-place.place (λ place. is_kept complete n (64 * block + place) e) c.is_kept.result c.loop-place.all
    c.both-all.result (c.is_kept.ensures w complete n block e k c.loop-place-test.true)
    (c.loop-place.invariant w complete n block e k) c.both-all.ensures

pub returns : goal.returns
returns c = λ w complete n block e k. c.loop-place.invariant w complete n block e k ∙ ap (λ n'. each_below n'
    (λ place. is_kept complete n (64 * block + place) e))
    (omega (arith, c.loop-place-test.false, c.loop-place.auto.place-end))
