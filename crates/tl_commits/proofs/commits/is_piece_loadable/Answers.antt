use Rattle.std.proofs.Common.{◌+◌, ◌%◌, ◌^◌, ◌∙◌, arith, ap}
use Rattle.std.proofs.lemmas.Bool.{eqb-true}
use Rattle.tl_rules.specs.statement.Legality.{each_below}
use Rattle.tl_commits.specs.statement.Commits.{is_loadable}
use Rattle.tl_commits.proofs.Pieces.{below-more, below-none, most-bytes, piece-fits}
use Rattle.tl_commits.proofs.commits.is_piece_loadable.Goals as goal

pub loop-i-init : goal.loop-i-init
loop-i-init g c = λ levels lib e k lt. below-none (λ i. is_loadable c.args.link.0 (c.args.piece.address + i) e)

pub overflow_add-piece : goal.overflow_add-piece
overflow_add-piece g c = omega (
  arith,
  piece-fits c.args.piece.size c.args.piece.address c.loop-i.i c.requires.piece.small
      c.requires.piece.in_range (eqb-true (c.args.piece.address % 2 ^ c.args.piece.size) 0 c.requires.piece.aligned)
      (omega (arith, c.loop-i-test.true, most-bytes c.args.piece.size c.requires.piece.small)),
)

pub loop-i-preserved : goal.loop-i-preserved
loop-i-preserved g c = λ levels lib e k lt.
    below-more c.loop-i.i (λ i. is_loadable c.args.link.0 (c.args.piece.address + i) e) c.is_loadable-loadable.result
    c.loop-i.all c.both-all.result (c.is_loadable-loadable.ensures levels lib e k lt)
    (c.loop-i.invariant levels lib e k lt) c.both-all.ensures

pub returns : goal.returns
returns g c = λ levels lib e k lt. c.loop-i.invariant levels lib e k lt ∙ ap (λ n. each_below n
    (λ i. is_loadable c.args.link.0 (c.args.piece.address + i) e))
    (omega (arith, c.loop-i-test.false, c.loop-i.auto.i-end, most-bytes c.args.piece.size c.requires.piece.small))
