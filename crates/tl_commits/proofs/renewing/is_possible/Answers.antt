use Rattle.std.proofs.Common.{rules, sym, ◌∙◌}
use Rattle.tl_commits.proofs.AtOnce.{no-piece, valid-is}
use Rattle.tl_commits.proofs.renewing.is_possible.Goals as goal

pub is_piece_loadable-requires : goal.is_piece_loadable-requires
is_piece_loadable-requires g c = (
  search rules,
  (c.requires, valid-is c.args.loading.piece c.prove_addressed.ensures (sym c.is_valid.ensures ∙ c.if-is_valid.true)),
)

pub returns-then-is_valid : goal.returns-then-is_valid
returns-then-is_valid g c = λ levels lib e k lt is. c.is_piece_loadable.ensures levels lib e k lt

pub returns : goal.returns
returns g c = λ levels lib e k lt is. no-piece c.args.loading.piece is (sym c.is_valid.ensures ∙ c.if-is_valid.false)
