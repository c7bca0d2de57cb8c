use Rattle.std.proofs.Common.{arith, ap, sym, ◌∙◌, ◌≤◌}
use Rattle.std.specs.Prelude.{Some}
use Rattle.tl_rules.specs.statement.Effect.{byte_of}
use Rattle.tl_commits.proofs.PieceValues.{piece-place}
use Rattle.tl_commits.proofs.piece_values.piece_write.Goals as goal

pub returns : goal.returns
returns c = λ is p lt.
    let piece = c.args.piece in
    let small : piece.size ≤ 6 = omega (arith, is.small) in
    let there = c.any_write-any.ensures.written small p lt in (
      there,
      λ on.
          let at = piece-place piece p c.any_write-any.result.first is c.any_write-any.ensures.first (sym there ∙ on) in
          c.all.ensures _ (omega (arith, at.1)) ∙ ap Some (c.spread.ensures _ at.1 ∙ ap (byte_of c.args.value) at.0),
    )
