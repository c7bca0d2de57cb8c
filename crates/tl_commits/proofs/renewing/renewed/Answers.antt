use Rattle.std.proofs.Common.{◌<◌, ap, arith, false, refl, ◌∙◌}
use Rattle.std.specs.Prelude.{slice_index_or}
use Rattle.tl_commits.proofs.PieceValues.{piece-room}
use Rattle.tl_commits.proofs.Pieces.{most-bytes}
use Rattle.tl_commits.proofs.renewing.renewed.Goals as goal

pub returns : goal.returns
returns g c = λ levels l complete e same k table lt is. record {
  link_is = refl;
  piece_is = refl;
  loadable_is = c.either.ensures ∙ rw (c.is_possible-now.ensures levels l e k lt is) refl;
  values_are = λ i v few small.
      let piece = c.args.loading.piece in
      let within : i < 8 = omega (arith, few, most-bytes piece.size is.small) in
      c.with_brought.ensures levels l complete e k lt table (c.is_complete-known.ensures
      ∙ ap (λ stores. slice_index_or stores c.args.loading.link.0 false) same) i v within (piece-room piece i is few) small;
}
