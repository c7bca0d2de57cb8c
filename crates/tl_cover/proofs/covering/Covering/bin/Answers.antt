use Rattle.std.proofs.Common.{◌≡◌, ◌∙◌, ap, ap₂, sym}
use Rattle.std.proofs.lemmas.Option.{slice_get-get_or}
use Rattle.std.specs.Prelude.{Some, slice_get}
use Rattle.tl_cover.proofs.Answered.{bin_covered}
use Rattle.tl_cover.specs.statement.Covers.{bin_from}
use Rattle.tl_cover.proofs.covering.Covering.bin.Goals as goal

pub returns-in-Some-clause-counted : goal.returns-in-Some-clause-counted
returns-in-Some-clause-counted g c = λ levels l t closed covers.
    let place = c.in-Some.ensures.lookup in
    let found : slice_get c.args.self.now.pasts.items c.args.link.0 ≡ Some c.in-Some.past.now =
    ap₂ slice_get (sym c.deref.ensures.value) (sym c.from.ensures)
    ∙ slice_get-get_or c.deref.result.now c.from.result c.in-Some.past.now place.3.0 ∙ ap Some (sym place.1) in
    c.bin.ensures ∙ ap (bin_from g.row.W c.args.self.now.liberties c.args.number) (sym found)
    ∙ bin_covered c.args.self.now levels l t closed c.args.link.0 c.args.number covers
