use Rattle.std.proofs.Common.{false, refl, sym}
use Rattle.tl_wide.proofs.Cut.{piece-b}
use Rattle.tl_wide.proofs.OnePart.{whole-lanes}
use Rattle.tl_wide.specs.declared.beat.WideBeat.TheVariants as wide
use Rattle.tl_wide_lines.proofs.NumberedNames.{narrows-none, narrows-one}
use Rattle.tl_wide_lines.specs.code.ShortLine.{widened_b}
use Rattle.tl_wide_lines.proofs.numbered.number_b.Goals as goal

pub returns-in_default : goal.returns-in_default
returns-in_default g c =
    let x = widened_b c.args.beat.now c.args.high in
    narrows-none c.args.narrower.now c.message.new.self c.args.link (wide.B x) c.in_ok-named.field-0 c.in_default.is
    (λ t follows. c.in_ok-named.ensures.b g.row.P x t (sym c.whole_address-address.ensures)
    (sym c.whole_source-source.ensures) follows)

pub returns : goal.returns
returns g c =
    let x = widened_b c.args.beat.now c.args.high in
    narrows-one c.args.narrower.now c.message.new.self c.args.link (wide.B x) c.in_ok-named.field-0 c.in-Some.named _
    c.requires.width c.requires.few c.requires.mask c.in-Some.is
    (λ t follows. c.in_ok-named.ensures.b g.row.P x t (sym c.whole_address-address.ensures)
    (sym c.whole_source-source.ensures) follows)
    (piece-b (wide.B x) x c.in-Some.named false c.args.beat.now.mask 0 _ refl refl refl refl refl refl refl
    (whole-lanes g.row.P c.args.beat.now.lanes c.requires.width c.requires.few c.requires.lanes) refl)
