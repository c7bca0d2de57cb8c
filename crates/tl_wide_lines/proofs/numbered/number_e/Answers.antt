use Rattle.std.proofs.Common.{refl, sym}
use Rattle.std.proofs.lemmas.Nat.{pow_pos}
use Rattle.tl_wide.specs.declared.beat.WideBeat.TheVariants as wide
use Rattle.tl_wide_lines.proofs.NumberedNames.{narrows-none, narrows-one}
use Rattle.tl_wide_lines.specs.code.ShortLine.{whole_id}
use Rattle.tl_wide_lines.proofs.numbered.number_e.Goals as goal

pub returns-in_default : goal.returns-in_default
returns-in_default g c =
    narrows-none {w = g.row.P} c.args.narrower.now c.acknowledgement.new.self c.args.link
    (wide.E (record { sink = whole_id c.args.high.sink c.args.beat.now.sink })) c.in_ok-named.field-0 c.in_default.is
    (λ t follows. c.in_ok-named.ensures g.row.P (record { sink = whole_id c.args.high.sink c.args.beat.now.sink }) t
    (sym c.whole_sink.ensures) follows)

pub returns : goal.returns
returns g c =
    narrows-one {w = g.row.P} c.args.narrower.now c.acknowledgement.new.self c.args.link
    (wide.E (record { sink = whole_id c.args.high.sink c.args.beat.now.sink })) c.in_ok-named.field-0 c.in-Some.named _
    c.requires.width c.requires.few (pow_pos g.row.P) c.in-Some.is
    (λ t follows. c.in_ok-named.ensures g.row.P (record { sink = whole_id c.args.high.sink c.args.beat.now.sink }) t
    (sym c.whole_sink.ensures) follows) refl
