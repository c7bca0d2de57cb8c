use Rattle.std.proofs.Common.{take}
use Rattle.tl_beat.proofs.MaskedLines.{masked-line}
use Rattle.tl_beat.proofs.WholeLines.{as_line}
use Rattle.tl_beat.proofs.read.whole.masked.Goals as goal

pub returns : goal.returns
returns g c =
    let line = c.in_ok-line.line.now in
    let spelled = c.in_ok-line.ensures in
    let read = masked-line g.row.W line c.address_in-address.result c.requires spelled.1 spelled.2
    c.address_in-address.ensures in
    as_line c.args.line.now line (take 29 line) c.place_masked.result _ c.place_masked.new.beat spelled.0 read.1
    (c.place_masked.ensures (take 29 line) (rw (c.front_of.ensures, c.from-mask.ensures, c.two_digits.ensures) read.0))
