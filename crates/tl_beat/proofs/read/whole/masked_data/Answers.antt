use Rattle.std.proofs.Common.{take}
use Rattle.tl_beat.proofs.MaskedLines.{masked_data-line}
use Rattle.tl_beat.proofs.WholeLines.{as_line}
use Rattle.tl_beat.proofs.read.whole.masked_data.Goals as goal

pub returns : goal.returns
returns g c =
    let line = c.in_ok-line.line.now in
    let spelled = c.in_ok-line.ensures in
    let read = masked_data-line g.row.W line c.address_in-address.result c.lanes_in.result c.requires spelled.1 spelled.2
    c.address_in-address.ensures c.lanes_in.ensures in
    as_line c.args.line.now line (take 44 line) c.place_masked.result _ c.place_masked.new.beat spelled.0 read.1
    (c.place_masked.ensures (take 44 line) (rw (c.front_of.ensures, c.from-mask.ensures, c.two_digits.ensures) read.0))
