use Rattle.std.proofs.Common.{rules, take, ◌∙◌}
use Rattle.tl_beat.specs.code.FromLeft.{placed}
use Rattle.tl_beat.proofs.Placed.{placed-read}
use Rattle.tl_beat.proofs.WellSpelled.{body-c}
use Rattle.tl_beat.proofs.ReportLines.{report_data-line}
use Rattle.tl_beat.proofs.WholeLines.{as_line}
use Rattle.tl_beat.proofs.read.whole.report_data.Goals as goal

pub returns : goal.returns
returns g c =
    let line = c.in_ok-line.line.now in
    let spelled = c.in_ok-line.ensures in
    let read = report_data-line g.row.W line c.address_in.result c.lanes_in.result spelled.1 spelled.2 c.address_in.ensures c.lanes_in.ensures in
    as_line c.args.line.now line (take 41 line) c.ok.result _ c.place_c.new.beat spelled.0 read.1
    (placed-read c.place_c.result _ c.place_c.new.beat _ _ (search rules)
    (body-c (take 41 line) (placed c.place_c.result c.place_c.new.beat) read.0.named read.0.spaced
    ((rw c.front_of.ensures at c.place_c.ensures.read) ∙ read.0.same)) c.place_c.ensures.unchanged)
