use Rattle.std.proofs.Common.{rules, take, ◌∙◌}
use Rattle.tl_beat.specs.code.FromLeft.{placed}
use Rattle.tl_beat.proofs.Placed.{placed-read}
use Rattle.tl_beat.proofs.WellSpelled.{body-d}
use Rattle.tl_beat.proofs.ResponseLines.{response-line}
use Rattle.tl_beat.proofs.WholeLines.{as_line}
use Rattle.tl_beat.proofs.read.whole.response.Goals as goal

pub returns : goal.returns
returns g c =
    let line = c.in_ok-line.line.now in
    let spelled = c.in_ok-line.ensures in
    let read = response-line g.row.W line spelled.1 spelled.2 in
    as_line c.args.line.now line (take 22 line) c.ok.result _ c.place_d.new.beat spelled.0 read.1
    (placed-read c.place_d.result _ c.place_d.new.beat _ _ (search rules)
    (body-d (take 22 line) (placed c.place_d.result c.place_d.new.beat) read.0.named read.0.spaced
    ((rw c.front_of-sink.ensures at c.place_d.ensures.read) ∙ read.0.same)) c.place_d.ensures.unchanged)
