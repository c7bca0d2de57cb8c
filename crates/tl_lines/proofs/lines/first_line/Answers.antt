use Rattle.tl_lines.proofs.FirstLine.{cut_line}
use Rattle.tl_lines.proofs.lines.first_line.Goals as goal

pub returns : goal.returns
returns c =
    let parts = cut_line c.args.bytes.now c.in_ok-end.end c.in_ok-end.ensures.0 c.in_ok-end.ensures.1 in
    rw (c.split_at.ensures.front, c.split_at.ensures.back) parts
