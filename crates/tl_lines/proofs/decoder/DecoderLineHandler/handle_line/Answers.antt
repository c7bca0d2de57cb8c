use Rattle.tl_lines.proofs.Decoded.{bad_line, good_line}
use Rattle.tl_lines.proofs.decoder.DecoderLineHandler.handle_line.Goals as goal

pub returns-in_ok-append_text-in-Ok-clause-judges : goal.returns-in_ok-append_text-in-Ok-clause-judges
returns-in_ok-append_text-in-Ok-clause-judges g c =
    let spelled = c.in-Ok.ensures.spelled in
    good_line g.row.W c.args.line.now _ _ spelled.0 c.in-Ok.beat spelled.1
    (c.in_ok-append_text-in-Ok.ensures spelled.0 spelled.1)

pub returns-in-Err-clause-judges : goal.returns-in-Err-clause-judges
returns-in-Err-clause-judges g c = bad_line g.row.W c.args.line.now _ c.in-Err.fault c.in-Err.ensures.fault
