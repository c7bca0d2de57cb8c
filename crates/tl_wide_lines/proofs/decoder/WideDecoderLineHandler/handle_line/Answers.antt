use Rattle.std.proofs.Common.{sym}
use Rattle.tl_wide_lines.proofs.Decoded.{bad-line, good-line}
use Rattle.tl_wide_lines.proofs.decoder.WideDecoderLineHandler.handle_line.Goals as goal

pub returns-in_ok-append_wide_text-in-Ok-clause-judges : goal.returns-in_ok-append_wide_text-in-Ok-clause-judges
returns-in_ok-append_wide_text-in-Ok-clause-judges g c =
    good-line g.row.W c.args.line.now _ _ c.in-Ok.link c.read_wide_into.new.beat c.in-Ok.ensures.spelled
    c.in_ok-append_wide_text-in-Ok.ensures

pub returns-in-Err-clause-judges : goal.returns-in-Err-clause-judges
returns-in-Err-clause-judges g c = bad-line g.row.W c.args.line.now _ c.in-Err.fault (sym c.in-Err.ensures.fault)
