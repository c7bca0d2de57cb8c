use Rattle.tl_wide_lines.proofs.Decoded.{decoded-end}
use Rattle.tl_wide_lines.proofs.decoder.WideDecoderLineHandler.finish.Goals as goal

pub returns-clause-finishes : goal.returns-clause-finishes
returns-clause-finishes g c = λ lines before known counted. decoded-end g.row.W lines _ known
