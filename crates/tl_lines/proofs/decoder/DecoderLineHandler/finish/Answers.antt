use Rattle.tl_lines.proofs.Decoded.{before-end}
use Rattle.tl_lines.proofs.decoder.DecoderLineHandler.finish.Goals as goal

pub returns-clause-finishes : goal.returns-clause-finishes
returns-clause-finishes g c = λ lines before known counted. before-end g.row.W lines _ known
