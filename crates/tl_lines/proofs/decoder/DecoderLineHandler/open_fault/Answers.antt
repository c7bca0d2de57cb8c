use Rattle.tl_beat.specs.declared.fault.LineFault.TheVariants.{F1}
use Rattle.tl_lines.proofs.Decoded.{bad_line, open_fault}
use Rattle.tl_lines.proofs.decoder.DecoderLineHandler.open_fault.Goals as goal

pub returns-clause-stops : goal.returns-clause-stops
returns-clause-stops g c = λ line said is. bad_line g.row.W line said F1 (open_fault g.row.W line is)
