use Rattle.tl_beat.specs.declared.fault.LineFault.TheVariants.{F1}
use Rattle.tl_wide_lines.proofs.Decoded.{bad-line}
use Rattle.tl_wide_lines.proofs.JudgedLines.{open-fault}
use Rattle.tl_wide_lines.proofs.decoder.WideDecoderLineHandler.open_fault.Goals as goal

pub returns-clause-stops : goal.returns-clause-stops
returns-clause-stops g c = λ line said is. bad-line g.row.W line said F1 (open-fault g.row.W line is)
