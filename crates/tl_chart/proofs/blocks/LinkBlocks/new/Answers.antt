use Rattle.std.proofs.Common.{◌∙◌, sym}
use Rattle.tl_chart.proofs.Granted.{granted_none}
use Rattle.tl_chart.proofs.blocks.LinkBlocks.new.Goals as goal

pub returns : goal.returns
returns c = λ w. record {
  blocks_are = c.new.ensures w;
  granted_are = λ s. c.new-2.ensures s ∙ sym (granted_none w s);
}
