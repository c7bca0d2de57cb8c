use Rattle.tl_chart.proofs.Granted.{granted_taken}
use Rattle.tl_chart.proofs.blocks.LinkBlocks.take.Goals as goal

pub returns-clause-known : goal.returns-clause-known
returns-clause-known g c = λ t knows is. granted_taken _ _ _ t _ c.of-block.result is (c.of-block.ensures t)
    c.grant.ensures c.take.ensures.asked c.take.ensures.released knows
