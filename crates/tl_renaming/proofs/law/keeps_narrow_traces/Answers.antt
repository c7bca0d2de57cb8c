use Rattle.tl_renaming.proofs.Widened.{narrow-kept}
use Rattle.tl_renaming.proofs.law.keeps_narrow_traces.Goals as goal

pub returns : goal.returns
returns g c = λ l levels trace lines. narrow-kept g.row.W c.requires l levels trace lines
