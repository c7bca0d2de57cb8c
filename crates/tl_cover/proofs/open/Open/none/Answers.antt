use Rattle.std.proofs.Common.{rules}
use Rattle.tl_cover.proofs.OpenSources.{open_none}
use Rattle.tl_cover.proofs.open.Open.none.Goals as goal

pub returns : goal.returns
returns c = λ w. open_none w _ (search rules) (search rules) (search rules) (search rules) (search rules)
