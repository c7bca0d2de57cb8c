use Rattle.std.proofs.Common.{refl, rules}
use Rattle.tl_cover.proofs.Pasts.{past_none}
use Rattle.tl_cover.proofs.past.LinkPast.new.Goals as goal

pub returns-clause-past : goal.returns-clause-past
returns-clause-past c = λ w. past_none w _ (search rules) (search rules) (search rules) (search rules) (search rules)
    (search rules) (c.none.ensures w) refl (search rules)
