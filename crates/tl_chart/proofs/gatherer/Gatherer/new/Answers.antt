use Rattle.std.proofs.Common.{refl}
use Rattle.tl_chart.proofs.Gathering.{gathers_none}
use Rattle.tl_chart.proofs.gatherer.Gatherer.new.Goals as goal

pub returns-clause-gathers : goal.returns-clause-gathers
returns-clause-gathers c = λ w held. gathers_none w held _ c.new.ensures.items c.new-2.ensures.items refl refl refl
    (c.in_ok-new_links.ensures.known w)
